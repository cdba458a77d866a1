-- What the words of a heap tell of its threads is what these have in the state for which the words stand.
use Rattle.std.proofs.Common.{◌≡◌, ◌==◌, ◌/◌, ◌%◌, ℕ, ◌+◌, ◌-◌, ◌*◌, ◌≤◌, ◌<◌, false, List, [], ◌∷◌, map, get_or, suc, Some, refl, ap, ◌∙◌, arith}
use Rattle.std.proofs.Math.Logic.{⊎_elim}
use Rattle.std.specs.List.{All}
use Rattle.std.proofs.lemmas.Bool.Decides.{nat_tests}
use Rattle.std.proofs.lemmas.Nat.{div-mul-add}
use Rattle.object_layout.specs.declared.names.Name.{Name}
use Rattle.object_layout.specs.declared.TheConstants.{MAX_SERIAL, NAME_UNIT}
use Rattle.object_layout.specs.Layout.{name_word}
use Rattle.heap_words.specs.declared.map.Areas.{Areas}
use Rattle.heap_words.specs.Contents.{Contents, depth_of, made_of, stack_of}
use Rattle.yak_model.specs.declared.datum.Datum.{Datum}
use Rattle.yak_model.specs.declared.datum.Datum.TheVariants.{Null, Int, Object}
use Rattle.yak_model.specs.Graph.{thread_of}
use Rattle.yak_model.specs.Graph as graph
use Rattle.yak_model.specs.Spaces.{SpaceState}
use Rattle.yak_model.specs.State.{IsDatum, Thing, object_of, view}
use Rattle.yak_model.specs.Placed.{datum_word}
use Rattle.yak_model.specs.Stands.{Stands}
use Rattle.yak_model.proofs.Data.{some-of}
use Rattle.yak_model.proofs.Stacks.{all-at, stack-fits, stack_words}
use Rattle.heap_core.specs.Callers.{datum_told, name_told, thread_told}
use Rattle.standing_calls.proofs.Named.{depth-shown, made-shown}

-- a name is read back from its word
serial-back : (t k : ℕ) → k < NAME_UNIT → (t * NAME_UNIT + k) % NAME_UNIT ≡ k
serial-back t k lt = omega (arith, lt)

name-back : (n : Name) → n.serial < NAME_UNIT → name_told (name_word n) ≡ n
name-back n lt =
    let t : (n.thread * NAME_UNIT + n.serial) / NAME_UNIT ≡ n.thread = div-mul-add n.thread NAME_UNIT n.serial lt in
    let s : (n.thread * NAME_UNIT + n.serial) % NAME_UNIT ≡ n.serial = serial-back n.thread n.serial lt in
    λ i. record { thread = t i; serial = s i }

-- a value is read back from its word
odd-told : (heap : List ℕ) (i : ℕ) → datum_told heap (2 * i + 1) ≡ Int i
odd-told heap i =
    let odd : (2 * i + 1) % 2 ≡ 1 = omega arith in
    let half : (2 * i + 1) / 2 ≡ i = omega arith in
    rw (odd, half) refl

even-told : (heap : List ℕ) (a : ℕ) → datum_told heap (2 * (a + 1)) ≡ Object (name_told (get_or heap (a + 1) 0))
even-told heap a =
    let even : (2 * (a + 1)) % 2 ≡ 0 = omega arith in
    let half : (2 * (a + 1)) / 2 ≡ a + 1 = omega arith in
    let some : (2 * (a + 1) == 0) ≡ false = grind (arith, nat_tests) in
    rw (even, some, half) refl

module _ (m : Areas) (c : Contents) (s : SpaceState) (h : Stands m c s) where
  -- the serial numbers of objects are within their limit
  serial-fits : (n : Name) (o : Thing) → object_of s n ≡ Some o → n.serial < NAME_UNIT
  serial-fits n o e = ⊎_elim
      (λ (root : (n.thread ≡ 0) × (n.serial ≡ 0)). omega (arith, root.1))
      (λ made. let most : get_or (view s).made (n.thread - 1) 0 ≤ MAX_SERIAL = all-at (λ k. k ≤ MAX_SERIAL) (view s).made (n.thread - 1) 0 (omega arith) h.stands.serials in omega (arith, made.3, most))
      (h.stands.names n o e)

  datum-back : (d : Datum) → IsDatum (object_of s) d → datum_told c.heap (datum_word h.places.at d) ≡ d
  datum-back Null fits = refl
  datum-back (Int i) fits = odd-told c.heap i
  datum-back (Object n) fits =
      let o = some-of (object_of s n) fits in
      even-told c.heap (h.places.at n)
      ∙ ap (λ w. Object (name_told w)) (h.stands.heap.held n o.0 o.1).name
      ∙ ap Object (name-back n (serial-fits n o.0 o.1))

  data-back : (ds : List Datum) → All (IsDatum (object_of s)) ds → map (datum_told c.heap) (map (datum_word h.places.at) ds) ≡ ds
  data-back [] fits = refl
  data-back (d ∷ ds) fits = λ i. datum-back d (fits 0 d (omega arith)) i ∷ data-back ds (λ k e lt. fits (suc k) e (omega (arith, lt))) i

  pub thread-told : (t : ℕ) → thread_told c t ≡ thread_of s.graph t
  thread-told t =
      let stack : map (datum_told c.heap) (stack_of c t) ≡ graph.stack_of s.graph t = ap (map (datum_told c.heap)) (stack_words m c s h t) ∙ data-back (graph.stack_of s.graph t) (stack-fits m c s h t) in
      let depth : depth_of c t ≡ (thread_of s.graph t).depth = ap (λ ds. get_or ds (t - 1) 0) h.stands.depths ∙ depth-shown s t in
      let made : made_of c t ≡ (thread_of s.graph t).made = ap (λ ks. get_or ks (t - 1) 0) h.stands.made ∙ made-shown s t in
      λ i. record { stack = stack i; depth = depth i; made = made i }
