-- The field slots of objects that the words hold.
use Rattle.std.proofs.Common.{◌≡◌, ℕ, ◌+◌, ◌*◌, ◌/◌, ◌≤◌, ◌<◌, Option, Some, None, IsSome, true≢false, length, get_or, refl, sym, ap, ◌∙◌, arith}
use Rattle.std.specs.List.{All}
use Rattle.std.proofs.lemmas.List.Elements.{All-get_or}
use Rattle.object_layout.specs.declared.names.Name.{Name}
use Rattle.object_layout.specs.declared.TheConstants.{OBJECT_WORDS}
use Rattle.heap_words.specs.declared.map.Areas.{Areas}
use Rattle.heap_words.specs.Map.{heap_length, page_words}
use Rattle.heap_words.specs.Contents.{Contents}
use Rattle.epoch_lattice.specs.declared.TheConstants.{MAX_DEPTH}
use Rattle.epoch_lattice.specs.Lattice.{IsValid, space_index}
use Rattle.epoch_lattice.proofs.Numbers.{number-own}
use Rattle.yak_model.specs.declared.datum.Datum.{Datum}
use Rattle.yak_model.specs.declared.datum.Datum.TheVariants.{Null, Int, Object}
use Rattle.yak_model.specs.State.{IsDatum, Thing}
use Rattle.yak_model.specs.Placed.{HeapStands, Places, datum_word, size_by, space_word, words_by}
use Rattle.yak_model.specs.Recorded.{Enters}
use Rattle.yak_model.proofs.Placed.{in_page}
use Rattle.remember_sets.specs.Filed.{IsSlot, page_word}
use Rattle.remember_sets.proofs.Entering.{Enter}

pub some-of : {A : Type 0} (x : Option A) → IsSome x → (a : A) × (x ≡ Some a)
some-of None h = absurd (true≢false (sym h))
some-of (Some a) h = (a, refl)

-- a word that refers is that of a reference to a present object
pub goal-of : (objects : Name → Option Thing) (at : Name → ℕ) (d : Datum) (b : ℕ) → IsDatum objects d → datum_word at d ≡ 2 * (b + 1) → (x : Name) × (d ≡ Object x) × IsSome (objects x) × (b ≡ at x)
goal-of objects at Null b fits e = absurd (omega (arith, e))
goal-of objects at (Int i) b fits e = absurd (omega (arith, e))
goal-of objects at (Object x) b fits e = (x, refl, fits, (let q : b ≡ at x = omega (arith, e) in q))

-- a present object lies in the heap
pub in-heap : (m : Areas) (c : Contents) (objects : Name → Option Thing) (l : Places) (work : Name → ℕ) (n : Name) (o : Thing) → HeapStands m c.table c.heap objects l work → objects n ≡ Some o → l.at n + (length o.fields + OBJECT_WORDS) ≤ heap_length m
in-heap m c objects l work n o h e =
    let at = h.present n o e in
    let page = in_page (page_words m) (size_by objects) l n at.0 at.1 h.tiles at.2 in
    let size : size_by objects n ≡ length o.fields + OBJECT_WORDS = ap words_by e in
    omega (arith, page.1, size, at.2.page, h.count)

-- a field is a slot
pub field-slot : (m : Areas) (c : Contents) (objects : Name → Option Thing) (l : Places) (work : Name → ℕ) (n : Name) (o : Thing) (f : ℕ) → HeapStands m c.table c.heap objects l work → ((k : Name) (p : Thing) → objects k ≡ Some p → All (IsDatum objects) p.fields) → objects n ≡ Some o → f < length o.fields → IsSlot m c (l.at n + OBJECT_WORDS + f)
field-slot m c objects l work n o f h closed e lt = (
  omega (arith, in-heap m c objects l work n o h e, lt),
  λ b word.
      let x = goal-of objects l.at (get_or o.fields f Null) b (All-get_or (IsDatum objects) o.fields f Null lt (closed n o e)) (sym ((h.held n o e).fields f lt) ∙ word) in
      let p = some-of (objects x.0) x.2 in
      let place = x.3 in
      omega (arith, in-heap m c objects l work x.0 p.0 h p.1, place),
)

-- the page of a word of an object has the word of the object's space
pub page-of : (m : Areas) (c : Contents) (objects : Name → Option Thing) (l : Places) (work : Name → ℕ) (n : Name) (o : Thing) (j : ℕ) → HeapStands m c.table c.heap objects l work → objects n ≡ Some o → j < length o.fields + OBJECT_WORDS → page_word m c (l.at n + j) ≡ space_index o.home + 1
page-of m c objects l work n o j h e lt =
    let at = h.present n o e in
    let w = h.whole n at.0 at.1 at.2 in
    let page = in_page (page_words m) (size_by objects) l n at.0 at.1 h.tiles at.2 in
    let size : size_by objects n ≡ length o.fields + OBJECT_WORDS = ap words_by e in
    let q : (l.at n + j) / page_words m ≡ at.0 = omega (arith, page.0, page.1, size, lt) in
    ap (space_word c.table) q ∙ w.2 ∙ ap (λ (x : Thing). space_index x.home + 1) (same-thing w.0 o (sym w.1 ∙ e))
  where
    same-thing : (x y : Thing) → Some x ≡ Some y → x ≡ y
    same-thing x y e = cc

-- a field that crosses into a region enters it
pub crossing-enters : (m : Areas) (c : Contents) (objects : Name → Option Thing) (l : Places) (work : Name → ℕ) (n x : Name) (o p : Thing) (f : ℕ) → HeapStands m c.table c.heap objects l work → ((k : Name) (q : Thing) → objects k ≡ Some q → IsValid MAX_DEPTH q.home) → objects n ≡ Some o → f < length o.fields → get_or o.fields f Null ≡ Object x → objects x ≡ Some p → Enters o.home p.home → Enter m c p.home (l.at n + OBJECT_WORDS + f)
crossing-enters m c objects l work n x o p f h valid e lt refers reached enters =
    let here : page_word m c (l.at n + (OBJECT_WORDS + f)) ≡ space_index o.home + 1 = page-of m c objects l work n o (OBJECT_WORDS + f) h e (omega (arith, lt)) in
    let there : page_word m c (l.at x + 0) ≡ space_index p.home + 1 = page-of m c objects l work x p 0 h reached (omega arith) in
    let first : l.at x + 0 ≡ l.at x = omega arith in
    let place : l.at n + (OBJECT_WORDS + f) ≡ l.at n + OBJECT_WORDS + f = omega arith in
    record {
      goal = l.at x;
      refers = (h.held n o e).fields f lt ∙ ap (datum_word l.at) refers;
      into = ap (page_word m c) (sym first) ∙ there;
      from = λ z.
          let same : space_index p.home ≡ space_index o.home = omega (arith, sym here ∙ ap (page_word m c) place ∙ z) in
          enters.1 (number-own p.home o.home (valid x p reached) (valid n o e) same);
    }
