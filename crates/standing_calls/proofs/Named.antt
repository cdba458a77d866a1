-- The space state with a new object.
use Rattle.std.proofs.Common.{◌≡◌, ◌≢◌, ℕ, ◌+◌, ◌-◌, ◌≤◌, true, false, Some, [], ◌∷◌, ◌++◌, get_or, replicate, zero, suc, refl, sym, ap, subst, ◌∙◌, arith, inl, inr, is_some}
use Rattle.std.specs.FinMap as finite
use Rattle.std.proofs.Math.Seq.{map-set_same}
use Rattle.std.proofs.Math.Path.{fun_ext}
use Rattle.std.proofs.lemmas.List.{map-set}
use Rattle.object_layout.specs.declared.names.Name.{Name}
use Rattle.heap_words.specs.declared.map.Areas.{Areas}
use Rattle.heap_words.specs.Map.{HasThread, IsAreas, max_depth}
use Rattle.heap_words.specs.Contents.{Contents}
use Rattle.epoch_lattice.specs.declared.Space.{Space}
use Rattle.epoch_lattice.specs.Lattice.{IsValid, inner_of}
use Rattle.yak_model.specs.declared.datum.Datum.TheVariants.{Null, Object}
use Rattle.yak_model.specs.Graph.{standard_limits, Fields, Thread, idle, make, next_name, thread_of}
use Rattle.yak_model.specs.Spaces.{SpaceState, content_at, home_of, innermost}
use Rattle.yak_model.specs.State.{Thing, object_of, thing_of, view}
use Rattle.yak_model.specs.Placed.{same_name, with_object}
use Rattle.yak_model.specs.Stands.{IsWhole, Stands}
use Rattle.yak_model.proofs.Names.{get-same, get-other, same_or_other}
use Rattle.yak_model.proofs.Placed.{same_name-true, same_name-self}
use Rattle.yak_model.proofs.Stacks.{all-at, get_or-map_all, stack-shown}
use Rattle.standing_calls.proofs.Newly.{newly}

-- the object that a thread makes
abbrev pub new_thing : SpaceState → ℕ → ℕ → Thing
new_thing s t k = record { home = innermost s.graph t; fields = replicate k Null }

-- the state with it
abbrev pub named : SpaceState → ℕ → ℕ → SpaceState
named s t k = record { graph = make s.graph t k; home = finite.insert s.home (next_name s.graph t) (innermost s.graph t) }

other_test : (x n : Name) → x ≢ n → same_name x n ≡ false
other_test x n ne =
    elim (same_name x n) as (λ b. same_name x n ≡ b → b ≡ false) [
      | true ↦ λ e. absurd (ne (same_name-true x n e))
      | false ↦ λ e. refl
    ] refl

objects-named : (s : SpaceState) (t k : ℕ) → object_of (named s t k) ≡ with_object (object_of s) (next_name s.graph t) (new_thing s t k)
objects-named s t k = fun_ext (λ x.
    elim (same_or_other x (next_name s.graph t)) [
      | inl q ↦
          rw (q, same_name-self (next_name s.graph t)) (ap (thing_of (home_of (named s t k) (next_name s.graph t))) (get-same s.graph.objects (next_name s.graph t) (Fields (replicate k Null)))
          ∙ ap (λ h. thing_of h (Some (Fields (replicate k Null)))) (get-same s.home (next_name s.graph t) (innermost s.graph t)))
      | inr ne ↦
          rw (other_test x (next_name s.graph t) ne) (ap (thing_of (home_of (named s t k) x)) (get-other s.graph.objects (next_name s.graph t) (Fields (replicate k Null)) x ne)
          ∙ ap (λ h. thing_of h (content_at s.graph x)) (get-other s.home (next_name s.graph t) (innermost s.graph t) x ne))
    ])

-- the number of objects that a thread has made, and its depth, as they are shown
pub made-shown : (s : SpaceState) (t : ℕ) → get_or (view s).made (t - 1) 0 ≡ (thread_of s.graph t).made
made-shown s t = get_or-map_all (λ (th : Thread). th.made) s.graph.threads (t - 1) idle

pub depth-shown : (s : SpaceState) (t : ℕ) → get_or (view s).depths (t - 1) 0 ≡ (thread_of s.graph t).depth
depth-shown s t = get_or-map_all (λ (th : Thread). th.depth) s.graph.threads (t - 1) idle

pub view-named : (s : SpaceState) (t k : ℕ) → view (named s t k) ≡ newly (view s) (next_name s.graph t) (new_thing s t k) t
view-named s t k =
    let x : Thread = (let th = thread_of s.graph t in record th { stack = th.stack ++ Object (next_name s.graph t) ∷ []; made = th.made + 1 }) in
    rw (
      stack-shown s t,
      made-shown s t,
      map-set (λ (th : Thread). th.stack) s.graph.threads (t - 1) x,
      map-set_same (λ (th : Thread). th.depth) s.graph.threads (t - 1) x idle refl,
      map-set (λ (th : Thread). th.made) s.graph.threads (t - 1) x,
      objects-named s t k,
    ) refl

valid : (m : Areas) (t d : ℕ) → IsAreas m → HasThread m t → d ≤ max_depth m → IsValid standard_limits.depth (inner_of t d)
valid m t zero areas ht deep = tt
valid m t (suc d) areas ht deep = (ht.0, omega (arith, ht.1, areas.3), omega arith, deep)

-- the innermost space of a thread is valid
pub innermost-valid : (m : Areas) (c : Contents) (s : SpaceState) (h : Stands m c s) (t : ℕ) → IsAreas m → HasThread m t → IsValid s.graph.limits.depth (innermost s.graph t)
innermost-valid m c s h t areas ht =
    let deep : get_or (view s).depths (t - 1) 0 ≤ max_depth m = rw (← h.stands.depths) (all-at (λ i. i ≤ max_depth m) c.depths (t - 1) 0 (omega arith) h.stands.limits.depths) in
    let deep' : (thread_of s.graph t).depth ≤ max_depth m = rw (← depth-shown s t) deep in
    rw h.whole.limits (valid m t (thread_of s.graph t).depth areas ht deep')

some_home : (x y : Space) → Some x ≡ Some y → x ≡ y
some_home x y e = cc

-- the state with the new object is whole
pub whole-named : (m : Areas) (c : Contents) (s : SpaceState) (h : Stands m c s) (t k : ℕ) → IsAreas m → HasThread m t → IsWhole (named s t k)
whole-named m c s h t k areas ht =
    let n : Name = next_name s.graph t in
    record {
      limits = h.whole.limits;
      contents = λ x. elim (same_or_other x n) [
        | inl q ↦ rw q (ap is_some (get-same s.graph.objects n (Fields (replicate k Null))) ∙ sym (ap is_some (get-same s.home n (innermost s.graph t))))
        | inr ne ↦ ap is_some (get-other s.graph.objects n (Fields (replicate k Null)) x ne) ∙ h.whole.contents x ∙ sym (ap is_some (get-other s.home n (innermost s.graph t) x ne))
      ];
      homes = λ x y e. elim (same_or_other x n) [
        | inl q ↦ subst (IsValid s.graph.limits.depth) (some_home (innermost s.graph t) y (sym (get-same s.home n (innermost s.graph t)) ∙ ap (home_of (named s t k)) (sym q) ∙ e)) (innermost-valid m c s h t areas ht)
        | inr ne ↦ h.whole.homes x y (sym (get-other s.home n (innermost s.graph t) x ne) ∙ e)
      ];
    }
