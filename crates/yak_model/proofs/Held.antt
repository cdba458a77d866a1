-- Which objects the stacks hold, and the marks with which a collection begins.
use Rattle.std.proofs.Common.{◌≡◌, ◌≢◌, ◌⊎◌, ◌↔◌, ℕ, zero, suc, ◌+◌, ◌-◌, ◌<◌, ◌≤◌, List, [], ◌∷◌, ◌++◌, Bool, true, false, length, get_or, refl, ◌∙◌, ap, sym, subst, inl, inr, arith}
use Rattle.std.proofs.lemmas.List.{get_or_default}
use Rattle.std.specs.List.{Contains}
use Rattle.object_layout.specs.declared.names.Name.{Name}
use Rattle.epoch_lattice.specs.declared.Space.TheVariants.{Control}
use Rattle.yak_model.specs.declared.datum.Datum.TheVariants as datum
use Rattle.yak_model.specs.Graph.{Thread, idle}
use Rattle.yak_model.specs.Kept.{IsFirst, IsHeld, IsMarked, Kept, nobody}
use Rattle.yak_model.proofs.Marks.{place_is, same_or_other_place}

pub thread_is : (threads : List Thread) (k : ℕ) (state : Thread) → k < length threads → state ≡ get_or threads k state → get_or threads k idle ≡ state
thread_is threads k state lt is = get_or_default threads k idle state lt ∙ sym is

pub held_at : (threads : List Thread) (k : ℕ) (state : Thread) (name : Name) → k < length threads → state ≡ get_or threads k state → Contains state.stack (datum.Object name) → IsHeld threads name
held_at threads k state name lt is held =
    let same : k + 1 - 1 ≡ k = omega arith in
    (k + 1, (omega arith, omega arith), subst (λ (x : Thread). Contains x.stack (datum.Object name)) (sym (ap (λ p. get_or threads p idle) same ∙ thread_is threads k state lt is)) held)

pub none_held_more : (threads : List Thread) (k : ℕ) (state : Thread) (name : Name) → k < length threads → state ≡ get_or threads k state → (Contains state.stack (datum.Object name) → ⊥)
    → ((j : ℕ) → j < k → Contains (get_or threads j idle).stack (datum.Object name) → ⊥)
    → (j : ℕ) → j < k + 1 → Contains (get_or threads j idle).stack (datum.Object name) → ⊥
none_held_more threads k state name lt is free below j h held =
    elim (same_or_other_place j k) [
      | inl e ↦ free (subst (λ (x : Thread). Contains x.stack (datum.Object name)) (ap (λ p. get_or threads p idle) e ∙ thread_is threads k state lt is) held)
      | inr o ↦ below j (omega (arith, o)) held
    ]

pub none_held : (threads : List Thread) (n : ℕ) (name : Name) → length threads ≤ n → ((j : ℕ) → j < n → Contains (get_or threads j idle).stack (datum.Object name) → ⊥) → IsHeld threads name → ⊥
none_held threads n name le none held = none (held.0 - 1) (omega (arith, held.1.0, held.1.1)) held.2

at_end : (marks : List Bool) (b : Bool) → get_or (marks ++ b ∷ []) (length marks) false ≡ b
at_end [] b = refl
at_end (x ∷ marks) b = at_end marks b

before_end : (marks : List Bool) (b : Bool) (k : ℕ) → k < length marks → get_or (marks ++ b ∷ []) k false ≡ get_or marks k false
before_end [] b k h = absurd (omega arith)
before_end (x ∷ marks) b zero h = refl
before_end (x ∷ marks) b (suc k) h = before_end marks b k (omega arith)

pub marks_push : (threads : List Thread) (objects : List Kept) (marks : List Bool) (b : Bool) (n : ℕ) (kept : Kept) → n < length objects → length marks ≡ n → kept ≡ get_or objects n kept
    → (b ≡ true) ↔ (kept.home ≢ Control) ⊎ IsHeld threads kept.name
    → ((k : ℕ) → k < n → IsMarked marks k ↔ IsFirst threads objects k)
    → (k : ℕ) → k < n + 1 → IsMarked (marks ++ b ∷ []) k ↔ IsFirst threads objects k
marks_push threads objects marks b n kept lt size is here below k h =
    elim (same_or_other_place k n) [
      | inl e ↦
          let value : get_or (marks ++ b ∷ []) k false ≡ b = ap (λ p. get_or (marks ++ b ∷ []) p false) (e ∙ sym size) ∙ at_end marks b in
          let place : kept ≡ get_or objects k nobody = sym (ap (λ p. get_or objects p nobody) e ∙ place_is objects n kept kept lt is refl) in (
            λ m. subst (λ (o : Kept). (o.home ≢ Control) ⊎ IsHeld threads o.name) place (here.0 (sym value ∙ m)),
            λ first. value ∙ here.1 (subst (λ (o : Kept). (o.home ≢ Control) ⊎ IsHeld threads o.name) (sym place) first),
          )
      | inr o ↦
          let value : get_or (marks ++ b ∷ []) k false ≡ get_or marks k false = before_end marks b k (omega (arith, o)) in
          (λ m. (below k (omega (arith, o))).0 (sym value ∙ m), λ first. value ∙ (below k (omega (arith, o))).1 first)
    ]
