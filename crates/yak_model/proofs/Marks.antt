-- Marks on a list of objects.
use Rattle.std.proofs.Common.{◌≡◌, ◌≢◌, ◌⊎◌, ℕ, ◌<◌, List, Bool, true, false, length, get_or, set, refl, ◌∙◌, sym, subst, inl, inr, eqb, get_or-set_other}
use Rattle.std.proofs.lemmas.List.{get_or_default}
use Rattle.std.specs.List.{Contains}
use borrow.Author.Tests.{eqb-true, eqb-false}
use Rattle.object_layout.specs.declared.names.Name.{Name}
use Rattle.yak_model.specs.declared.datum.Datum.TheVariants as datum
use Rattle.yak_model.specs.Kept.{AreDistinct, IsMarked, IsMarkedName, Kept, ListRefers, fields_of_place, name_at, nobody}
use Rattle.yak_model.specs.Spaces.{IsReached, onward, here}
use Rattle.yak_model.proofs.Lists.{set_cases}
use Rattle.yak_model.proofs.Walks.{reach_keeps}

pub same_or_other_place : (a b : ℕ) → (a ≡ b) ⊎ (a ≢ b)
same_or_other_place a b =
    elim (eqb a b) as (λ t. eqb a b ≡ t → (a ≡ b) ⊎ (a ≢ b)) [
      | true ↦ λ h. inl (eqb-true a b h)
      | false ↦ λ h. inr (eqb-false a b h)
    ] refl

pub marked_still : (marks : List Bool) (i k : ℕ) → IsMarked marks k → IsMarked (set marks i true) k
marked_still marks i k h = elim (set_cases marks i k true false) [ inl e ↦ e | inr e ↦ e ∙ h ]

pub marked_before : (marks : List Bool) (i k : ℕ) → IsMarked (set marks i true) k → (k ≡ i) ⊎ IsMarked marks k
marked_before marks i k h =
    elim (same_or_other_place k i) [
      | inl e ↦ inl e
      | inr o ↦ inr (sym (get_or-set_other marks i k true false o) ∙ h)
    ]

abbrev pub Roots : List Kept → List Bool → Name → Type 0
Roots objects marks root = (j : ℕ) × (j < length objects) × IsMarked marks j × (name_at objects j ≡ root)

pub sound_more : (objects : List Kept) (first marks : List Bool) (i j : ℕ) → j < length objects → IsMarked marks j → Contains (fields_of_place objects j) (datum.Object (name_at objects i))
    → ((k : ℕ) → k < length objects → IsMarked marks k → IsReached (ListRefers objects) (Roots objects first) (name_at objects k))
    → (k : ℕ) → k < length objects → IsMarked (set marks i true) k → IsReached (ListRefers objects) (Roots objects first) (name_at objects k)
sound_more objects first marks i j lt marked refers sound k below h =
    elim (marked_before marks i k h) [
      | inl e ↦
          let base : IsReached (ListRefers objects) (Roots objects first) (name_at objects j) = sound j lt marked in
          subst (λ p. IsReached (ListRefers objects) (Roots objects first) (name_at objects p)) (sym e)
          (base.0, base.1, onward base.2 (j, lt, refl, refers))
      | inr old ↦ sound k below old
    ]

pub sound_first : (objects : List Kept) (marks : List Bool) (k : ℕ) → k < length objects → IsMarked marks k → IsReached (ListRefers objects) (Roots objects marks) (name_at objects k)
sound_first objects marks k lt h = (name_at objects k, (k, lt, h, refl), here)

pub complete_at_end : (objects : List Kept) (first marks : List Bool) → AreDistinct objects
    → ((k : ℕ) → IsMarked first k → IsMarked marks k)
    → ((j : ℕ) (name : Name) → j < length objects → IsMarked marks j → Contains (fields_of_place objects j) (datum.Object name) → IsMarkedName objects marks name)
    → (name : Name) → IsReached (ListRefers objects) (Roots objects first) name → IsMarkedName objects marks name
complete_at_end objects first marks distinct kept closed name h =
    reach_keeps (ListRefers objects) (Roots objects first) (IsMarkedName objects marks)
    (λ n root i lt e. subst (IsMarked marks) (sym (distinct i root.0 lt root.1 (e ∙ sym root.3))) (kept root.0 root.2))
    (λ a b marked edge. closed edge.0 b edge.1 (marked edge.0 edge.1 edge.2) edge.3) name h

-- an element that a loop reads
pub place_is : (objects : List Kept) (j : ℕ) (found shown : Kept) → j < length objects → found ≡ get_or objects j found → shown ≡ found → get_or objects j nobody ≡ shown
place_is objects j found shown lt is view = get_or_default objects j nobody found lt ∙ sym is ∙ sym view
