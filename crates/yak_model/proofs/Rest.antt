-- What is left of a list of objects after some lose their space.
use Rattle.std.proofs.Common.{◌≡◌, ◌≢◌, ℕ, zero, suc, ◌<◌, ◌≤◌, List, [], ◌∷◌, Bool, true, false, true≢false, length, refl, ◌∙◌, arith, ap, sym, subst, inl, inr, Option, Some, None, is_some}
use Rattle.epoch_lattice.specs.declared.TheConstants.{MAX_DEPTH}
use Rattle.epoch_lattice.specs.declared.Space.{Space}
use Rattle.epoch_lattice.specs.Lattice.{IsValid}
use Rattle.yak_model.specs.Kept.{AreDistinct, AreHomesValid, AreValid, IsRest, IsTargetValid, Kept, fields_of_place, final, home_at, name_at, settled, target_at}
use Rattle.yak_model.proofs.Agreement.{same_or_other_space}
use Rattle.yak_model.proofs.Escaped.{all_valid}
use Rattle.yak_model.proofs.Settled.{head_differs, tail_distinct}

-- where an object of the rest was before
pub settled_from : (objects : List Kept) (homes : List (Option Space)) (i : ℕ) → i < length (settled objects homes)
    → (j : ℕ) × (j < length objects) × (name_at objects j ≡ name_at (settled objects homes) i) × (target_at homes j ≡ Some (home_at (settled objects homes) i)) × (fields_of_place objects j ≡ fields_of_place (settled objects homes) i)
settled_from [] homes i lt = absurd (omega arith)
settled_from (o ∷ rest) [] i lt = absurd (omega arith)
settled_from (o ∷ rest) (None ∷ homes) i lt =
    let r = settled_from rest homes i lt in
    (suc r.0, omega (arith, r.1), r.2, r.3, r.4)
settled_from (o ∷ rest) (Some home ∷ homes) zero lt = (0, omega arith, refl, refl, refl)
settled_from (o ∷ rest) (Some home ∷ homes) (suc i) lt =
    let r = settled_from rest homes i (omega arith) in
    (suc r.0, omega (arith, r.1), r.2, r.3, r.4)

settled_few : (objects : List Kept) (homes : List (Option Space)) → length (settled objects homes) ≤ length objects
settled_few [] homes = omega arith
settled_few (o ∷ rest) [] = omega arith
settled_few (o ∷ rest) (None ∷ homes) = omega (arith, settled_few rest homes)
settled_few (o ∷ rest) (Some home ∷ homes) = omega (arith, settled_few rest homes)

settled_distinct : (objects : List Kept) (homes : List (Option Space)) → AreDistinct objects → AreDistinct (settled objects homes)
settled_distinct [] homes distinct i j lt lu e = absurd (omega arith)
settled_distinct (o ∷ rest) [] distinct i j lt lu e = absurd (omega arith)
settled_distinct (o ∷ rest) (None ∷ homes) distinct i j lt lu e = settled_distinct rest homes (tail_distinct o rest distinct) i j lt lu e
settled_distinct (o ∷ rest) (Some home ∷ homes) distinct zero zero lt lu e = refl
settled_distinct (o ∷ rest) (Some home ∷ homes) distinct zero (suc j) lt lu e =
    let r = settled_from rest homes j (omega arith) in
    absurd (head_differs o rest distinct r.0 r.1 (r.2 ∙ sym e))
settled_distinct (o ∷ rest) (Some home ∷ homes) distinct (suc i) zero lt lu e =
    let r = settled_from rest homes i (omega arith) in
    absurd (head_differs o rest distinct r.0 r.1 (r.2 ∙ e))
settled_distinct (o ∷ rest) (Some home ∷ homes) distinct (suc i) (suc j) lt lu e =
    ap suc (settled_distinct rest homes (tail_distinct o rest distinct) i j (omega arith) (omega arith) e)

rest_settled : (objects : List Kept) (homes : List (Option Space)) → AreDistinct objects → AreValid MAX_DEPTH homes → IsRest objects (settled objects homes)
rest_settled objects homes distinct valid = record {
  distinct = settled_distinct objects homes distinct;
  valid = λ i lt. let r = settled_from objects homes i lt in valid r.0 _ r.3;
  names = λ i lt. let r = settled_from objects homes i lt in (r.0, r.1, r.2);
  fields = λ i lt. let r = settled_from objects homes i lt in (r.0, r.1, r.4);
  few = settled_few objects homes;
}

some_none : {X : Type 0} {x : X} → Some x ≡ None → ⊥
some_none e = true≢false (ap is_some e)

-- what a collection leaves
pub rest_collected : (objects : List Kept) (homes : List (Option Space)) (IsLive : ℕ → Type 0) → length homes ≡ length objects → AreDistinct objects → AreHomesValid objects
    → ((i : ℕ) → i < length objects → IsLive i → target_at homes i ≡ Some (home_at objects i))
    → ((i : ℕ) → i < length objects → (IsLive i → ⊥) → target_at homes i ≡ None)
    → IsRest objects (settled objects homes)
rest_collected objects homes IsLive size distinct valid kept dropped =
    rest_settled objects homes distinct (all_valid homes (λ i lt. by_target i (omega (arith, lt, size)) (target_at homes i) refl))
  where
    by_target : (i : ℕ) → i < length objects → (o : Option Space) → target_at homes i ≡ o → IsTargetValid o
    by_target i lt None e = tt
    by_target i lt (Some x) e =
        elim (same_or_other_space (home_at objects i) x) [
          | inl q ↦ subst (IsValid MAX_DEPTH) q (valid i lt)
          | inr n ↦ absurd (some_none (sym e ∙ dropped i lt (λ live. n (same (sym (kept i lt live) ∙ e)))))
        ]
      where
        same : Some (home_at objects i) ≡ Some x → home_at objects i ≡ x
        same q = cc

-- what the end of an epoch leaves
pub rest_ended : (objects : List Kept) (region : Space) (targets homes : List (Option Space)) (tight : Bool) → length homes ≡ length objects → AreDistinct objects → AreHomesValid objects → AreValid MAX_DEPTH targets
    → ((i : ℕ) → i < length objects → home_at objects i ≡ region → target_at homes i ≡ final tight (target_at targets i))
    → ((i : ℕ) → i < length objects → home_at objects i ≢ region → target_at homes i ≡ Some (home_at objects i))
    → IsRest objects (settled objects homes)
rest_ended objects region targets homes tight size distinct valid good inside outside =
    rest_settled objects homes distinct (all_valid homes (λ i lt. by_home i (omega (arith, lt, size))))
  where
    by_target : (i : ℕ) → (o : Option Space) → target_at targets i ≡ o → (b : Bool) → IsTargetValid (final b o)
    by_target i None e b = tt
    by_target i (Some x) e true = tt
    by_target i (Some x) e false = good i x e

    by_home : (i : ℕ) → i < length objects → IsTargetValid (target_at homes i)
    by_home i lt =
        elim (same_or_other_space (home_at objects i) region) [
          | inl q ↦ subst IsTargetValid (sym (inside i lt q)) (by_target i (target_at targets i) refl tight)
          | inr n ↦ subst IsTargetValid (sym (outside i lt n)) (valid i lt)
        ]
