-- What the queue of a feed holds.
use Rattle.std.proofs.Common.{◌≡◌, ℕ, zero, suc, ◌+◌, List, [], ◌∷◌, ◌++◌, Option, Some, None, ◌⊎◌, inl, inr, length, refl, ap, ◌∙◌, arith}
use Rattle.task_feed.specs.Hands.{slips}

pub slips_task : (from tasks : ℕ) → slips from tasks 0 ++ Some (from + tasks) ∷ [] ≡ slips from (suc tasks) 0
slips_task from zero = ap (λ (n : ℕ). Some n ∷ []) (omega arith)
slips_task from (suc tasks) =
    ap (λ (l : List (Option ℕ)). Some from ∷ l) (ap (λ (n : ℕ). slips (suc from) tasks 0 ++ Some n ∷ []) (omega arith) ∙ slips_task (suc from) tasks)

pub slips_sign : (from tasks signs : ℕ) → slips from tasks signs ++ None ∷ [] ≡ slips from tasks (suc signs)
slips_sign from zero zero = refl
slips_sign from zero (suc signs) = ap (λ (l : List (Option ℕ)). None ∷ l) (slips_sign from zero signs)
slips_sign from (suc tasks) signs = ap (λ (l : List (Option ℕ)). Some from ∷ l) (slips_sign (suc from) tasks signs)

pub length_slips : (from tasks signs : ℕ) → length (slips from tasks signs) ≡ tasks + signs
length_slips from zero zero = refl
length_slips from zero (suc signs) = omega (arith, length_slips from zero signs)
length_slips from (suc tasks) signs = omega (arith, length_slips (suc from) tasks signs)

-- The first is the next task, or where no task is left a sign of the end.
abbrev pub IsFirst : Option ℕ → List (Option ℕ) → ℕ → ℕ → ℕ → Type 0
IsFirst x items from tasks signs =
    ((more : ℕ) × (tasks ≡ suc more) × (x ≡ Some from) × (items ≡ slips (suc from) more signs))
    ⊎ ((more : ℕ) × (tasks ≡ 0) × (signs ≡ suc more) × (x ≡ None) × (items ≡ slips from 0 more))

pub first : (x : Option ℕ) (items : List (Option ℕ)) (from tasks signs : ℕ) → x ∷ items ≡ slips from tasks signs → IsFirst x items from tasks signs
first x items from zero zero e = cc
first x items from zero (suc signs) e = inr (signs, refl, refl, (cc), (cc))
first x items from (suc tasks) signs e = inl (tasks, refl, (cc), (cc))
