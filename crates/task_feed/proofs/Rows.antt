-- Places in rows, and ascending rows.
use Rattle.std.proofs.Common.{◌≡◌, ℕ, zero, suc, ◌+◌, ◌<◌, ◌≤◌, ◌==◌, List, [], ◌∷◌, ◌++◌, All, cond, length, get_or, nat_lt, refl, arith}
use Rattle.std.proofs.lemmas.Bool.Decides.{nat_tests}
use Rattle.std.proofs.lemmas.List.Quantifiers.{all_pairs_push}
use Rattle.std.proofs.lemmas.List.Sums.{get_or-le-sum_by, sum_by-append, sum_by_push}
use Rattle.task_feed.specs.Dealt.{IsAscending, places}

-- one if the task is below the number, else none
pub below_one : ℕ → ℕ → ℕ
below_one task n = cond (nat_lt task n) 1 0

pub places_push : (task : ℕ) (row : List ℕ) (x : ℕ) → places task (row ++ x ∷ []) ≡ places task row + cond (x == task) 1 0
places_push task row x = sum_by_push (λ (other : ℕ). cond (other == task) 1 0) row x

pub places_append : (task : ℕ) (row more : List ℕ) → places task (row ++ more) ≡ places task row + places task more
places_append task row more = sum_by-append (λ (other : ℕ). cond (other == task) 1 0) row more

-- a task more is below the next number
pub below_more : (task n : ℕ) → cond (nat_lt task n) 1 0 + cond (n == task) 1 0 ≡ cond (nat_lt task (suc n)) 1 0
below_more task n = grind (arith, nat_tests)

same_one : (x : ℕ) → cond {A = ℕ} (x == x) 1 0 ≡ 1
same_one x = grind (arith, nat_tests)

pub stands : (row : List ℕ) (k d : ℕ) → k < length row → 1 ≤ places (get_or row k d) row
stands row k d h =
    let x = get_or row k d in
    let le = get_or-le-sum_by (λ (other : ℕ). cond (other == x) 1 0) row k d h in
    omega (arith, same_one x, le)

not_below : (task n k : ℕ) → 1 ≤ k → k ≤ cond (nat_lt task n) 1 0 → task < n
not_below task n k some le = grind (arith, nat_tests)

-- a row that has no place for a number from n on is below n
pub all_below : (row : List ℕ) (n : ℕ) → ((task : ℕ) → places task row ≤ cond (nat_lt task n) 1 0) → All (λ task. task < n) row
all_below row n le k d h = not_below (get_or row k d) n (places (get_or row k d) row) (stands row k d h) (le (get_or row k d))

pub ascends : (row : List ℕ) (x : ℕ) → IsAscending row → All (λ earlier. earlier < x) row → IsAscending (row ++ x ∷ [])
ascends row x is below = all_pairs_push (λ (task later : ℕ). task < later) row x is below

-- the k-th number of an ascending row is at least k
grown : (row : List ℕ) (k d : ℕ) → IsAscending row → k < length row → k ≤ get_or row k d
grown row zero d is h = omega arith
grown row (suc k) d is h =
    let before = grown row k d is (omega arith) in
    let step = is k (suc k) d (omega arith) h in
    omega (arith, before, step)

-- an ascending row below n has at most n numbers
pub row_fits : (row : List ℕ) (n : ℕ) → IsAscending row → All (λ task. task < n) row → length row ≤ n
row_fits row n is below = by (length row) refl
  where
    by : (k : ℕ) → length row ≡ k → length row ≤ n
    by zero e = omega arith
    by (suc k) e =
        let h : k < length row = omega arith in
        let least = grown row k 0 is h in
        let most = below k 0 h in
        omega (arith, least, most)
