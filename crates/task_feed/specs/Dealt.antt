-- Tasks that are dealt out into rows, each by its number.
use Rattle.std.specs.Prelude.{◌≡◌, ℕ, ◌+◌, ◌<◌, ◌==◌, List, All, AllPairs, cond, count_by, nat_lt, sum_by}

-- Each number is below all that follow it.
abbrev pub IsAscending : List ℕ → Type 0
IsAscending row = AllPairs (λ task later. task < later) row

-- at how many places a task stands
abbrev pub places : ℕ → List ℕ → ℕ
places task row = count_by (λ other. other == task) row

-- Each of n tasks stands in the rows and in what is left together exactly once, and no other number does. Each row is ascending.
pub record IsDealt (n : ℕ) (rows : List (List ℕ)) (left : List ℕ) : Type 0 where
  pub once : (task : ℕ) → sum_by (places task) rows + places task left ≡ cond (nat_lt task n) 1 0
  pub ascending : All IsAscending rows
