-- Fixed shares of tasks.
use Rattle.std.specs.Prelude.{ℕ, ◌%◌, ◌==◌, List, filter, map}
use Rattle.std.specs.List.{range_with_len}

-- the tasks of one of so many workers, where each task goes to the worker that its number leaves as a remainder
abbrev pub share_of : ℕ → ℕ → ℕ → List ℕ
share_of tasks workers worker = filter (λ task. task % workers == worker) (range_with_len 0 tasks)

-- the shares of all workers, in order
abbrev pub fixed_shares : ℕ → ℕ → List (List ℕ)
fixed_shares tasks workers = map (share_of tasks workers) (range_with_len 0 workers)
