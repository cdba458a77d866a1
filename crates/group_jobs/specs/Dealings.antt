-- Words of tasks that are dealt out to workers.
use Rattle.std.specs.Prelude.{ℕ, List, [], filter_map, flat_map, slice_index_or}
use Rattle.std.specs.List.{slice_get}
use Rattle.group_jobs.specs.Tallies.{words_in}
use Rattle.group_jobs.specs.declared.tasks.Task.{Task}

-- the tasks of a row, which has their numbers
abbrev pub tasks_at : List Task → List ℕ → List Task
tasks_at tasks row = filter_map (slice_get tasks) row

-- the row of a worker, numbered from 0
abbrev pub row_at : List (List ℕ) → ℕ → List ℕ
row_at rows worker = slice_index_or rows worker []

-- the words of a row of tasks
abbrev pub words_at : List ℕ → List Task → List ℕ → List (List ℕ)
words_at bytes tasks row = words_in bytes (tasks_at tasks row)

-- the words of all rows, row by row
abbrev pub dealt_words : List ℕ → List Task → List (List ℕ) → List (List ℕ)
dealt_words bytes tasks rows = flat_map (words_at bytes tasks) rows
