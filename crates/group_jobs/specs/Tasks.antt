-- The tasks of a text.
use Rattle.std.specs.Prelude.{◌≡◌, ◌<◌, ◌≤◌, ◌-◌, ◌⊎◌, ◌==◌, ℕ, Bool, List, [], ◌∷◌, length, take, drop, slice_index, count_by}
use Rattle.group_jobs.specs.declared.tasks.Task.{Task}

-- a line feed
abbrev pub is_feed : ℕ → Bool
is_feed byte = byte == 10

-- The bytes are so many lines, each with its line feed.
abbrev pub AreWholeLines : ℕ → List ℕ → Type 0
AreWholeLines lines bytes = (count_by is_feed bytes ≡ lines) × (slice_index bytes (length bytes - 1) ≡ 10)

-- The bytes are fewer lines, or so many of which the last lacks its line feed.
abbrev pub AreFewerLines : ℕ → List ℕ → Type 0
AreFewerLines lines bytes = count_by is_feed bytes < lines

-- the bytes of a task
abbrev pub task_bytes : List ℕ → Task → List ℕ
task_bytes bytes task = take (task.end - task.start) (drop task.start bytes)

-- A task has some bytes of the text: so many whole lines, or fewer that reach the end of the text.
pub record IsTask (bytes : List ℕ) (lines : ℕ) (task : Task) : Type 0 where
  pub some : task.start < task.end
  pub within : task.end ≤ length bytes
  pub cut : AreWholeLines lines (task_bytes bytes task) ⊎ ((task.end ≡ length bytes) × AreFewerLines lines (task_bytes bytes task))

-- The tasks follow each other from a place on, and reach the end of the text.
abbrev pub AreTasksFrom : List ℕ → ℕ → ℕ → List Task → Type 0
AreTasksFrom bytes lines place [] = place ≡ length bytes
AreTasksFrom bytes lines place (task ∷ tasks) =
    (task.start ≡ place) × IsTask bytes lines task × AreTasksFrom bytes lines task.end tasks

-- The tasks follow each other and cover the text, each but the last with so many lines.
abbrev pub AreTasks : List ℕ → ℕ → List Task → Type 0
AreTasks bytes lines tasks = AreTasksFrom bytes lines 0 tasks
