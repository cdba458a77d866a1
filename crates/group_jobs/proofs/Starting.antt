-- What a count by one worker begins with.
use Rattle.std.proofs.Common.{ℕ, ◌+◌, ◌≤◌, List, [], ◌∷◌, length, arith}
use Rattle.std.specs.List.{slice_split}
use Rattle.std.proofs.lemmas.List.Elements.{All-nil, All-cons}
use Rattle.std.proofs.lemmas.List.Sums.{count_by-le-length, length-filter}
use Rattle.std.proofs.lemmas.List.Splits.{length-slice_split}
use Rattle.yak_model.specs.Texts.{is_word, parts_words, words_of}
use Rattle.group_jobs.specs.declared.tasks.Task.{Task}
use Rattle.group_jobs.specs.Tallies.{AreWithin}
use Rattle.group_jobs.specs.Tasks.{AreTasks, AreTasksFrom}

-- A text has at most one word more than it has bytes.
pub few_words : (bytes : List ℕ) → length (words_of bytes) ≤ length bytes + 1
few_words bytes =
    omega (
      arith,
      length-filter is_word (slice_split parts_words bytes),
      count_by-le-length is_word (slice_split parts_words bytes),
      length-slice_split parts_words bytes,
      count_by-le-length parts_words bytes,
    )

within_from : (bytes : List ℕ) (lines place : ℕ) (tasks : List Task) → AreTasksFrom bytes lines place tasks → AreWithin bytes tasks
within_from bytes lines place [] are = All-nil (λ task. (task.start ≤ task.end) × (task.end ≤ length bytes))
within_from bytes lines place (task ∷ tasks) are =
    All-cons (λ t. (t.start ≤ t.end) × (t.end ≤ length bytes)) task tasks (let h = are.1.some in omega (arith, h), are.1.within) (within_from bytes lines task.end tasks are.2)

pub tasks_within : (bytes : List ℕ) (lines : ℕ) (tasks : List Task) → AreTasks bytes lines tasks → AreWithin bytes tasks
tasks_within bytes lines tasks are = within_from bytes lines 0 tasks are

from_few : (bytes : List ℕ) (lines place : ℕ) (tasks : List Task) → AreTasksFrom bytes lines place tasks → place + length tasks ≤ length bytes
from_few bytes lines place [] are = omega (arith, are)
from_few bytes lines place (task ∷ tasks) are = let rest = from_few bytes lines task.end tasks are.2 in let some = are.1.some in let start = are.0 in omega arith

-- A text has at most as many tasks as bytes.
pub few_tasks : (bytes : List ℕ) (lines : ℕ) (tasks : List Task) → AreTasks bytes lines tasks → length tasks ≤ length bytes
few_tasks bytes lines tasks are = let few = from_few bytes lines 0 tasks are in omega arith
