-- Feeds and their takers.
use Rattle.std.specs.Prelude.{◌≡◌, ℕ, ◌<◌, ◌≤◌, Bool, false, List, [], All, cond}
use Rattle.std.specs.Vec.{vec_capacity}
use Rattle.crossbeam_queue.specs.Passes.{IsPassOf, view}
use Rattle.task_feed.specs.Dealt.{IsAscending}
use Rattle.task_feed.specs.Hands.{hand}
use Rattle.task_feed.specs.declared.feed.Feed.{Feed}
use Rattle.task_feed.specs.declared.feed.TaskQueue.{TaskQueue}
use Rattle.task_feed.specs.declared.takers.Taker.{Taker}

-- how many tasks a feed has, and how many takers
abbrev pub tasks_of : Feed → ℕ
tasks_of feed = feed.tasks.tasks

abbrev pub takers_of : Feed → ℕ
takers_of feed = feed.tasks.takers

-- the tasks that a taker took, in order
abbrev pub row_of : Taker → List ℕ
row_of taker = taker.taken.items

-- whether its last call gave no task
abbrev pub has_ended : Taker → Bool
has_ended taker = taker.ended

-- The taker is one of those of a queue.
pub record TakesFrom (tasks : TaskQueue) (taker : Taker) : Type 0 where
  pub pass : IsPassOf tasks.queue taker.pass
  pub hand_is : view taker.pass ≡ hand 1 tasks.takers tasks.tasks (cond taker.ended 0 1) (cond taker.ended 1 0) taker.taken.items
  pub ascending : IsAscending taker.taken.items
  pub within : All (λ task. task < tasks.tasks) taker.taken.items
  pub room : tasks.tasks ≤ vec_capacity taker.taken

-- This feed made the taker.
abbrev pub IsTakerOf : Feed → Taker → Type 0
IsTakerOf feed taker = TakesFrom feed.tasks taker

-- It has taken none yet.
pub record IsFresh (taker : Taker) : Type 0 where
  pub row : row_of taker ≡ []
  pub goes : has_ended taker ≡ false
