-- Workers, each with the taker that deals it its tasks.
use Rattle.std.specs.Prelude.{◌≡◌, ℕ, ◌+◌, ◌<◌, true, List, [], length, slice_index_or, None}
use Rattle.safepoint_gate.specs.declared.gate.Gate.{Gate}
use Rattle.task_feed.specs.declared.feed.Feed.{Feed}
use Rattle.task_feed.specs.declared.takers.Taker.{Taker}
use Rattle.task_feed.specs.Takers.{has_ended, row_of}
use Rattle.group_jobs.specs.Dealings.{tasks_at}
use Rattle.group_jobs.specs.Workers.{HasCounted}
use Rattle.group_jobs.specs.declared.pairs.Pair.{Pair}
use Rattle.group_jobs.specs.declared.shares.Worker.{Worker}
use Rattle.group_jobs.specs.declared.tasks.Task.{Task}

-- the worker of a pair
abbrev pub worker_in : Pair → Worker
worker_in pair = pair.worker

-- its taker
abbrev pub taker_in : Pair → Taker
taker_in pair = pair.taking.taker

-- The taker is of the feed, and has taken no task yet. The worker is of the thread, and has counted none.
pub record MayFeed (gate : Gate) (feed : Feed) (t : ℕ) (bytes : List ℕ) (pair : Pair) : Type 0 where
  pub of_feed : pair.taking.feed.now ≡ feed
  pub fresh : row_of pair.taking.taker ≡ []
  pub counted : HasCounted gate t bytes [] pair.worker

-- The worker of the thread has counted the tasks that the taker took, and where it found room for all, no task was left to take.
pub record HasFed (gate : Gate) (feed : Feed) (t : ℕ) (bytes : List ℕ) (tasks : List Task) (pair : Pair) : Type 0 where
  pub of_feed : pair.taking.feed.now ≡ feed
  pub counted : HasCounted gate t bytes (tasks_at tasks (row_of pair.taking.taker)) pair.worker
  pub ended : pair.worker.refused ≡ None → has_ended pair.taking.taker ≡ true

-- Each pair is of the thread of its place, before they take tasks, and after.
abbrev pub AllMayFeed : Gate → Feed → List ℕ → List Pair → Type 0
AllMayFeed gate feed bytes pairs = (k : ℕ) (d : Pair) → k < length pairs → MayFeed gate feed (k + 1) bytes (slice_index_or pairs k d)

abbrev pub AllFed : Gate → Feed → List ℕ → List Task → List Pair → Type 0
AllFed gate feed bytes tasks pairs = (k : ℕ) (d : Pair) → k < length pairs → HasFed gate feed (k + 1) bytes tasks (slice_index_or pairs k d)
