use Rattle.std.proofs.Common.{◌≡◌, []}
use Rattle.crossbeam_queue.specs.Passes.{IsPassOf, view}
use Rattle.task_feed.specs.Hands.{hand}
use Rattle.task_feed.proofs.dealing.put_tasks.Given as goal

abbrev pub invariant-loop-task : goal.invariant-loop-task
invariant-loop-task g l = IsPassOf l.queue l.pass × (view l.pass ≡ hand 1 1 l.task 0 0 [])
