use Rattle.std.proofs.Common.{◌≡◌, ◌-◌, ◌+◌, ◌≤◌, [], All, length}
use Rattle.std.specs.Vec.{vec_capacity}
use Rattle.crossbeam_queue.specs.Passes.{IsPassOf, view}
use Rattle.task_feed.specs.Hands.{hand}
use Rattle.task_feed.specs.Takers.{IsFresh, TakesFrom}
use Rattle.task_feed.proofs.dealing.make_takers.Given as goal

abbrev pub invariant-loop-taker : goal.invariant-loop-taker
invariant-loop-taker l = record {
  pass : IsPassOf l.tasks.queue l.pass;
  hand_is : view l.pass ≡ hand (l.tasks.takers + 1 - l._taker) l.tasks.takers l.tasks.tasks (l.tasks.takers + 1 - l._taker) 0 [];
  long : length l.made.items + 1 ≡ l._taker;
  room : l.tasks.takers ≤ vec_capacity l.made;
  made : All (λ taker. TakesFrom l.tasks taker × IsFresh taker) l.made.items;
}
