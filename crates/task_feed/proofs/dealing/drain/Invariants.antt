use Rattle.std.proofs.Common.{◌≡◌, ◌≤◌, ◌<◌, ◌++◌, [], All}
use Rattle.std.specs.Vec.{vec_capacity}
use Rattle.crossbeam_queue.specs.Passes.{IsPassOf, view}
use Rattle.task_feed.specs.Dealt.{IsAscending}
use Rattle.task_feed.specs.Hands.{hand}
use Rattle.task_feed.proofs.dealing.drain.Given as goal

abbrev pub invariant-loop : goal.invariant-loop
invariant-loop g l = record {
  goes : (goal.iterator-loop g).can_next l.iterator' × (goal.iterator-loop g).is_finite l.iterator';
  pass : IsPassOf l.queue l.pass;
  hand_is : view l.pass ≡ hand (view l.fn.pass).parts (view l.fn.pass).all (view l.fn.pass).put (view l.pass).due (view l.fn.pass).ends ((view l.fn.pass).taken ++ l.left.items);
  ascending : IsAscending l.left.items;
  within : All (λ task. task < (view l.fn.pass).put) l.left.items;
  room : (view l.fn.pass).put ≤ vec_capacity l.left;
  ended : 0 < (view l.fn.pass).ends → l.left.items ≡ [];
}
