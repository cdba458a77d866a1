use Rattle.std.proofs.Common.{◌≡◌, ◌+◌, ◌<◌, ◌≤◌, ◌++◌, ◌⊎◌, ℕ, true, All, Any, length, map, sum_by}
use Rattle.std.specs.Vec.{vec_capacity}
use Rattle.crossbeam_queue.specs.Passes.{IsPassOf, view}
use Rattle.task_feed.specs.Dealt.{places}
use Rattle.task_feed.specs.FeedContents.{lists_in}
use Rattle.task_feed.specs.Takers.{TakesFrom, has_ended, row_of}
use Rattle.task_feed.proofs.dealing.gather.Given as goal

abbrev pub invariant-loop-takers : goal.invariant-loop-takers
invariant-loop-takers l = record {
  pass : IsPassOf l.tasks.queue l.pass;
  parts : (view l.pass).parts + length l.takers.items ≡ l.tasks.takers;
  some_part : 0 < (view l.pass).parts;
  all : (view l.pass).all ≡ l.tasks.takers;
  put : (view l.pass).put ≡ l.tasks.tasks;
  made : All (TakesFrom l.tasks) l.takers.items;
  rows : lists_in l.rows.items ++ map row_of l.takers.items ≡ map row_of l.fn.takers.items;
  room : length l.rows.items + length l.takers.items ≤ vec_capacity l.rows;
  taken : (task : ℕ) → places task (view l.pass).taken ≡ sum_by (places task) (lists_in l.rows.items);
  ended : Any (λ taker. has_ended taker ≡ true) l.fn.takers.items → (0 < (view l.pass).ends) ⊎ Any (λ taker. has_ended taker ≡ true) l.takers.items;
}

abbrev pub decreases-loop-takers : goal.decreases-loop-takers
decreases-loop-takers l = length l.takers.items
