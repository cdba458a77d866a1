use Rattle.std.proofs.Common.{◌≡◌, ◌++◌, All, map}
use Rattle.std.specs.Vec.{vec_len}
use Rattle.task_feed.specs.Takers.{IsTakerOf}
use Rattle.task_feed.specs.declared.feed.Feed.{Feed}
use Rattle.group_jobs.specs.Pairs.{taker_in, worker_in}
use Rattle.group_jobs.proofs.pairs.part_pairs.Given as goal

abbrev pub invariant-loop-pairs : goal.invariant-loop-pairs
invariant-loop-pairs l = record {
  workers : l.team.items ++ map worker_in l.pairs.items ≡ map worker_in l.fn.pairs.items;
  takers : l.takers.items ++ map taker_in l.pairs.items ≡ map taker_in l.fn.pairs.items;
  made : (feed : Feed) → All (λ pair. pair.taking.feed.now ≡ feed) l.fn.pairs.items → All (λ pair. pair.taking.feed.now ≡ feed) l.pairs.items × All (IsTakerOf feed) l.takers.items;
}

abbrev pub decreases-loop-pairs : goal.decreases-loop-pairs
decreases-loop-pairs l = vec_len l.pairs
