use Rattle.std.proofs.Common.{◌≡◌, [], ◌++◌, All, length, map}
use Rattle.std.specs.Vec.{vec_len}
use Rattle.task_feed.specs.Takers.{IsFresh, IsTakerOf, row_of}
use Rattle.group_jobs.specs.Pairs.{worker_in}
use Rattle.group_jobs.proofs.pairs.pair_up.Given as goal

abbrev pub invariant-loop-team : goal.invariant-loop-team
invariant-loop-team l = record {
  same : length l.takers.items ≡ length l.team.items;
  made : All (λ taker. IsTakerOf l.feed taker × IsFresh taker) l.takers.items;
  workers : map worker_in l.pairs.items ++ l.team.items ≡ l.fn.team.items;
  takers : All (λ pair. (pair.taking.feed.now ≡ l.feed) × (row_of pair.taking.taker ≡ [])) l.pairs.items;
}

abbrev pub decreases-loop-team : goal.decreases-loop-team
decreases-loop-team l = vec_len l.team
