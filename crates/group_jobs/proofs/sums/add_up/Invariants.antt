use Rattle.std.proofs.Common.{◌≡◌, ◌++◌}
use Rattle.std.specs.Vec.Iter.{into_iter_items}
use Rattle.group_jobs.proofs.Summing.{SumsUp}
use Rattle.group_jobs.proofs.sums.add_up.Given as goal

abbrev pub invariant-loop-counted : goal.invariant-loop-counted
invariant-loop-counted l = record {
  parts : l.fn.sorted.items ≡ l.yielded ++ into_iter_items l.counted-iterator;
  up : SumsUp l.yielded l.sums.items;
}
