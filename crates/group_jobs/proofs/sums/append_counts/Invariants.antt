use Rattle.std.proofs.Common.{◌≡◌, ◌++◌}
use Rattle.group_jobs.proofs.sums.append_counts.Given as goal

abbrev pub invariant-loop-counted : goal.invariant-loop-counted
invariant-loop-counted l = l.all.items ≡ l.initial.all.items ++ l.yielded
