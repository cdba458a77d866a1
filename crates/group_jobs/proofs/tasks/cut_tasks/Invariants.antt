use Rattle.std.proofs.Common.{length, ◌-◌}
use Rattle.group_jobs.proofs.Tasking.{AreCutTo}
use Rattle.group_jobs.proofs.tasks.cut_tasks.Given as goal

abbrev pub invariant-tasks : goal.invariant-tasks
invariant-tasks l = AreCutTo l.bytes l.lines l.tasks.items l.start

abbrev pub decreases-tasks : goal.decreases-tasks
decreases-tasks l = length l.bytes - l.start
