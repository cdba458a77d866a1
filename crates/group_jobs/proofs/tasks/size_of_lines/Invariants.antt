use Rattle.group_jobs.proofs.Tasking.{Lacks}
use Rattle.group_jobs.proofs.tasks.size_of_lines.Given as goal

abbrev pub invariant-loop-i : goal.invariant-loop-i
invariant-loop-i l = Lacks l.bytes l.lines l.i l.left
