use Rattle.std.proofs.Common.{arith}
use Rattle.group_jobs.proofs.Tasking.{all_cut, words_of_tasks}
use Rattle.group_jobs.proofs.tasks.cut_tasks.Goals as goal

pub returns-clause-tasks : goal.returns-clause-tasks
returns-clause-tasks c = all_cut _ _ c.tasks.start _ c.tasks.invariant (omega arith)

pub returns-clause-words : goal.returns-clause-words
returns-clause-words c = words_of_tasks _ c.args.lines _ (all_cut _ _ c.tasks.start _ c.tasks.invariant (omega arith))
