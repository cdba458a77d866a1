use Rattle.group_jobs.proofs.Dealing.{dealt_tasks}
use Rattle.group_jobs.proofs.laws.law_dealt_tasks.Goals as goal

pub returns : goal.returns
returns c = dealt_tasks
