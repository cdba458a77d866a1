use Rattle.group_jobs.proofs.Dealing.{words_at_more}
use Rattle.group_jobs.proofs.laws.law_row_more.Goals as goal

pub returns : goal.returns
returns c = words_at_more
