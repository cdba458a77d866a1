use Rattle.task_feed.proofs.Sums.{dealt_sum}
use Rattle.task_feed.proofs.laws.law_sums.Goals as goal

pub returns : goal.returns
returns c = dealt_sum
