use Rattle.task_feed.proofs.Sums.{dealt_within}
use Rattle.task_feed.proofs.laws.law_within.Goals as goal

pub returns : goal.returns
returns c = dealt_within
