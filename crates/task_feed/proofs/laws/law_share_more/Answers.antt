use Rattle.task_feed.proofs.Shares.{share_more}
use Rattle.task_feed.proofs.laws.law_share_more.Goals as goal

pub returns : goal.returns
returns c = share_more
