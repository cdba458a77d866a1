use Rattle.task_feed.proofs.Shares.{shares_dealt}
use Rattle.task_feed.proofs.laws.law_fixed_shares.Goals as goal

pub returns : goal.returns
returns c = shares_dealt
