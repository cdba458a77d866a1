use Rattle.task_feed.proofs.Sums.{row_sum_within}
use Rattle.task_feed.proofs.laws.law_row_within.Goals as goal

pub returns : goal.returns
returns c = row_sum_within
