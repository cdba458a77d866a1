use Rattle.group_jobs.proofs.Dealing.{row_words_within}
use Rattle.group_jobs.proofs.laws.law_row_words.Goals as goal

pub returns : goal.returns
returns c = row_words_within
