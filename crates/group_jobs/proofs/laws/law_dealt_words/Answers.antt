use Rattle.group_jobs.proofs.Dealing.{dealt_words_sum}
use Rattle.group_jobs.proofs.laws.law_dealt_words.Goals as goal

pub returns : goal.returns
returns c = dealt_words_sum
