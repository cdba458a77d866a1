use Rattle.std.proofs.Common.{ap, sym, ◌∙◌, is_some}
use Rattle.group_jobs.proofs.LongLines.{some_long}
use Rattle.group_jobs.proofs.long_words.long_word.Goals as goal

pub returns-clause-found : goal.returns-clause-found
returns-clause-found c = sym (ap is_some c.in_ok-before.was) ∙ some_long c.args.bytes.now _ c.lines_before.ensures.place
