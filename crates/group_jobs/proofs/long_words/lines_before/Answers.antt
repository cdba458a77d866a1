use Rattle.std.proofs.Common.{rules, tests}
use Rattle.std.proofs.lemmas.Iterator.Search.{position_from_yields_List}
use Rattle.std.proofs.lemmas.Iterator.Splits.{YieldsList-from_slice_split}
use Rattle.group_jobs.specs.Tasks.{is_feed}
use Rattle.group_jobs.specs.LongWords.{has_long_word}
use Rattle.group_jobs.proofs.long_words.lines_before.Goals as goal

pub returns-clause-place : goal.returns-clause-place
returns-clause-place c =
    position_from_yields_List has_long_word _ _ _ c.position.ensures.ran (YieldsList-from_slice_split _ is_feed c.args.bytes.now c.split.ensures.rest c.split.ensures.done c.split.ensures.closure (λ x r q k. search (rules, tests))) (λ x b q k. search (rules, tests))
