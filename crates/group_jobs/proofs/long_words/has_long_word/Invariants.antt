use Rattle.std.proofs.Common.{◌≡◌, length}
use Rattle.std.specs.List.{list_any}
use Rattle.yak_model.specs.Texts.{words_of}
use Rattle.group_jobs.specs.LongWords.{is_long}
use Rattle.group_jobs.proofs.long_words.has_long_word.Given as goal

abbrev pub invariant-words : goal.invariant-words
invariant-words l = list_any is_long (words_of l.bytes) ≡ list_any is_long l.words

abbrev pub decreases-words : goal.decreases-words
decreases-words l = length l.words
