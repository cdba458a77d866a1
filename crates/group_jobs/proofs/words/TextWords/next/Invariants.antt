use Rattle.std.proofs.Common.{◌≡◌, length}
use Rattle.yak_model.specs.Texts.{words_of}
use Rattle.group_jobs.proofs.words.TextWords.next.Given as goal

abbrev pub invariant-blanks : goal.invariant-blanks
invariant-blanks l = words_of l.self-inside.rest.now ≡ words_of l.initial.self-inside.rest.now

abbrev pub decreases-blanks : goal.decreases-blanks
decreases-blanks l = length l.self-inside.rest.now
