use Rattle.std.proofs.Common.{◌≡◌, ◌+◌, ◌*◌, ◌≤◌, drop}
use Rattle.object_layout.specs.declared.TheConstants.{PAGE_WORDS}
use Rattle.yak_model.specs.Kept.{target_words}
use Rattle.yak_model.proofs.spaces.target_words.Given as goal

abbrev pub invariant-loop-i : goal.invariant-loop-i
invariant-loop-i l = record {
  sum : l.words + target_words (drop l.i l.objects) (drop l.i l.targets) ≡ target_words l.objects l.targets;
  few : l.words ≤ PAGE_WORDS * l.i;
}
