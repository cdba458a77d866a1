use Rattle.std.proofs.Common.{◌≡◌, ℕ, ◌+◌, ◌*◌, ◌≤◌, List, ◌++◌, length}
use Rattle.yak_model.specs.Private.{KnownObjects}
use Rattle.yak_model.specs.Texts.{words_of}
use Rattle.object_layout.specs.declared.names.Name.{Name}
use Rattle.heap_tables.specs.Epochs.{GrowsBy, Went}
use Rattle.group_jobs.specs.Epochs.{IsWithin}
use Rattle.group_jobs.specs.Tallies.{KeepsPlace, KnowsTallies, Tallies, part_room}
use Rattle.group_jobs.specs.declared.TheConstants.{MOST_WORDS}
use Rattle.group_jobs.proofs.tallies.count_words.Given as goal

abbrev pub invariant-words : goal.invariant-words
invariant-words g l = let C = g.C.Caller in record {
  passed : List (List ℕ);
  parts : words_of l.fn.bytes ≡ passed ++ l.words;
  went : Went C.base C.tells C.tells_known C.standing l.fn.caller l.caller (part_room passed);
  place : KeepsPlace (C.standing l.fn.caller).own (C.standing l.caller).own (2 * length passed);
  list : GrowsBy IsWithin (C.standing l.fn.caller).list (C.standing l.caller).list;
  counted : (known : KnownObjects) (name : Name) (done doing : List (List ℕ)) → C.knows l.fn.caller known → Tallies (C.standing l.fn.caller) known name done doing → length done + (length doing + length (words_of l.fn.bytes)) ≤ MOST_WORDS → KnowsTallies (C.standing l.fn.caller) known (C.standing l.caller) (C.knows l.caller) name done (doing ++ passed);
}

abbrev pub decreases-words : goal.decreases-words
decreases-words g l = length l.words
