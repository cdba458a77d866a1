use Rattle.std.proofs.Common.{◌≡◌, ◌≢◌, ℕ, ◌/◌, ◌%◌, ◌<◌, List, length, get_or}
use Rattle.object_layout.specs.declared.names.Name.{Name}
use Rattle.yak_model.specs.Private.{KnownObjects}
use Rattle.yak_model.specs.Tables.{group}
use Rattle.yak_model.specs.declared.TheConstants.{GROUP_BYTES}
use Rattle.heap_tables.specs.Keys.{IsKeyInSlot}
use Rattle.heap_tables.specs.Runs.{KeepsKnown, Ran}
use Rattle.heap_tables.proofs.reading.read_word.Given as goal

abbrev pub invariant-loop-i : goal.invariant-loop-i
invariant-loop-i g l = let C = g.C.Caller in record {
  ran : Ran C.base C.tells C.tells_known C.standing l.fn.caller l.caller 0;
  keeps : KeepsKnown (C.knows l.fn.caller) (C.knows l.caller);
  own : (C.standing l.caller).own ≡ (C.standing l.fn.caller).own;
  buffer : length l.buffer ≡ length l.fn.buffer;
  read : (known : KnownObjects) (name : Name) (word : List ℕ) → C.knows l.fn.caller known → IsKeyInSlot (C.standing l.fn.caller) known l.fn.key name word
      → (l.size ≡ length word) × (l.i % GROUP_BYTES ≢ 0 → l.group ≡ group word (l.i / GROUP_BYTES)) × ((j : ℕ) → j < l.i → get_or l.buffer j 0 ≡ get_or word j 0);
}
