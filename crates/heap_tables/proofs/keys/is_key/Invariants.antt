use Rattle.std.proofs.Common.{◌≡◌, ℕ, ◌<◌, List, length}
use Rattle.object_layout.specs.declared.names.Name.{Name}
use Rattle.yak_model.specs.Private.{KnownObjects}
use Rattle.heap_tables.specs.Runs.{KeepsKnown, Ran}
use Rattle.yak_model.specs.Tables.{group}
use Rattle.heap_tables.specs.Keys.{IsKeyInSlot}
use Rattle.heap_tables.proofs.keys.is_key.Given as goal

abbrev pub invariant-loop-i : goal.invariant-loop-i
invariant-loop-i g l = let C = g.C.Caller in record {
  ran : Ran C.base C.tells C.tells_known C.standing l.fn.caller l.caller 0;
  keeps : KeepsKnown (C.knows l.fn.caller) (C.knows l.caller);
  own : (C.standing l.caller).own ≡ (C.standing l.fn.caller).own;
  same : (known : KnownObjects) (name : Name) (other : List ℕ) → C.knows l.fn.caller known → IsKeyInSlot (C.standing l.fn.caller) known l.fn.key name other → (length other ≡ length l.word) × ((j : ℕ) → j < l.i → group other j ≡ group l.word j);
}
