use Rattle.std.proofs.Common.{◌≡◌, ◌+◌}
use Rattle.object_layout.specs.declared.TheConstants.{OBJECT_WORDS}
use Rattle.std.proofs.Common.{None}
use Rattle.std.specs.FinMap as finite
use Rattle.yak_model.specs.Private.{KnownObjects}
use Rattle.heap_tables.specs.Runs.{Ran, next_of, with_made}
use Rattle.heap_tables.specs.Keys.{IsKeyBegun}
use Rattle.heap_tables.proofs.keys.make_key.Given as goal

abbrev pub invariant-loop-i : goal.invariant-loop-i
invariant-loop-i g l = let C = g.C.Caller in record {
  ran : Ran C.base C.tells C.tells_known C.standing l.fn.caller l.caller (l.count + 1 + OBJECT_WORDS);
  own : (C.standing l.caller).own ≡ with_made (C.standing l.fn.caller);
  begun : (known : KnownObjects) → C.knows l.fn.caller known → IsKeyBegun known (next_of (C.standing l.fn.caller)) l.word l.i (C.knows l.caller) × (finite.get known (next_of (C.standing l.fn.caller)) ≡ None);
}
