use Rattle.std.proofs.Common.{List}
use Rattle.yak_model.specs.Private.{KnownObjects}
use Rattle.heap_tables.specs.Runs.{KeepsKnown, Ran, slot_in}
use Rattle.yak_model.specs.Tables.{Link, IsChain}
use Rattle.heap_tables.specs.Walks.{IsClimbed}
use Rattle.heap_tables.specs.declared.chains.Look.TheVariants as look
use Rattle.heap_tables.proofs.chains.climb.Given as goal

abbrev pub invariant-loop-n : goal.invariant-loop-n
invariant-loop-n g l = let C = g.C.Caller in record {
  ran : Ran C.base C.tells C.tells_known C.standing l.fn.caller l.caller 0;
  keeps : KeepsKnown (C.knows l.fn.caller) (C.knows l.caller);
  climbed : (known : KnownObjects) (links : List Link) → C.knows l.fn.caller known → IsChain known (slot_in (C.standing l.fn.caller) l.fn.at) links → IsClimbed (C.standing l.fn.caller).own known l.fn.word links l.fn.at look.Further l.n (C.standing l.caller).own;
}
