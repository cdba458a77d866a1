use Rattle.std.proofs.Common.{◌≡◌}
use Rattle.heap_tables.specs.Runs.{KeepsKnown, Ran}
use Rattle.heap_tables.proofs.layouts.find_laid.Given as goal

abbrev pub invariant-loop-i : goal.invariant-loop-i
invariant-loop-i g l = let C = g.C.Caller in record {
  ran : Ran C.base C.tells C.tells_known C.standing l.fn.caller l.caller 0;
  keeps : KeepsKnown (C.knows l.fn.caller) (C.knows l.caller);
  own : (C.standing l.caller).own ≡ (C.standing l.fn.caller).own;
}
