use Rattle.std.proofs.Common.{◌≡◌, ◌≤◌, length}
use Rattle.heap_tables.specs.Runs.{KeepsKnown, Ran, stack_in}
use Rattle.heap_tables.proofs.steps.stack_size.Given as goal

abbrev pub invariant-loop-top : goal.invariant-loop-top
invariant-loop-top g l = let C = g.C.Caller in record {
  ran : Ran C.base C.tells C.tells_known C.standing l.fn.caller l.caller 0;
  keeps : KeepsKnown (C.knows l.fn.caller) (C.knows l.caller);
  own : (C.standing l.caller).own ≡ (C.standing l.fn.caller).own;
  below : l.top ≤ length (stack_in (C.standing l.fn.caller));
}
