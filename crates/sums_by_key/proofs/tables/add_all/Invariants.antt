use Rattle.std.proofs.Common.{◌≡◌, ◌+◌, ◌-◌, ◌*◌, ◌≤◌, length, take}
use Rattle.heap_tables.specs.Runs.{stack_in}
use Rattle.sums_by_key.specs.Held.{HoldsSums}
use Rattle.sums_by_key.specs.declared.TheConstants.{TABLE_SLOT}
use Rattle.sums_by_key.proofs.tables.add_all.Given as goal

abbrev pub invariant-epochs : goal.invariant-epochs
invariant-epochs g l = let C = g.C.Caller in record {
  start : l.start ≤ length l.lines;
  slots : length (stack_in (C.standing l.caller)) ≡ TABLE_SLOT + 1;
  depth : (C.standing l.caller).own.depth ≡ 0;
  made : (C.standing l.caller).own.made ≤ (C.standing l.fn.caller).own.made + 2 * l.start;
  added : HoldsSums (C.standing l.caller) (C.knows l.caller) (take l.start l.lines);
}

abbrev pub decreases-epochs : goal.decreases-epochs
decreases-epochs g l = length l.lines - l.start
