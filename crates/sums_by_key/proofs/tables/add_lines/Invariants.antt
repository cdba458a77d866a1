use Rattle.std.proofs.Common.{◌≡◌, ◌+◌, ◌*◌, ◌≤◌, List, ◌++◌, length, take}
use Rattle.heap_tables.specs.Runs.{stack_in}
use Rattle.sums_by_key.specs.Held.{AreSummable, HoldsSums}
use Rattle.sums_by_key.specs.declared.lines.Line.{Line}
use Rattle.sums_by_key.specs.declared.TheConstants.{TABLE_SLOT}
use Rattle.sums_by_key.proofs.tables.add_lines.Given as goal

abbrev pub invariant-lines : goal.invariant-lines
invariant-lines g l = let C = g.C.Caller in record {
  slots : length (stack_in (C.standing l.caller)) ≡ TABLE_SLOT + 1;
  depth : (C.standing l.caller).own.depth ≡ (C.standing l.fn.caller).own.depth;
  made : (C.standing l.caller).own.made ≤ (C.standing l.fn.caller).own.made + 2 * l.line-index;
  added : (done : List Line) → HoldsSums (C.standing l.fn.caller) (C.knows l.fn.caller) done → AreSummable (done ++ l.lines) → HoldsSums (C.standing l.caller) (C.knows l.caller) (done ++ take l.line-index l.lines);
}
