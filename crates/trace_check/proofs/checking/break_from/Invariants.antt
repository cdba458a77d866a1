use Rattle.std.proofs.Common.{◌≡◌, ◌+◌, take}
use Rattle.trace_check.specs.Progress.{IsAt, script_of}
use Rattle.trace_check.proofs.checking.break_from.Given as goal

abbrev pub invariant-entries : goal.invariant-entries
invariant-entries l = record {
  at : IsAt (script_of l.pages l.threads l.lines) (take l.next-index l.entries) l.spaces l.last l.cursors;
  number : l.number ≡ l.next-index + 1;
}
