use Rattle.std.proofs.Common.{◌≡◌, ◌+◌, ◌-◌, ◌≤◌, drop, length}
use Rattle.trace_check.proofs.ReadTo.{IsReadTo}
use Rattle.trace_check.proofs.reading.read_entries.Given as goal

abbrev pub invariant-skipping : goal.invariant-skipping
invariant-skipping l = record {
  rest : l.rest ≡ drop l.passed l.initial.rest;
  count : l.passed + length l.rest ≡ length l.initial.rest;
  within : l.passed ≤ l.skipped;
}

abbrev pub decreases-skipping : goal.decreases-skipping
decreases-skipping l = l.skipped - l.passed

abbrev pub invariant-lines : goal.invariant-lines
invariant-lines l = record {
  read : IsReadTo l.threads (l.skipped + 1) l.initial.rest l.number l.rest l.entries.items;
  count : l.number + length l.rest ≤ l.skipped + 1 + length l.initial.rest;
}

abbrev pub decreases-lines : goal.decreases-lines
decreases-lines l = length l.rest
