use Rattle.std.proofs.Common.{◌≡◌, ◌+◌, length}
use Rattle.trace_check.proofs.reading.count_lines.Given as goal

abbrev pub invariant-lines : goal.invariant-lines
invariant-lines l = l.count + length l.rest ≡ length l.initial.rest

abbrev pub decreases-lines : goal.decreases-lines
decreases-lines l = length l.rest
