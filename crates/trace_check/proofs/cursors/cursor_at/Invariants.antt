use Rattle.std.proofs.Common.{◌≢◌, ◌<◌, ℕ, length, slice_index}
use Rattle.trace_check.specs.Cursors.{line_at}
use Rattle.trace_check.proofs.cursors.cursor_at.Given as goal

abbrev pub invariant-loop-i : goal.invariant-loop-i
invariant-loop-i l = (k : ℕ) → k < l.i → slice_index l.cursors k < length l.lines → (line_at l.lines (slice_index l.cursors k)).number ≢ l.number
