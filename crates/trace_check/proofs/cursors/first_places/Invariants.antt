use Rattle.std.proofs.Common.{◌≡◌, ◌+◌, ◌<◌, ℕ, drop, length, slice_index}
use Rattle.trace_check.specs.Cursors.{IsNextPlace}
use Rattle.trace_check.specs.Traces.{own}
use Rattle.trace_check.proofs.cursors.first_places.Given as goal

abbrev pub invariant-loop-i : goal.invariant-loop-i
invariant-loop-i l = record {
  count : length l.cursors.items ≡ l.i;
  places : (j : ℕ) → j < l.i → IsNextPlace l.lines (j + 1) (slice_index l.cursors.items j);
  same : (j : ℕ) → j < l.i → own (j + 1) (drop (slice_index l.cursors.items j) l.lines) ≡ own (j + 1) l.lines;
}
