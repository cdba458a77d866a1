use Rattle.std.proofs.Common.{◌≡◌, ◌+◌, ◌<◌, ℕ, drop, length}
use Rattle.trace_check.specs.Reading.{IsMark, text_line}
use Rattle.trace_check.proofs.reading.mark_at.Given as goal

abbrev pub invariant-lines : goal.invariant-lines
invariant-lines l = record {
  rest : l.rest ≡ drop l.before l.initial.rest;
  count : l.before + length l.rest ≡ length l.initial.rest;
  first : (i : ℕ) → i < l.before → IsMark (text_line l.initial.rest i) → ⊥;
}

abbrev pub decreases-lines : goal.decreases-lines
decreases-lines l = length l.rest
