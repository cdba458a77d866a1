use Rattle.std.proofs.Common.{◌<◌, ℕ, List, length, ap, subst, arith, below_more}
use Rattle.trace_check.specs.Reading.{IsMark, text_line}
use Rattle.trace_check.proofs.Dropping.{line_is, rest_is}
use Rattle.trace_check.proofs.reading.mark_at.Goals as goal

pub lines-preserved : goal.lines-preserved
lines-preserved c =
    let all = c.text_lines-rest.result in
    let n = c.lines.before in
    let steps = c.in-Some.ensures.steps in
    let long = ap length steps in
    let lt : n < length all = omega (arith, c.lines.invariant.count, long) in
    record {
      rest = rest_is all n lt c.in-Some.line.now c.next.new.self c.lines.rest steps c.lines.invariant.rest;
      count = omega (arith, c.lines.invariant.count, long);
      first = below_more (λ (k : ℕ). IsMark (text_line all k) → ⊥) n c.lines.invariant.first
          (subst (λ (l : List ℕ). IsMark l → ⊥) (line_is all n lt c.in-Some.line.now c.next.new.self c.lines.rest steps c.lines.invariant.rest) (rw c.if-is_mark.false at c.is_mark.ensures));
    }
