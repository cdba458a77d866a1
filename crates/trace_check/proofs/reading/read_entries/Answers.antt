use Rattle.std.proofs.Common.{◌≡◌, ◌<◌, ◌+◌, ℕ, List, length, length-drop, drop, ap, subst, ◌∙◌, arith}
use Rattle.script_text.specs.Words.{lines}
use Rattle.trace_check.specs.Reading.{HoldsEntries}
use Rattle.trace_check.proofs.Dropping.{rest_is}
use Rattle.trace_check.proofs.ReadTo.{done, held_few, past_line}
use Rattle.trace_check.proofs.reading.read_entries.Goals as goal

pub skipping-preserved : goal.skipping-preserved
skipping-preserved c =
    let all = c.text_lines-rest.result in
    let n = c.skipping.passed in
    let steps = c.in-Some.ensures.steps in
    let long = ap length steps in
    let lt : n < length all = omega (arith, c.skipping.invariant.count, long) in
    record {
      rest = rest_is all n lt _ c.next.new.self c.skipping.rest steps c.skipping.invariant.rest;
      count = omega (arith, c.skipping.invariant.count, long);
      within = omega (arith, c.skipping-test.true);
    }

pub lines-preserved : goal.lines-preserved
lines-preserved c =
    let steps = c.in-Some-next.ensures.steps in
    record {
      read = past_line c.args.threads (c.args.skipped + 1) c.skipping.rest c.lines.number c.in-Some-next.line.now c.next-in-lines.new.self c.lines.entries.items c.add_entry.new.entries.items
          c.in_ok-add_entry.ensures.ok (rw steps at c.lines.invariant.read);
      count = omega (arith, c.lines.invariant.count, ap length steps);
    }

held_left : goal.returns-clause-found
held_left c =
    let n : c.skipping.passed ≡ c.args.skipped = omega (arith, c.skipping.invariant.within, c.skipping-test.false) in
    let left : c.skipping.rest ≡ drop c.args.skipped (lines c.args.bytes.now) =
    c.skipping.invariant.rest ∙ ap (λ (k : ℕ). drop k c.text_lines-rest.result) n ∙ ap (drop c.args.skipped) c.text_lines-rest.ensures.value in
    subst (λ (ls : List (List ℕ)). HoldsEntries c.args.threads ls c.lines.entries.items) left
    (done c.args.threads (c.args.skipped + 1) c.skipping.rest c.lines.number c.lines.rest c.lines.entries.items c.in_default-next.ensures.steps.0 c.lines.invariant.read)

pub returns-clause-found : goal.returns-clause-found
returns-clause-found c = held_left c

pub returns-clause-few : goal.returns-clause-few
returns-clause-few c =
    let held = held_few c.args.threads (drop c.args.skipped (lines c.args.bytes.now)) c.lines.entries.items (held_left c) in
    let dropped = length-drop {A = List ℕ} c.args.skipped (lines c.args.bytes.now) in
    let same = ap length c.text_lines-rest.ensures.value in
    omega (arith, held, dropped, same, c.text_lines-rest.ensures.few)
