use Rattle.std.proofs.Common.{◌≡◌, List, get_or, length, sym, ap, subst, ◌∙◌, arith}
use Rattle.object_layout.specs.Calls.{IsCall}
use Rattle.script_text.specs.declared.scripts.Line.{Line}
use Rattle.script_text.specs.ScriptContents.{ScriptContents}
use Rattle.trace_check.specs.Cursors.{line_at, no_line}
use Rattle.trace_check.specs.Making.{held_of}
use Rattle.trace_check.proofs.Traced.{traced_all, traced_more, traced_none}
use Rattle.trace_check.proofs.Naming.{rises_at}
use Rattle.trace_check.proofs.making.trace.Goals as goal

pub lines-init : goal.lines-init
lines-init c =
    rw c.new-entries.ensures.items (traced_none c.args.script.now c.in_ok-core.core.map c.in_ok-core.core.words.words.items c.in_ok-core.ensures.pages c.in_ok-core.ensures.threads c.in_ok-core.ensures.opening)

pub lines-preserved : goal.lines-preserved
lines-preserved c =
    let script = c.args.script.now in
    let shown = c.deref-line-items.result.now in
    let same : shown ≡ script.lines = c.deref-line-items.ensures.value ∙ ap (λ (s : ScriptContents). s.lines) c.script.view_is in
    let i = c.lines.line-index in
    traced_more c.uniqueness.ensures script c.requires i (get_or shown i no_line) c.lines.entries.items c.trace_line.new.entries.items
    (held_of c.lines.core.map c.lines.core.words.words.items) (held_of c.trace_line.new.core.map c.trace_line.new.core.words.words.items)
    (omega (arith, ap length same, c.lines-test.true)) (ap (λ (l : List Line). get_or l i no_line) same) c.trace_line.ensures.map c.lines.invariant c.in_ok-trace_line.ensures.traces

pub trace_line-requires-clause-thread : goal.trace_line-requires-clause-thread
trace_line-requires-clause-thread c =
    let script = c.args.script.now in
    let shown = c.deref-line-items.result.now in
    let same : shown ≡ script.lines = c.deref-line-items.ensures.value ∙ ap (λ (s : ScriptContents). s.lines) c.script.view_is in
    let i = c.lines.line-index in
    let of = rises_at script.heap.threads 2 script.lines i c.requires.rise (omega (arith, ap length same, c.lines-test.true)) in
    let thread : (get_or shown i no_line).thread ≡ (line_at script.lines i).thread = ap (λ (l : List Line). (get_or l i no_line).thread) same in
    (omega (arith, thread, of.some), omega (arith, thread, of.few, c.lines.invariant.threads))

pub trace_line-requires-clause-number : goal.trace_line-requires-clause-number
trace_line-requires-clause-number c =
    let script = c.args.script.now in
    let shown = c.deref-line-items.result.now in
    let same : shown ≡ script.lines = c.deref-line-items.ensures.value ∙ ap (λ (s : ScriptContents). s.lines) c.script.view_is in
    let i = c.lines.line-index in
    let of = rises_at script.heap.threads 2 script.lines i c.requires.rise (omega (arith, ap length same, c.lines-test.true)) in
    subst (λ (l : List Line). IsCall (get_or l i no_line).call) (sym same) of.call

pub returns-clause-lines : goal.returns-clause-lines
returns-clause-lines c =
    let script = c.args.script.now in
    let same = ap length (c.deref-line-items.ensures.value ∙ ap (λ (s : ScriptContents). s.lines) c.script.view_is) in
    (traced_all c.agreement.ensures script c.lines.line-index c.lines.entries.items _ (omega (arith, same, c.lines-test.false)) c.lines.invariant).0

pub returns-clause-lawful : goal.returns-clause-lawful
returns-clause-lawful c =
    let script = c.args.script.now in
    let same = ap length (c.deref-line-items.ensures.value ∙ ap (λ (s : ScriptContents). s.lines) c.script.view_is) in
    (traced_all c.agreement.ensures script c.lines.line-index c.lines.entries.items _ (omega (arith, same, c.lines-test.false)) c.lines.invariant).1

pub returns-clause-threads : goal.returns-clause-threads
returns-clause-threads c = c.lines.invariant.of_threads
