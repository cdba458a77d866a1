use Rattle.std.proofs.Common.{◌≡◌, ℕ, List, refl, sym, subst}
use Rattle.script_text.specs.Printing.{script_text}
use Rattle.script_text.specs.Scripts.{IsScript}
use Rattle.script_text.specs.Words.{lines}
use Rattle.trace_check.specs.Reading.{IsTraceOf}
use Rattle.trace_check.specs.Texts.{trace_text}
use Rattle.trace_check.proofs.Printed.{are_entries, reads_back}
use Rattle.trace_check.proofs.printing.print_trace.Goals as goal

pub returns-clause-reads : goal.returns-clause-reads
returns-clause-reads c =
    let script = c.args.script.now in
    let entries = c.args.entries.now in
    let printed = c.in_ok-text.ensures in
    let is : IsScript (script_text script) script = subst (λ (text : List ℕ). IsScript text script) printed.text printed.reads in
    let whole : c.push_entries.new.text.items ≡ trace_text script entries = rw (c.in_ok-push_entries.ensures.text, c.in_ok-push_mark.ensures, printed.text) refl in
    subst (λ (text : List ℕ). IsTraceOf (lines text) (record { script = script; entries = entries })) (sym whole)
    (reads_back script entries is (are_entries script.heap.threads entries c.in_ok-push_entries.ensures.numbers c.requires.threads))
