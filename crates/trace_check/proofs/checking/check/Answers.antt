use Rattle.std.proofs.Common.{List, IfOk, subst}
use Rattle.std.specs.Prelude.{IfNone, IfSome}
use Rattle.trace_check.specs.declared.traces.Entry.{Entry}
use Rattle.trace_check.specs.Breaks.{IsLawfulTrace, TraceBreaksAt}
use Rattle.trace_check.specs.Traces.{Trace}
use Rattle.trace_check.proofs.Answering.{every_break, every_lawful}
use Rattle.trace_check.proofs.checking.check.Goals as goal

pub returns-clause-every_lawful : goal.returns-clause-every_lawful
returns-clause-every_lawful c = λ lawful.
    let text = c.args.text.now in
    every_lawful c.uniqueness.ensures text.script c.requires.valid.rise text.entries c.first_break.result
    (subst (λ (t : Trace). IfOk c.first_break.result (λ answer. IfSome answer (λ k. TraceBreaksAt t.script t.entries k))) c.text.view_is
    (subst (λ (es : List Entry). IfOk c.first_break.result (λ answer. IfSome answer (λ k. TraceBreaksAt c.text.inside.script es k))) c.deref.ensures.value c.first_break.ensures.breaks))
    lawful

pub returns-clause-every_break : goal.returns-clause-every_break
returns-clause-every_break c = λ k at.
    let text = c.args.text.now in
    every_break c.uniqueness.ensures text.script c.requires.valid.rise text.entries c.first_break.result
    (subst (λ (t : Trace). IfOk c.first_break.result (λ answer. IfNone answer (IsLawfulTrace t.script t.entries))) c.text.view_is
    (subst (λ (es : List Entry). IfOk c.first_break.result (λ answer. IfNone answer (IsLawfulTrace c.text.inside.script es))) c.deref.ensures.value c.first_break.ensures.lawful))
    (subst (λ (t : Trace). IfOk c.first_break.result (λ answer. IfSome answer (λ k. TraceBreaksAt t.script t.entries k))) c.text.view_is
    (subst (λ (es : List Entry). IfOk c.first_break.result (λ answer. IfSome answer (λ k. TraceBreaksAt c.text.inside.script es k))) c.deref.ensures.value c.first_break.ensures.breaks))
    k at
