use Rattle.std.proofs.Common.{ℕ, List, [], sym, subst, ◌∙◌}
use Rattle.script_text.specs.declared.scripts.Line.{Line}
use Rattle.trace_check.specs.Cursors.{PointAtNext}
use Rattle.trace_check.specs.Progress.{script_of}
use Rattle.trace_check.proofs.Histories.{at_opened}
use Rattle.trace_check.proofs.checking.first_break.Goals as goal

pub break_from-requires-clause-at : goal.break_from-requires-clause-at
break_from-requires-clause-at c =
    let lines = c.deref-2.result.now in
    let threads = c.script.inside.threads in
    at_opened (script_of c.script.inside.pages threads lines) c.in_ok-spaces.spaces c.deref_mut.result.now c.in_ok-spaces.ensures
    (subst (λ (cursors : List ℕ). PointAtNext lines threads [] cursors) (sym c.deref_mut.ensures.value)
    (subst (λ (ls : List Line). PointAtNext ls threads [] c.in_ok-cursors.cursors.items) (c.deref.ensures.value ∙ sym c.deref-2.ensures.value) c.in_ok-cursors.ensures))
