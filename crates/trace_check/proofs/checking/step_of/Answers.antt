use Rattle.std.proofs.Common.{[], ◌∷◌, ◌++◌, sym, subst}
use Rattle.trace_check.specs.declared.traces.Entry.{Entry}
use Rattle.trace_check.specs.Cursors.{PointAtNext}
use Rattle.trace_check.proofs.Pointing.{points_collected}
use Rattle.trace_check.proofs.checking.step_of.Goals as goal

pub returns-in-Collected-clause-next : goal.returns-in-Collected-clause-next
returns-in-Collected-clause-next c = λ before points.
    subst (λ (e : Entry). PointAtNext c.args.lines.now c.args.threads (before ++ e ∷ []) c.args.cursors.now) (sym c.in-Collected.is)
    (points_collected c.args.lines.now c.args.threads before c.args.cursors.now c.in-Collected.thread points)
