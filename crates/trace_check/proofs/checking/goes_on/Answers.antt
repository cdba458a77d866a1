use Rattle.std.proofs.Common.{Ok, ap, ◌∙◌}
use Rattle.trace_check.proofs.Histories.{not_taken, taken}
use Rattle.trace_check.specs.Progress.{script_of}
use Rattle.trace_check.proofs.checking.goes_on.Goals as goal

pub returns-in_default-clause-breaks : goal.returns-in_default-clause-breaks
returns-in_default-clause-breaks c = λ before at goes. c.in_default.ensures.none before at.points goes.named

pub returns-then-branch-clause-goes : goal.returns-then-branch-clause-goes
returns-then-branch-clause-goes c = λ before at.
    taken c.uniqueness.ensures (script_of c.args.pages c.args.threads c.args.lines.now) before c.args.spaces.now c.args.last c.args.cursors.now at c.args.next c.in-Some.step (c.in-Some.ensures.named before at.points)
    c.take_step.new.spaces c.step_of.new.cursors c.take_step.result (c.in-Some.ensures.next before at.points) c.take_step.ensures.threads c.take_step.ensures.follows c.take_step.ensures.turns
    (c.in_ok-take_step.was ∙ ap Ok c.if-branch.true)

pub returns-else-branch-clause-breaks : goal.returns-else-branch-clause-breaks
returns-else-branch-clause-breaks c = λ before at.
    not_taken c.uniqueness.ensures (script_of c.args.pages c.args.threads c.args.lines.now) before c.args.spaces.now c.args.last c.args.cursors.now at c.args.next c.in-Some.step (c.in-Some.ensures.named before at.points)
    c.take_step.result c.take_step.ensures.denied (c.in_ok-take_step.was ∙ ap Ok c.if-branch.false)
