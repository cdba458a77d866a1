use Rattle.std.specs.Prelude.{slice_index}
use Rattle.trace_check.proofs.Pointing.{names_next, next_points, none_next, step_at}
use Rattle.trace_check.proofs.checking.take_line.Goals as goal

pub returns-clause-named : goal.returns-clause-named
returns-clause-named c = λ before points.
    names_next c.args.lines.now c.args.threads before c.args.cursors.now c.requires.rise points c.in-Some.i c.args.number c.args.reply c.in-Some.ensures.place c.in-Some.ensures.within c.in-Some.ensures.number

pub returns-clause-next : goal.returns-clause-next
returns-clause-next c = λ before points.
    next_points c.args.lines.now c.args.threads before c.args.cursors.now c.requires.rise points c.in-Some.i c.args.number c.args.reply c.in-Some.ensures.place c.in-Some.ensures.within c.in-Some.ensures.number
    c.next_place.result c.next_place.ensures.next c.next_place.ensures.same

pub returns-in_default-clause-none : goal.returns-in_default-clause-none
returns-in_default-clause-none c = λ before points.
    none_next c.args.lines.now c.args.threads before c.args.cursors.now c.requires.rise points c.args.number c.args.reply c.in_default.ensures.none

pub returns-clause-step : goal.returns-clause-step
returns-clause-step c = step_at c.args.lines.now c.args.threads (slice_index c.args.cursors.now c.in-Some.i) c.args.reply c.requires.rise c.in-Some.ensures.within
