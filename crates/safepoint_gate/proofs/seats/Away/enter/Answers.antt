use Rattle.std.proofs.Common.{subst, sym}
use Rattle.safepoint_gate.specs.declared.rule.Place.TheVariants.{Inside}
use Rattle.safepoint_gate.specs.Singles.{IsQuiet}
use Rattle.safepoint_gate.specs.Steps.{at_place}
use Rattle.safepoint_gate.proofs.Quiet.{rest_first}
use Rattle.safepoint_gate.proofs.seats.Away.enter.Goals as goal

pub returns-then-arrive-lt-CLOSING-clause-quiet : goal.returns-then-arrive-lt-CLOSING-clause-quiet
returns-then-arrive-lt-CLOSING-clause-quiet g c =
    let v = c.loop.seat.me.0 in
    subst IsQuiet (sym (c.arrive.ensures.inside c.if-arrive-lt-CLOSING.true)) (rest_first v.own (at_place v Inside).lasting c.arrive.ensures.rests)
