use Rattle.std.proofs.Common.{◌≡◌}
use Rattle.safepoint_gate.specs.declared.rule.Place.TheVariants.{Inside}
use Rattle.safepoint_gate.specs.Singles.{IsQuiet}
use Rattle.safepoint_gate.specs.Steps.{at_place}
use Rattle.safepoint_gate.proofs.seats.Inside.close.Given as goal

abbrev pub invariant-loop : goal.invariant-loop
invariant-loop g l =
    (l.inside.seat.table_id ≡ l.initial.inside.seat.table_id) × (at_place l.inside.seat.me.0 Inside ≡ at_place l.initial.inside.seat.me.0 Inside) × (l.inside.thread ≡ l.initial.inside.thread) × IsQuiet l.inside.seat.me.0
