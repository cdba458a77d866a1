use Rattle.std.proofs.Common.{◌≡◌}
use Rattle.safepoint_gate.specs.declared.rule.Place.TheVariants.{Away}
use Rattle.safepoint_gate.specs.Steps.{at_place}
use Rattle.safepoint_gate.proofs.seats.Away.enter.Given as goal

abbrev pub invariant-loop : goal.invariant-loop
invariant-loop g l = (l.seat.table_id ≡ l.initial.seat.table_id) × (l.seat.me.1 ≡ l.initial.seat.me.1) × (l.seat.me.0.place ≡ Away) × (at_place l.seat.me.0 Away ≡ at_place l.initial.seat.me.0 Away)
