use Rattle.std.proofs.Common.{◌≡◌, ◌++◌}
use Rattle.std.specs.Vec.{vec_len}
use Rattle.safepoint_gate.specs.Seats.{IsOf}
use Rattle.mutator.specs.Resting.{seats_of}
use Rattle.mutator.specs.Finishing.{AllOf, owns_of}
use Rattle.mutator.proofs.finishing.finish.Given as goal

abbrev pub invariant-loop-resting : goal.invariant-loop-resting
invariant-loop-resting l = record {
  first : IsOf l.gate l.first.seat.table_id l.first.seat.me.0;
  others : AllOf l.gate (seats_of l.resting.items);
  own : l.first.seat.me.0.own ++ owns_of (seats_of l.resting.items) ≡ owns_of (seats_of l.fn.resting.items);
}

abbrev pub decreases-loop-resting : goal.decreases-loop-resting
decreases-loop-resting l = vec_len l.resting
