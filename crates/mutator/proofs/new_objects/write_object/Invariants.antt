use Rattle.std.proofs.Common.{◌≡◌}
use Rattle.safepoint_gate.specs.Seats.{IsOf}
use Rattle.mutator.specs.Making.{WritesObject}
use Rattle.mutator.proofs.new_objects.write_object.Given as goal

abbrev pub invariant-loop-i : goal.invariant-loop-i
invariant-loop-i l = record {
  gate : IsOf l.gate l.inside.seat.table_id l.inside.seat.me.0;
  thread : l.inside.thread ≡ l.fn.inside.thread;
  written : WritesObject l.fn.inside.seat.me.0 l.fn.front l.fn.header l.fn.name l.i l.inside.seat.me.0;
}
