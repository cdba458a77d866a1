use Rattle.std.proofs.Common.{◌≡◌, ◌+◌, ◌-◌, length}
use Rattle.safepoint_gate.specs.Made.{AllFresh}
use Rattle.safepoint_gate.specs.Rule.{away_view, fresh}
use Rattle.safepoint_gate.proofs.gate.Gate.new.Given as goal

abbrev pub invariant-loop-k : goal.invariant-loop-k
invariant-loop-k l = record {
  table : l.seat.table_id ≡ l.gate.table.shared.table_id;
  view : l.seat.me.0 ≡ away_view l.gate.map (fresh (l.k + 1) (l.threads - l.k));
  count : length l.seats.items ≡ l.k;
  seats : AllFresh l.gate.table.shared.table_id l.gate.map l.seats.items;
}
