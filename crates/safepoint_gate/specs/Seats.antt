-- Seats and the gate that they are of.
use Rattle.std.specs.Prelude.{◌≡◌}
use Rattle.atomic_table.specs.Seated.{TableId}
use Rattle.safepoint_gate.specs.declared.gate.Gate.{Gate}
use Rattle.safepoint_gate.specs.declared.rule.View.{View}

-- A seat on this table, with this view, is of the gate.
abbrev pub IsOf : Gate → TableId → View → Type 0
IsOf gate table view = (table ≡ gate.table.shared.table_id) × (view.map ≡ gate.map)
