-- All seats of a gate, in order of thread.
use Rattle.std.specs.Prelude.{◌≡◌, ℕ, ◌+◌, List}
use mathlib.Core.Option.{some}
use lib.ListN.{get_elem?}
use Rattle.atomic_table.specs.Seated.{TableId}
use Rattle.heap_words.specs.declared.map.Areas.{Areas}
use Rattle.safepoint_gate.specs.declared.seats.Away.{Away}
use Rattle.safepoint_gate.specs.Rule.{away_view, fresh}

-- Each seat is of this table and stands for one thread, that of its place, which has made no call.
abbrev pub AllFresh : TableId → Areas → List Away → Type 0
AllFresh table m seats = (k : ℕ) (a : Away) → get_elem? seats k ≡ some a → (a.seat.table_id ≡ table) × (a.seat.me.0 ≡ away_view m (fresh (k + 1) 1))
