-- Mutators of threads that are inside.
use Rattle.std.specs.Prelude.{Option, None, Some}
use Rattle.safepoint_gate.specs.declared.rule.View.{View}
use Rattle.safepoint_gate.specs.declared.seats.Inside.{Inside}
use Rattle.safepoint_gate.specs.Seats.{IsOf}
use Rattle.safepoint_gate.specs.Steps.{of_none}
use Rattle.mutator.specs.declared.heap.Heap.{Heap}

-- what the seat of a mutator knows
abbrev pub view_in : Option Inside → View
view_in None = of_none
view_in (Some inside) = inside.seat.me.0

-- The seat of a mutator is of the heap.
abbrev pub IsOfHeap : Heap → Option Inside → Type 0
IsOfHeap heap None = ⊥
IsOfHeap heap (Some inside) = IsOf heap.gate inside.seat.table_id inside.seat.me.0
