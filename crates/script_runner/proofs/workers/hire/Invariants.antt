use Rattle.std.proofs.Common.{◌≡◌, ◌+◌, ℕ, length}
use Rattle.std.specs.Vec.{vec_len}
use mathlib.Core.Option.{some}
use lib.ListN.{get_elem?}
use Rattle.safepoint_gate.specs.declared.seats.Away.{Away}
use Rattle.mutator.specs.Resting.{seats_of}
use Rattle.script_runner.specs.Workers.{AllReady}
use Rattle.script_runner.proofs.workers.hire.Given as goal

abbrev pub invariant-loop-alloc : goal.invariant-loop-alloc
invariant-loop-alloc l = record {
  rest : (j : ℕ) (a : Away) → get_elem? (seats_of l.resting.items) j ≡ some a → get_elem? (seats_of l.fn.resting.items) (length l.workers.items + j) ≡ some a;
  count : length l.workers.items + length (seats_of l.resting.items) ≡ length (seats_of l.fn.resting.items);
  ready : AllReady l.heap.gate l.count l.workers.items;
}

abbrev pub decreases-loop-alloc : goal.decreases-loop-alloc
decreases-loop-alloc l = vec_len l.resting
