use Rattle.std.proofs.Common.{◌≡◌, ◌+◌, ℕ, List, length}
use Rattle.std.specs.Vec.{vec_len}
use mathlib.Core.Option.{some}
use lib.ListN.{get_elem?}
use Rattle.safepoint_gate.specs.declared.seats.Away.{Away}
use Rattle.mutator.specs.Resting.{seats_of}
use Rattle.group_jobs.specs.Workers.{AllReady}
use Rattle.group_jobs.proofs.many.hire.Given as goal

abbrev pub invariant-hired : goal.invariant-hired
invariant-hired l = record {
  rest : (j : ℕ) (a : Away) → get_elem? (seats_of l.resting.items) j ≡ some a → get_elem? (seats_of l.fn.resting.items) (length l.team.items + j) ≡ some a;
  count : length l.team.items + length (seats_of l.resting.items) ≡ length (seats_of l.fn.resting.items);
  ready : (bytes : List ℕ) → AllReady l.heap.gate bytes l.team.items;
}

abbrev pub decreases-hired : goal.decreases-hired
decreases-hired l = vec_len l.resting
