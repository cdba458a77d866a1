use Rattle.std.proofs.Common.{◌≡◌, ◌+◌, ◌<◌, ℕ, length, get_or, Some}
use Rattle.std.specs.Vec.{vec_len}
use Rattle.safepoint_gate.specs.declared.seats.Away.{Away}
use Rattle.mutator.specs.declared.resting.Resting.{Resting}
use Rattle.mutator.specs.Resting.{seats_of}
use Rattle.script_runner.specs.declared.workers.Worker.{Worker}
use Rattle.script_runner.proofs.workers.dismiss.Given as goal

abbrev pub invariant-loop-workers : goal.invariant-loop-workers
invariant-loop-workers l = record {
  rest : (j : ℕ) (d : Worker) → j < length l.workers.items → get_or l.workers.items j d ≡ get_or l.fn.workers.items (length l.back.items + j) d;
  count : length l.back.items + length l.workers.items ≡ length l.fn.workers.items;
  each : (k : ℕ) (d : Worker) (a : Away) → k < length l.back.items → (resting : Resting) × ((get_or l.fn.workers.items k d).resting ≡ Some resting) × (get_or (seats_of l.back.items) k a ≡ resting.away);
}

abbrev pub decreases-loop-workers : goal.decreases-loop-workers
decreases-loop-workers l = vec_len l.workers
