use Rattle.std.proofs.Common.{◌≡◌, ◌+◌, ◌<◌, ℕ, length, get_or, Some}
use Rattle.std.specs.Vec.{vec_len}
use Rattle.safepoint_gate.specs.declared.seats.Away.{Away}
use Rattle.mutator.specs.declared.resting.Resting.{Resting}
use Rattle.mutator.specs.Resting.{seats_of}
use Rattle.group_jobs.specs.declared.shares.Worker.{Worker}
use Rattle.group_jobs.proofs.many.dismiss.Given as goal

abbrev pub invariant-loop-team : goal.invariant-loop-team
invariant-loop-team l = record {
  rest : (j : ℕ) (d : Worker) → j < length l.team.items → get_or l.team.items j d ≡ get_or l.fn.team.items (length l.back.items + j) d;
  count : length l.back.items + length l.team.items ≡ length l.fn.team.items;
  each : (k : ℕ) (d : Worker) (a : Away) → k < length l.back.items → (resting : Resting) × ((get_or l.fn.team.items k d).resting ≡ Some resting) × (get_or (seats_of l.back.items) k a ≡ resting.away);
}

abbrev pub decreases-loop-team : goal.decreases-loop-team
decreases-loop-team l = vec_len l.team
