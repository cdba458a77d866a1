use Rattle.std.proofs.Common.{◌≡◌, length, take}
use Rattle.yak_model.specs.History.{part}
use Rattle.safepoint_gate.specs.Seats.{IsOf}
use Rattle.safepoint_gate.specs.Steps.{first_calls}
use Rattle.script_runner.specs.Runs.{all_said, calls_of}
use Rattle.script_runner.proofs.workers.make_lines.Given as goal

-- the lines so far have been run
abbrev pub invariant-loop-i : goal.invariant-loop-i
invariant-loop-i g l = record {
  heap : IsOf l.heap.gate l.resting.away.seat.table_id l.resting.away.seat.me.0;
  thread : l.resting.away.thread ≡ l.thread;
  told : calls_of (first_calls l.resting.away.seat.me.0.own) ≡ part (all_said (take l.i l.lines) (take l.i l.replies)) l.thread;
  room : length l.replies ≡ length l.lines;
}
