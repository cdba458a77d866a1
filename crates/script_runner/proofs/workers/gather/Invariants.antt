use Rattle.std.proofs.Common.{◌≡◌, ◌-◌, ◌<◌, ℕ, length, get_or}
use Rattle.object_layout.specs.declared.replies.Reply.{Reply}
use Rattle.script_text.specs.declared.scripts.Line.{Line}
use Rattle.script_runner.specs.declared.workers.Worker.{Worker}
use Rattle.script_runner.proofs.workers.gather.Given as goal

abbrev pub invariant-loop-i : goal.invariant-loop-i
invariant-loop-i l = record {
  room : length l.replies ≡ length l.lines;
  so_far : (j : ℕ) (x : Line) (d : Worker) (r : Reply) → j < l.i → get_or l.replies j r ≡ get_or (get_or l.workers ((get_or l.lines j x).thread - 1) d).replies.items j r;
}
