use Rattle.std.proofs.Common.{take}
use Rattle.script_runner.specs.Runs.{held_of}
use Rattle.script_runner.proofs.Runs.{HasRun}
use Rattle.script_runner.proofs.one_core.replay.Given as goal

-- the lines so far have run
abbrev pub invariant-lines : goal.invariant-lines
invariant-lines l = HasRun l.script.heap (take l.line-index l.line-items) l.replies.items (held_of l.core.map l.core.words.words.items)
