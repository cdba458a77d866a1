use Rattle.std.proofs.Common.{subst}
use Rattle.script_text.specs.ScriptContents.{ScriptContents}
use Rattle.trace_check.specs.Traces.{AreOfThreads}
use Rattle.trace_check.proofs.ReadTo.{held_threads}
use Rattle.trace_check.proofs.reading.read_parts.Goals as goal

pub returns-clause-valid : goal.returns-clause-valid
returns-clause-valid c = (
  c.in-Ok-read_front.ensures.found.1,
  subst (λ (s : ScriptContents). AreOfThreads s.heap.threads c.in_ok-entries.entries.items) c.script.view_is
      (held_threads c.script.inside.threads _ c.in_ok-entries.entries.items c.in_ok-entries.ensures.found),
)
