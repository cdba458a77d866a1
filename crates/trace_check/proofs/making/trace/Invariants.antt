use Rattle.trace_check.specs.Making.{held_of}
use Rattle.trace_check.proofs.Traced.{HasTraced}
use Rattle.trace_check.proofs.making.trace.Given as goal

-- the lines so far have run and were told
abbrev pub invariant-lines : goal.invariant-lines
invariant-lines l = HasTraced l.script l.line-index l.entries.items (held_of l.core.map l.core.words.words.items)
