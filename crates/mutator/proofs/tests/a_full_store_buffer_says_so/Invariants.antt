use Rattle.mutator.specs.Running.{IsOfHeap}
use Rattle.mutator.proofs.tests.a_full_store_buffer_says_so.Given as goal

abbrev pub invariant-loop-f : goal.invariant-loop-f
invariant-loop-f g l = IsOfHeap l.heap l.mutator.inside
