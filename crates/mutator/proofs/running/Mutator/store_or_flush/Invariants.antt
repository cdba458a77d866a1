use Rattle.mutator.specs.Running.{IsOfHeap, view_in}
use Rattle.mutator.proofs.Meanwhile.{Meanwhile}
use Rattle.mutator.proofs.running.Mutator.store_or_flush.Given as goal

abbrev pub invariant-loop : goal.invariant-loop
invariant-loop g l = IsOfHeap l.heap l.self.inside × Meanwhile (view_in l.initial.self.inside) (view_in l.self.inside)
