use Rattle.std.proofs.Common.{refl}
use Rattle.mutator.specs.Running.{view_in}
use Rattle.mutator.proofs.Telling.{each_of_heap, knows_nothing, nothing_told}
use Rattle.mutator.proofs.running.Mutator.as_caller.Goals as goal

pub invariant_of-result : goal.invariant_of-result
invariant_of-result g c = record {
  of_heap = each_of_heap c.args.heap.now c.args.self.inside c.requires.heap;
  knows_none = knows_nothing (view_in c.args.self.inside).own;
  some = ((λ e. refl), (λ e. refl));
  none_free = nothing_told;
}
