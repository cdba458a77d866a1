use Rattle.std.proofs.Common.{◌≡◌, ◌++◌}
use Rattle.std.specs.Vec.{vec_len}
use Rattle.mutator.specs.Resting.{AllSingle, seats_of}
use Rattle.mutator.proofs.heap.resting_all.Given as goal

abbrev pub invariant-loop-all : goal.invariant-loop-all
invariant-loop-all l = record {
  seats : seats_of l.all.items ++ l.seats.items ≡ l.fn.seats.items;
  single : AllSingle l.seats.items;
}

abbrev pub decreases-loop-all : goal.decreases-loop-all
decreases-loop-all l = vec_len l.seats
