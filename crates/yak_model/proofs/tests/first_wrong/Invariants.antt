use Rattle.std.proofs.Common.{◌≡◌, length}
use Rattle.yak_model.proofs.tests.first_wrong.Given as goal

abbrev pub invariant-loop-i : goal.invariant-loop-i
invariant-loop-i l = (length l.graph.threads ≡ l.threads) × (length l.spaces.graph.threads ≡ l.threads)
