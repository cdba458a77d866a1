use Rattle.std.proofs.Common.{◌≡◌, ℕ, ◌+◌, ◌-◌, List}
use Rattle.yak_model.specs.declared.TheConstants.{GROUP_BYTES}
use Rattle.yak_model.specs.Tables.{AreBytes, digits}
use Rattle.heap_tables.proofs.reading.byte_of.Given as goal

abbrev pub invariant-loop-k : goal.invariant-loop-k
invariant-loop-k l = (word : List ℕ) (start : ℕ) → AreBytes word → l.group ≡ digits word start GROUP_BYTES → l.rest ≡ digits word start (GROUP_BYTES + (l.j + 1) - l.k)
