use Rattle.std.proofs.Common.{arith}
use Rattle.std.proofs.KnownBytes.{Appends-trans}
use Rattle.std.proofs.lemmas.List.{take_rest}
use Rattle.std.proofs.Math.Seq.{take-add}
use Rattle.yak_io.proofs.whole.write_all.Goals as goal

pub turns-preserved : goal.turns-preserved
turns-preserved g c = record {
  later = omega (arith, c.turns.invariant.later, c.in-Ok.ensures.cause.later);
  taken = rw take-add (Appends-trans _ _ _ _ _ c.turns.invariant.taken (rw take_rest at c.in-Ok.ensures.bytes));
  within = omega (arith, c.in-Ok.ensures.bound);
}
