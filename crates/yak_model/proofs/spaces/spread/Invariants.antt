use Rattle.std.proofs.Common.{◌≡◌, ℕ, ◌<◌, length, Some}
use Rattle.std.specs.List.{sum_by}
use Rattle.epoch_lattice.specs.declared.TheConstants.{MAX_DEPTH}
use Rattle.epoch_lattice.specs.declared.Space.{Space}
use Rattle.epoch_lattice.specs.Lattice.{IsBelow}
use Rattle.yak_model.specs.Kept.{AreValid, IsLedTo, name_at, target_at}
use Rattle.yak_model.proofs.Targets.{height}
use Rattle.yak_model.proofs.spaces.spread.Given as goal

abbrev pub invariant-loop-i : goal.invariant-loop-i
invariant-loop-i l = record {
  valid : AreValid MAX_DEPTH l.targets;
  grown : (i : ℕ) (first : Space) → target_at l.fn.targets i ≡ Some first → (space : Space) × (target_at l.targets i ≡ Some space) × IsBelow first space;
  caused : (i : ℕ) (space : Space) → i < length l.objects → target_at l.targets i ≡ Some space → (first : Space) × IsLedTo l.objects l.region l.fn.targets (name_at l.objects i) first;
  least : (i : ℕ) (space : Space) → i < length l.objects → target_at l.targets i ≡ Some space → (bound : Space) → ((first : Space) → IsLedTo l.objects l.region l.fn.targets (name_at l.objects i) first → IsBelow first bound) → IsBelow space bound;
}

abbrev pub decreases-loop-i : goal.decreases-loop-i
decreases-loop-i l = sum_by height l.targets
