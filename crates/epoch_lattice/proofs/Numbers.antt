-- The numbers of spaces.
use Rattle.std.proofs.Common.{◌≡◌, ◌*◌, ◌≤◌, Some, refl, arith}
use Rattle.std.proofs.lemmas.Bool.Decides.{nat_tests}
use Rattle.epoch_lattice.specs.declared.Space.{Space}
use Rattle.epoch_lattice.specs.declared.Space.TheVariants.{Control, Region}
use Rattle.epoch_lattice.specs.declared.TheConstants.{MAX_DEPTH, MAX_THREADS}
use Rattle.epoch_lattice.specs.Lattice.{IsValid, space_index, space_of}

pub number-most : (a : Space) → IsValid MAX_DEPTH a → space_index a ≤ MAX_THREADS * MAX_DEPTH
number-most Control h = omega arith
number-most (Region t d) h = omega arith

pub number-reads_back : (a : Space) → IsValid MAX_DEPTH a → space_of (space_index a) ≡ Some a
number-reads_back Control h = refl
number-reads_back (Region t d) h = grind (arith, nat_tests)

pub number-own : (a b : Space) → IsValid MAX_DEPTH a → IsValid MAX_DEPTH b → space_index a ≡ space_index b → a ≡ b
number-own Control Control h k e = refl
number-own Control (Region u e) h k q = absurd (omega arith)
number-own (Region t d) Control h k q = absurd (omega arith)
number-own (Region t d) (Region u e) h k q =
    let same : t ≡ u = omega arith in
    let deep : d ≡ e = omega arith in
    cc
