use Rattle.std.specs.Prelude.{◌≡◌, ◌≢◌, ℕ, zero, suc, ◌+◌, ◌-◌, ◌*◌, ◌/◌, ◌%◌, ◌≤◌, List, [], ◌∷◌, length, eqb, min, cond, nat_lt, Option, Some, None}
use Rattle.std.specs.List.{All}
use Rattle.epoch_lattice.specs.declared.Space.{Space}
use Rattle.epoch_lattice.specs.declared.Space.TheVariants.{Control, Region}
use Rattle.epoch_lattice.specs.declared.TheConstants.{MAX_DEPTH, MAX_THREADS}

-- A space of a heap whose epochs are nested at most this deep: the control space, or a region of one of its threads.
abbrev pub IsValid : ℕ → Space → Type 0
IsValid greatest Control = Unit {0}
IsValid greatest (Region thread depth) = (1 ≤ thread) × (thread ≤ MAX_THREADS) × (1 ≤ depth) × (depth ≤ greatest)

-- The least space that outlives both: the outer one of two regions of a thread, and otherwise the control space.
abbrev pub join_of : Space → Space → Space
join_of (Region thread depth) (Region other further) = cond (eqb thread other) (Region thread (min depth further)) Control
join_of _ _ = Control

-- The second space outlives the first, or is the first.
abbrev pub IsBelow : Space → Space → Type 0
IsBelow a b = join_of a b ≡ b

-- The space around a region, and the control space for itself.
abbrev pub parent_of : Space → Space
parent_of Control = Control
parent_of (Region thread depth) = cond (eqb depth 1) Control (Region thread (depth - 1))

-- The innermost space of a thread of this depth.
abbrev pub inner_of : ℕ → ℕ → Space
inner_of thread zero = Control
inner_of thread (suc further) = Region thread (suc further)

-- The number of a space: 0 for the control space, and from 1 on the regions, by thread and then by depth.
abbrev pub space_index : Space → ℕ
space_index Control = 0
space_index (Region thread depth) = 1 + MAX_DEPTH * (thread - 1) + (depth - 1)

-- The space of a number, and none past the last region.
abbrev pub space_of : ℕ → Option Space
space_of index =
    cond (nat_lt (MAX_THREADS * MAX_DEPTH) index) None
    (cond (eqb index 0) (Some Control)
    (Some (Region (1 + (index - 1) / MAX_DEPTH) (1 + (index - 1) % MAX_DEPTH))))

-- Each space of the list is below the next one and differs from it.
abbrev pub IsChain : List Space → Type 0
IsChain [] = Unit {0}
IsChain (a ∷ []) = Unit {0}
IsChain (a ∷ b ∷ rest) = IsBelow a b × (a ≢ b) × IsChain (b ∷ rest)

-- The least space that is above each space of a collection.
pub record IsLeastAbove (collection : Space → Type 0) (top : Space) : Type 0 where
  pub above : (a : Space) → collection a → IsBelow a top
  pub least : (other : Space) → ((a : Space) → collection a → IsBelow a other) → IsBelow top other

-- The laws of the spaces with their join: a semilattice with the control space on top, in which chains are short.
pub record AreLawful : Type 0 where
  pub commutative : (a b : Space) → join_of a b ≡ join_of b a
  pub associative : (a b c : Space) → join_of (join_of a b) c ≡ join_of a (join_of b c)
  pub idempotent : (a : Space) → join_of a a ≡ a
  pub top : (a : Space) → IsBelow a Control
  pub closed : (greatest : ℕ) (a b : Space) → IsValid greatest a → IsValid greatest b → IsValid greatest (join_of a b)
  pub short : (greatest : ℕ) (chain : List Space) → All (IsValid greatest) chain → IsChain chain → length chain ≤ greatest + 1

-- Each space has a number of its own, and each number up to that of the last region is that of a space.
pub record AreNumbered : Type 0 where
  pub read_back : (a : Space) → IsValid MAX_DEPTH a → space_of (space_index a) ≡ Some a
  pub own : (a b : Space) → IsValid MAX_DEPTH a → IsValid MAX_DEPTH b → space_index a ≡ space_index b → a ≡ b
  pub most : (a : Space) → IsValid MAX_DEPTH a → space_index a ≤ MAX_THREADS * MAX_DEPTH
