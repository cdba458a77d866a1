-- The objects that a plan has moved, and store buffers that are filed.
use Rattle.std.specs.Prelude.{◌≡◌, ℕ, ◌<◌, List, [], Option, Some}
use Rattle.std.specs.List.{All}
use Rattle.object_layout.specs.declared.names.Name.{Name}
use Rattle.epoch_lattice.specs.declared.TheConstants.{MAX_DEPTH}
use Rattle.epoch_lattice.specs.Lattice.{IsValid}
use Rattle.yak_model.specs.State.{IsDatum, Thing}
use Rattle.yak_model.specs.Plans.{Move}

-- All store buffers are empty.
abbrev pub AreFiled : List (List ℕ) → Type 0
AreFiled buffers = All (λ (entries : List ℕ). entries ≡ []) buffers

-- The object of each of the first moves stands at its new place, in its new space.
abbrev pub AreMoved : (Name → Option Thing) → (Name → ℕ) → ℕ → (ℕ → Move) → Type 0
AreMoved objects at count moves = (k : ℕ) → k < count → (n : Name) × (o : Thing) × (objects n ≡ Some o) × (at n ≡ (moves k).new) × (o.home ≡ (moves k).space)

-- Every field of a present object is a datum of the state.
abbrev pub AreData : (Name → Option Thing) → Type 0
AreData objects = (n : Name) (o : Thing) → objects n ≡ Some o → All (IsDatum objects) o.fields

-- Every present object is in a valid space.
abbrev pub AreValid : (Name → Option Thing) → Type 0
AreValid objects = (n : Name) (o : Thing) → objects n ≡ Some o → IsValid MAX_DEPTH o.home
