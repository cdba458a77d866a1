-- Which objects escape from a region, in what the words show of a state.
use Rattle.std.specs.Prelude.{◌≡◌, ◌≢◌, ◌⊎◌, ℕ, ◌-◌, Some}
use Rattle.std.specs.List.{Contains}
use Rattle.object_layout.specs.declared.names.Name.{Name}
use Rattle.epoch_lattice.specs.declared.Space.{Space}
use Rattle.epoch_lattice.specs.declared.Space.TheVariants.{Control}
use Rattle.epoch_lattice.specs.Lattice.{IsBelow, parent_of}
use Rattle.yak_model.specs.declared.datum.Datum.TheVariants.{Object}
use Rattle.yak_model.specs.Spaces.{IsReached}
use Rattle.yak_model.specs.State.{State, Thing}
use Rattle.heap_walks.specs.Reach.{IsHeldAt, IsIn}

-- A reference from outside into the region of a thread that stands for a space.
abbrev pub IsSourceIn : State → ℕ → Space → Name → Space → Type 0
IsSourceIn s t region n x =
    IsIn s region n
    × (((from : Name) × (o : Thing) × (s.objects from ≡ Some o) × (o.home ≡ x) × (x ≢ region) × Contains o.fields (Object n))
    ⊎ ((IsHeldAt s (t - 1) n × (x ≡ parent_of region))
    ⊎ ((k : ℕ) × (k ≢ t - 1) × IsHeldAt s k n × (x ≡ Control))))

-- A field of an object of the region, to an object of the region.
abbrev pub IsInside : State → Space → Name → Name → Type 0
IsInside s region a b = (o : Thing) × (s.objects a ≡ Some o) × (o.home ≡ region) × Contains o.fields (Object b) × IsIn s region b

-- A source that stands for the space reaches the object by a walk inside the region.
abbrev pub IsReachedIn : State → ℕ → Space → Name → Space → Type 0
IsReachedIn s t region n x = IsReached (IsInside s region) (λ root. IsSourceIn s t region root x) n

-- A space is below each space that is above all sources which reach an object, and some source reaches it.
pub record IsDue (s : State) (t : ℕ) (region : Space) (n : Name) (x : Space) : Type 0 where
  pub least : (z : Space) → ((y : Space) → IsReachedIn s t region n y → IsBelow y z) → IsBelow x z
  pub source : Space
  pub reached : IsReachedIn s t region n source
