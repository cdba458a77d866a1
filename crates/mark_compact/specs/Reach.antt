-- What a collection reaches in the state that the words show.
use Rattle.std.specs.Prelude.{◌≡◌, ◌≢◌, ◌⊎◌, ℕ, Some}
use Rattle.object_layout.specs.declared.names.Name.{Name}
use Rattle.epoch_lattice.specs.declared.Space.TheVariants.{Control}
use Rattle.yak_model.specs.Spaces.{IsReached}
use Rattle.yak_model.specs.State.{State, Thing}
use Rattle.heap_walks.specs.Reach.{IsHeldAt, IsIn, Points}

-- A present object is in the control space, or in a region.
abbrev pub IsControl : State → Name → Type 0
IsControl s n = IsIn s Control n

abbrev pub IsRegional : State → Name → Type 0
IsRegional s n = (o : Thing) × (s.objects n ≡ Some o) × (o.home ≢ Control)

-- Where a collection begins: what the stacks hold, and the objects of regions.
abbrev pub IsStart : State → Name → Type 0
IsStart s n = ((k : ℕ) × IsHeldAt s k n) ⊎ IsRegional s n

-- A walk leads to the object from where a collection begins.
abbrev pub IsAlive : State → Name → Type 0
IsAlive s n = IsReached (Points s) (IsStart s) n
