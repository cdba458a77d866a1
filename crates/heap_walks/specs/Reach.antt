-- What refers to what in the state that the words show.
use Rattle.std.specs.Prelude.{◌≡◌, ℕ, ◌<◌, [], length, slice_index_or, Some}
use Rattle.std.specs.List.{Contains}
use Rattle.object_layout.specs.declared.names.Name.{Name}
use Rattle.epoch_lattice.specs.declared.Space.{Space}
use Rattle.yak_model.specs.declared.datum.Datum.TheVariants.{Object}
use Rattle.yak_model.specs.State.{State, Thing}

-- A field of a present object refers to another one.
abbrev pub Points : State → Name → Name → Type 0
Points s from to = (o : Thing) × (s.objects from ≡ Some o) × Contains o.fields (Object to)

-- A present object is in a space.
abbrev pub IsIn : State → Space → Name → Type 0
IsIn s space n = (o : Thing) × (s.objects n ≡ Some o) × (o.home ≡ space)

-- A slot of the thread at a place of the list of threads, which counts from 0, refers to the object.
abbrev pub IsHeldAt : State → ℕ → Name → Type 0
IsHeldAt s k n = (k < length s.stacks) × Contains (slice_index_or s.stacks k []) (Object n)
