-- What the words of a heap show of its state: the objects by name, and the threads' stacks, depths and numbers made.
use Rattle.std.specs.Prelude.{◌≡◌, ℕ, ◌-◌, ◌≤◌, List, [], map, slice_index, slice_index_or, Option, Some, None, IsSome, length}
use Rattle.std.specs.List.{All}
use Rattle.object_layout.specs.declared.names.Name.{Name}
use Rattle.object_layout.specs.declared.TheConstants.{MAX_INT, MAX_FIELDS}
use Rattle.epoch_lattice.specs.declared.Space.{Space}
use Rattle.epoch_lattice.specs.declared.Space.TheVariants.{Control, Region}
use Rattle.yak_model.specs.declared.datum.Datum.{Datum}
use Rattle.yak_model.specs.declared.datum.Datum.TheVariants.{Null, Int, Object}
use Rattle.yak_model.specs.Graph.{Content, Thread, fields_of}
use Rattle.yak_model.specs.Spaces.{SpaceState, home_of, content_at}

-- A present object: its space, and the values of its fields.
pub record Thing : Type 0 where
  pub home : Space
  pub fields : List Datum

-- What is shown of a state. The lists go by thread, from thread 1 on.
pub record State : Type 0 where
  -- the objects that are present
  pub objects : Name → Option Thing
  pub stacks : List (List Datum)
  pub depths : List ℕ
  pub made : List ℕ

-- What has a home and a content is a present object.
abbrev pub thing_of : Option Space → Option Content → Option Thing
thing_of None content = None
thing_of (Some home) None = None
thing_of (Some home) (Some content) = Some (record { home = home; fields = fields_of content })

-- The present object of a name.
abbrev pub object_of : SpaceState → Name → Option Thing
object_of s n = thing_of (home_of s n) (content_at s.graph n)

-- What the words show of a space state.
abbrev pub view : SpaceState → State
view s =
    record {
      objects = object_of s;
      stacks = map (λ (t : Thread). t.stack) s.graph.threads;
      depths = map (λ (t : Thread). t.depth) s.graph.threads;
      made = map (λ (t : Thread). t.made) s.graph.threads;
    }

-- The stack of a thread, and its depth.
abbrev pub stack : State → ℕ → List Datum
stack s t = slice_index_or s.stacks (t - 1) []

abbrev pub depth : State → ℕ → ℕ
depth s t = slice_index s.depths (t - 1)

-- A space is open: it is Control, or a region whose thread is at least as deep.
abbrev pub IsOpen : List ℕ → Space → Type 0
IsOpen depths Control = Unit {0}
IsOpen depths (Region t d) = (1 ≤ t) × (t ≤ length depths) × (1 ≤ d) × (d ≤ slice_index depths (t - 1))

-- A datum of the state: an integer fits, and a reference leads to a present object.
abbrev pub IsDatum : (Name → Option Thing) → Datum → Type 0
IsDatum objects Null = Unit {0}
IsDatum objects (Int i) = i ≤ MAX_INT
IsDatum objects (Object n) = IsSome (objects n)

-- Every value on a stack or in a field of a present object is one of the state, and objects have few enough fields.
pub record IsClosed (s : State) : Type 0 where
  pub stacks : All (All (IsDatum s.objects)) s.stacks
  pub fields : (n : Name) (o : Thing) → s.objects n ≡ Some o → All (IsDatum s.objects) o.fields × (length o.fields ≤ MAX_FIELDS)
