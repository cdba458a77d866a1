-- The present objects as a list, and marks beside them.
use Rattle.std.specs.Prelude.{◌≡◌, ◌≢◌, ℕ, ◌+◌, ◌*◌, ◌^◌, ◌<◌, ◌≤◌, ◌-◌, ◌⊎◌, List, [], ◌∷◌, length, map, slice_index_or, slice_set, Bool, true, false, cond, Option, Some, None, is_some}
use Rattle.std.specs.List.{Contains}
use Rattle.std.specs.FinMap as finite
use Rattle.object_layout.specs.declared.names.Name.{Name}
use Rattle.object_layout.specs.declared.TheConstants.{OBJECT_WORDS, PAGE_WORDS}
use Rattle.epoch_lattice.specs.declared.TheConstants.{MAX_DEPTH}
use Rattle.epoch_lattice.specs.declared.Space.{Space}
use Rattle.epoch_lattice.specs.declared.Space.TheVariants.{Control}
use Rattle.yak_model.specs.declared.datum.Datum.{Datum}
use Rattle.yak_model.specs.declared.datum.Datum.TheVariants as datum
use Rattle.yak_model.specs.Names.{root_name}
use Rattle.yak_model.specs.Graph.{Content, Fields, Limits, Thread, fields_of, idle, size_of}
use Rattle.epoch_lattice.specs.Lattice.{IsBelow, IsLeastAbove, IsValid, join_of, parent_of}
use Rattle.yak_model.specs.Spaces.{IsReached, SpaceState, Walk}

-- a present object
pub record Kept : Type 0 where
  pub name : Name
  pub home : Space
  pub content : Content

-- stands for no object
abbrev pub nobody : Kept
nobody = record { name = root_name; home = Control; content = Fields [] }

-- the name of the object at this place
abbrev pub name_at : List Kept → ℕ → Name
name_at objects i = (slice_index_or objects i nobody).name

-- the fields of the object at this place
abbrev pub fields_of_place : List Kept → ℕ → List Datum
fields_of_place objects i = fields_of (slice_index_or objects i nobody).content

-- No two objects have one name.
abbrev pub AreDistinct : List Kept → Type 0
AreDistinct objects = (i j : ℕ) → i < length objects → j < length objects → name_at objects i ≡ name_at objects j → i ≡ j

-- The object at this place is marked.
abbrev pub IsMarked : List Bool → ℕ → Type 0
IsMarked marks i = slice_index_or marks i false ≡ true

-- The object of this name, where there is one, is marked.
abbrev pub IsMarkedName : List Kept → List Bool → Name → Type 0
IsMarkedName objects marks name = (i : ℕ) → i < length objects → name_at objects i ≡ name → IsMarked marks i

-- An object of the list has a field that refers to another one.
abbrev pub ListRefers : List Kept → Name → Name → Type 0
ListRefers objects from to = (i : ℕ) × (i < length objects) × (name_at objects i ≡ from) × Contains (fields_of_place objects i) (datum.Object to)

-- The space state of the objects.
abbrev pub state_of : Limits → List Thread → List Kept → SpaceState
state_of limits threads objects = record {
  graph = record {
    limits = limits;
    objects = finite.from_entries (map (λ (k : Kept). (k.name, k.content)) objects);
    threads = threads;
  };
  home = finite.from_entries (map (λ (k : Kept). (k.name, k.home)) objects);
}

-- the space of the object at this place
abbrev pub home_at : List Kept → ℕ → Space
home_at objects i = (slice_index_or objects i nobody).home

-- what the object at this place has for a target
abbrev pub target_at : List (Option Space) → ℕ → Option Space
target_at targets i = slice_index_or targets i None

-- An object of the region has a field that refers to an object of the region.
pub record ListInside (objects : List Kept) (region : Space) (from to : Name) : Type 0 where
  pub source : ℕ
  pub source_place : source < length objects
  pub source_name : name_at objects source ≡ from
  pub source_home : home_at objects source ≡ region
  pub refers : Contains (fields_of_place objects source) (datum.Object to)
  pub goal : ℕ
  pub goal_place : goal < length objects
  pub goal_name : name_at objects goal ≡ to
  pub goal_home : home_at objects goal ≡ region

-- A walk inside the region leads to the object from one that has this target.
abbrev pub IsLedTo : List Kept → Space → List (Option Space) → Name → Space → Type 0
IsLedTo objects region targets name space =
    (root : Name) × ((j : ℕ) × (j < length objects) × (target_at targets j ≡ Some space) × (name_at objects j ≡ root)) × Walk (ListInside objects region) root name

-- the target of an object that is also reached from an object with this target
abbrev pub joined : Option Space → Space → Space
joined None space = space
joined (Some before) space = join_of before space

-- The object of this name, where it is in the region, has a target above this space.
abbrev pub IsAbove : List Kept → Space → List (Option Space) → Space → Name → Type 0
IsAbove objects region targets space name =
    (i : ℕ) → i < length objects → name_at objects i ≡ name → home_at objects i ≡ region → (old : Space) × (target_at targets i ≡ Some old) × IsBelow space old

-- the words of the objects that have a target
abbrev pub target_words : List Kept → List (Option Space) → ℕ
target_words [] targets = 0
target_words (o ∷ rest) [] = 0
target_words (o ∷ rest) (x ∷ targets) = cond (is_some x) (size_of o.content) 0 + target_words rest targets

-- Each object fits a page, and a sum of their words is a number of 64 bits.
pub record AreSmall (objects : List Kept) : Type 0 where
  pub fits : (i : ℕ) → i < length objects → length (fields_of_place objects i) + OBJECT_WORDS ≤ PAGE_WORDS
  pub few : PAGE_WORDS * length objects < 2 ^ 64

-- Each target is a space of a heap with epochs nested at most this deep.
abbrev pub AreValid : ℕ → List (Option Space) → Type 0
AreValid greatest targets = (i : ℕ) (space : Space) → target_at targets i ≡ Some space → IsValid greatest space

-- The objects that still have a space, each in its new one.
abbrev pub settled : List Kept → List (Option Space) → List Kept
settled [] homes = []
settled (o ∷ rest) [] = []
settled (o ∷ rest) (None ∷ homes) = settled rest homes
settled (o ∷ rest) (Some home ∷ homes) = (record o { home = home }) ∷ settled rest homes

-- Each object is in a space that a heap can have.
abbrev pub AreHomesValid : List Kept → Type 0
AreHomesValid objects = (i : ℕ) → i < length objects → IsValid MAX_DEPTH (home_at objects i)

-- What is left of a list of objects: no name twice, each object one of the list with its fields, in a space that a heap can have.
pub record IsRest (before after : List Kept) : Type 0 where
  pub distinct : AreDistinct after
  pub valid : AreHomesValid after
  pub names : (i : ℕ) → i < length after → (j : ℕ) × (j < length before) × (name_at before j ≡ name_at after i)
  pub fields : (i : ℕ) → i < length after → (j : ℕ) × (j < length before) × (fields_of_place before j ≡ fields_of_place after i)
  pub few : length after ≤ length before

-- A slot of some stack refers to the object.
abbrev pub IsHeld : List Thread → Name → Type 0
IsHeld threads name = (t : ℕ) × ((1 ≤ t) × (t ≤ length threads)) × Contains (slice_index_or threads (t - 1) idle).stack (datum.Object name)

-- A collection begins with the object at this place.
abbrev pub IsFirst : List Thread → List Kept → ℕ → Type 0
IsFirst threads objects i = (home_at objects i ≢ Control) ⊎ IsHeld threads (name_at objects i)

-- A walk from an object with which a collection begins leads to the object.
abbrev pub IsLiveName : List Thread → List Kept → Name → Type 0
IsLiveName threads objects name =
    IsReached (ListRefers objects) (λ root. (j : ℕ) × (j < length objects) × IsFirst threads objects j × (name_at objects j ≡ root)) name

-- A slot of the thread's stack refers to the object.
abbrev pub IsHeldBy : List Thread → ℕ → Name → Type 0
IsHeldBy threads u name = ((1 ≤ u) × (u ≤ length threads)) × Contains (slice_index_or threads (u - 1) idle).stack (datum.Object name)

-- An object outside the region refers to the object, and is in this space.
abbrev pub IsFieldSource : List Kept → Space → Name → ℕ → Space → Type 0
IsFieldSource objects region name below space =
    (j : ℕ) × (j < below) × (home_at objects j ≢ region) × Contains (fields_of_place objects j) (datum.Object name) × (home_at objects j ≡ space)

-- A reference to the object from outside the region stands for this space.
abbrev pub IsListSource : List Thread → List Kept → ℕ → Space → Name → Space → Type 0
IsListSource threads objects t region name space =
    (IsFieldSource objects region name (length objects) space ⊎ (IsHeldBy threads t name × (parent_of region ≡ space)))
    ⊎ (((u : ℕ) × (u ≢ t) × IsHeldBy threads u name) × (Control ≡ space))

-- The join of a collection of spaces, where it has one.
abbrev pub IsJoinOf : (Space → Type 0) → Option Space → Type 0
IsJoinOf collection None = (space : Space) → collection space → ⊥
IsJoinOf collection (Some top) = IsLeastAbove collection top × ((space : Space) × collection space)

-- A target, where there is one, is a space that a heap can have.
abbrev pub IsTargetValid : Option Space → Type 0
IsTargetValid None = Unit {0}
IsTargetValid (Some space) = IsValid MAX_DEPTH space

-- The target of an object at an end that may be tight.
abbrev pub final : Bool → Option Space → Option Space
final tight None = None
final tight (Some target) = Some (cond tight Control target)

-- The threads after one of them has this depth.
abbrev pub threads_at : List Thread → ℕ → ℕ → List Thread
threads_at threads t depth = slice_set threads (t - 1) (record (slice_index_or threads (t - 1) idle) { depth = depth })

-- A reference from outside the region that stands for the space leads to the object by a walk inside the region.
abbrev pub IsListReached : List Thread → List Kept → ℕ → Space → Name → Space → Type 0
IsListReached threads objects t region name space =
    (root : Name)
    × ((j : ℕ) × (j < length objects) × (home_at objects j ≡ region) × IsListSource threads objects t region (name_at objects j) space × (name_at objects j ≡ root))
    × Walk (ListInside objects region) root name
