-- The plain machine of the spaces: a graph with the space of each present object in a list beside it.
use Rattle.std.specs.Prelude.{◌≡◌, ℕ, ◌+◌, ◌<◌, ◌≤◌, List, map, length, slice_index_or, Some, is_some, cond}
use Rattle.std.specs.List.{sum_by}
use Rattle.std.specs.FinMap as finite
use Rattle.object_layout.specs.declared.names.Name.{Name}
use Rattle.object_layout.specs.declared.TheConstants.{MAX_SERIAL, OBJECT_WORDS, PAGE_WORDS}
use Rattle.epoch_lattice.specs.declared.Space.{Space}
use Rattle.epoch_lattice.specs.declared.Space.TheVariants.{Control}
use Rattle.epoch_lattice.specs.declared.TheConstants.{MAX_DEPTH, MAX_THREADS}
use Rattle.epoch_lattice.specs.Lattice.{IsValid}
use Rattle.yak_model.specs.declared.datum.Datum.TheVariants as datum
use Rattle.yak_model.specs.declared.homes.Home.{Home}
use Rattle.yak_model.specs.Names.{name_cmp, root_name}
use Rattle.yak_model.specs.Graph.{Content, Fields, Graph, Thread, fields_at, standard_limits, thread_of}
use Rattle.yak_model.specs.Kept.{Kept}
use Rattle.yak_model.specs.Lawful.{is_control}
use Rattle.yak_model.specs.Private.{IsMade}
use Rattle.yak_model.specs.History.{Entry}
use Rattle.yak_model.specs.Spaces.{SpaceState, Turns, content_at}

-- stands for no home
abbrev pub no_home : Home
no_home = record { name = root_name; space = Control }

-- the name at this place of the list
abbrev pub home_name : List Home → ℕ → Name
home_name homes i = (slice_index_or homes i no_home).name

-- the space at this place of the list
abbrev pub home_space : List Home → ℕ → Space
home_space homes i = (slice_index_or homes i no_home).space

-- the finite map from names to spaces that a list shows
abbrev pub homes_map : List Home → finite.FinMap name_cmp Space
homes_map homes = finite.from_entries (map (λ (h : Home). (h.name, h.space)) homes)

-- the space state that a graph and a list of homes show
abbrev pub shown_state : Graph → List Home → SpaceState
shown_state g homes = record { graph = g; home = homes_map homes }

-- the present objects, in the order of their homes
abbrev pub kept_of : Graph → List Home → List Kept
kept_of g homes =
    map (λ (h : Home). record { name = h.name; home = h.space; content = Fields (fields_at g (datum.Object h.name)) }) homes

-- the homes of a list of objects
abbrev pub homes_of : List Kept → List Home
homes_of objects = map (λ (k : Kept). record { name = k.name; space = k.home }) objects

-- the names of a list of objects with what they hold
abbrev pub contents_of : List Kept → List (Name × Content)
contents_of objects = map (λ (k : Kept). (k.name, k.content)) objects

-- the words of an object of this name
abbrev pub size_at : Graph → Name → ℕ
size_at g name = length (fields_at g (datum.Object name)) + OBJECT_WORDS

-- the words of the object of a home, where that is the control space
abbrev pub control_size : Graph → Home → ℕ
control_size g h = cond (is_control (Some h.space)) (size_at g h.name) 0

-- the words of the object of a home, where that is a region
abbrev pub region_size : Graph → Home → ℕ
region_size g h = cond (is_control (Some h.space)) 0 (size_at g h.name)

-- how many objects all threads made
abbrev pub all_made : Graph → ℕ
all_made g = sum_by (λ (t : Thread). t.made) g.threads

-- The entry may come in this state.
abbrev pub CanTurn : SpaceState → Entry → Type 0
CanTurn s entry = (after : SpaceState) × Turns s entry after

-- What always holds of a graph with its list of homes: each name has one home, which is a space that a heap can have, what
-- is present is what the graph keeps, and it was made; objects fit pages, and there are no more than were made, and the root.
pub record IsSound (g : Graph) (homes : List Home) : Type 0 where
  pub limits : g.limits ≡ standard_limits
  pub threads : length g.threads ≤ MAX_THREADS
  pub depths : (t : ℕ) → (thread_of g t).depth ≤ MAX_DEPTH
  pub distinct : (i j : ℕ) → i < length homes → j < length homes → home_name homes i ≡ home_name homes j → i ≡ j
  pub valid : (i : ℕ) → i < length homes → IsValid MAX_DEPTH (home_space homes i)
  pub present : (name : Name) → is_some (content_at g name) ≡ is_some (finite.get (homes_map homes) name)
  pub made : (i : ℕ) → i < length homes → IsMade g (home_name homes i)
  pub fits : (name : Name) → size_at g name ≤ PAGE_WORDS
  pub serials : (t : ℕ) → (thread_of g t).made ≤ MAX_SERIAL
  pub few : length homes ≤ all_made g + 1
