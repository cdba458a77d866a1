-- What a count by one worker leaves.
use Rattle.std.specs.Prelude.{◌≡◌, ◌≢◌, ℕ, ◌+◌, ◌*◌, ◌≤◌, Bool, List, [], ◌∷◌, None, Some, length, replicate}
use Rattle.std.specs.FinMap as finite
use Rattle.object_layout.specs.declared.names.Name.{Name}
use Rattle.heap_words.specs.declared.map.Areas.{Areas}
use Rattle.heap_words.specs.Contents.{Contents}
use Rattle.heap_words.specs.Map.{page_words}
use Rattle.epoch_lattice.specs.declared.Space.TheVariants.{Control}
use Rattle.yak_model.specs.declared.datum.Datum.TheVariants as datum
use Rattle.yak_model.specs.declared.TheConstants.{ROOT_FIELDS}
use Rattle.yak_model.specs.Graph.{Content, Fields, slot_of, standard_limits, thread_of}
use Rattle.yak_model.specs.Names.{root_name}
use Rattle.yak_model.specs.Private.{KnownObjects}
use Rattle.yak_model.specs.Standing.{Standing}
use Rattle.yak_model.specs.Recorded.{Recorded}
use Rattle.yak_model.specs.Room.{most_room}
use Rattle.yak_model.specs.Spaces.{SpaceState, content_at, home_of}
use Rattle.yak_model.specs.Stands.{Stands}
use Rattle.yak_model.specs.Tables.{IsCountTable}
use Rattle.yak_model.specs.Texts.{word_counts, words_of}
use Rattle.heap_tables.specs.Runs.{slot_in}
use Rattle.group_jobs.specs.Tallies.{IsProgress, busy_tasks}
use Rattle.group_jobs.specs.Tasks.{AreTasks}
use Rattle.group_jobs.specs.declared.count.CountError.{CountError}
use Rattle.group_jobs.specs.declared.count.CountError.TheVariants.{OutOfHeap, Memory}
use Rattle.group_jobs.specs.declared.tasks.Task.{Task}
use Rattle.group_jobs.specs.declared.TheConstants.{MOST_WORDS, TOTAL_SLOT, WORKER}

-- the root as the heap opens, and what the worker alone knows then
abbrev pub root_object : Content
root_object = Fields (replicate ROOT_FIELDS datum.Null)

abbrev pub opening_known : KnownObjects
opening_known = finite.insert finite.empty root_name root_object

-- The lowest slot refers to the root, which a known map has as it was when the heap opened.
pub record HasRoot (s : Standing) (known : KnownObjects) : Type 0 where
  pub slot : slot_in s 0 ≡ datum.Object root_name
  pub object : finite.get known root_name ≡ Some root_object

-- The worker's slot of the total refers to a table in the control space that counts these words.
pub record HoldsTotal (s : SpaceState) (words : List (List ℕ)) : Type 0 where
  pub name : Name
  pub slot : slot_of s.graph WORKER TOTAL_SLOT ≡ datum.Object name
  pub table : IsCountTable s.graph.objects name (word_counts words)
  pub home : home_of s name ≡ Some Control

-- The words stand for a state with the crossing references recorded, in which the worker has no epoch open, and which has the root
-- and the worker's table of the counts, if there are words.
pub record HoldsCounts (m : Areas) (c : Contents) (words : List (List ℕ)) : Type 0 where
  pub state : SpaceState
  pub stands : Stands m c state
  pub recorded : Recorded m c state stands
  pub outside : (thread_of state.graph WORKER).depth ≡ 0
  pub root : content_at state.graph root_name ≡ Some root_object
  pub total : words ≢ [] → HoldsTotal state words

-- Where the heap had no room, no page was free, its pages are no more than the count may fill, and the text has a word.
abbrev pub TellsWhy : Areas → ℕ → List ℕ → CountError (Unit {0}) → Type 0
TellsWhy m lines bytes (OutOfHeap census heap) =
    (census.free ≡ 0) × (words_of bytes ≢ []) × ((tasks : List Task) × AreTasks bytes lines tasks × (page_words m * m.pages ≤ 2 * most_room 1 (busy_tasks bytes tasks) (words_of bytes) + 2 * page_words m))
TellsWhy m lines bytes Memory = Unit {0}

-- what the worker's caller can tell as the heap opens
abbrev pub opening_standing : Standing
opening_standing = record {
  thread = WORKER;
  limits = standard_limits;
  own = record { stack = datum.Object root_name ∷ []; depth = 0; made = 0 };
  words = 0;
  list = None;
  refusals = 0;
  last = None;
}

-- So far the worker has counted, and the words are few enough.
pub record IsListed (has : Bool) (s : Standing) (known : KnownObjects) (done : List (List ℕ)) : Type 0 where
  pub progress : IsProgress has s known done
  pub few : length done ≤ MOST_WORDS

abbrev pub HasListed : Bool → Standing → (KnownObjects → Type 0) → Type 0
HasListed has s knows = (known : KnownObjects) × (done : List (List ℕ)) × knows known × IsListed has s known done
