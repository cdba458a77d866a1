-- What a count by several workers leaves.
use Rattle.std.specs.Prelude.{◌≡◌, ◌≢◌, ℕ, ◌+◌, ◌*◌, ◌<◌, ◌≤◌, Bool, List, [], ◌∷◌, ◌++◌, Some, length}
use Rattle.std.specs.List.{Contains, range_with_len, slice_get, sum_by}
use Rattle.object_layout.specs.declared.names.Name.{Name}
use Rattle.object_layout.specs.declared.calls.Call.TheVariants as call
use Rattle.object_layout.specs.declared.replies.Reply.TheVariants as reply
use Rattle.heap_words.specs.declared.map.Areas.{Areas}
use Rattle.heap_words.specs.Map.{page_words}
use Rattle.heap_words.specs.Contents.{contents}
use Rattle.epoch_lattice.specs.declared.Space.TheVariants.{Control, Region}
use Rattle.yak_model.specs.declared.datum.Datum.TheVariants as datum
use Rattle.yak_model.specs.declared.history.Entry.{Entry}
use Rattle.yak_model.specs.declared.history.Entry.TheVariants.{Said}
use Rattle.yak_model.specs.Continued.{Explains}
use Rattle.yak_model.specs.Graph.{Graph, next_name, opening, slot_of, standard_limits}
use Rattle.yak_model.specs.History.{Leads, part}
use Rattle.yak_model.specs.Room.{most_room}
use Rattle.yak_model.specs.Spaces.{SpaceState, home_of, spaces}
use Rattle.yak_model.specs.Tables.{IsCountTable}
use Rattle.yak_model.specs.Texts.{places_of, word_counts, words_of}
use Rattle.safepoint_gate.specs.declared.rule.View.{View}
use Rattle.safepoint_gate.specs.Rule.{AllMine, GoesOn}
use Rattle.safepoint_gate.specs.declared.finished.Finished.{Finished}
use Rattle.task_feed.specs.Dealt.{IsDealt}
use Rattle.task_feed.specs.Shares.{share_of}
use Rattle.group_jobs.specs.Dealings.{row_at, tasks_at, words_at}
use Rattle.group_jobs.specs.Epochs.{AreEpochs, bounds_in}
use Rattle.group_jobs.specs.Tallies.{busy_tasks}
use Rattle.group_jobs.specs.Tasks.{AreTasks, task_bytes}
use Rattle.group_jobs.specs.declared.count.CountError.{CountError}
use Rattle.group_jobs.specs.declared.count.CountError.TheVariants.{OutOfHeap, Memory}
use Rattle.group_jobs.specs.declared.tasks.Task.{Task}
use Rattle.group_jobs.specs.declared.TheConstants.{TOTAL_SLOT}

-- ---- the tasks of a worker

-- the tasks that go to one of so many workers, numbered from 0: they are dealt out in turn
abbrev pub share : ℕ → ℕ → List Task → List Task
share workers worker tasks = tasks_at tasks (share_of (length tasks) workers worker)

-- ---- the epoch of a task

-- The first object that the thread makes after the one history is, after the other, a table in the thread's outermost region that
-- counts the words.
pub record HoldsPart (threads : ℕ) (opened closed : List Entry) (t : ℕ) (words : List (List ℕ)) : Type 0 where
  pub name : Name
  pub first : (g : Graph) → Leads (opening standard_limits threads) opened g → name ≡ next_name g t
  pub home : (s : SpaceState) → spaces standard_limits threads closed s → home_of s name ≡ Some (Region t 1)
  pub table : (s : SpaceState) → spaces standard_limits threads closed s → IsCountTable s.graph.objects name (word_counts words)

-- The history has the epoch of the thread's task of this number, from 0, in which it counts the words.
pub record HasEpoch (threads : ℕ) (history : List Entry) (t k : ℕ) (words : List (List ℕ)) : Type 0 where
  pub before : List Entry
  pub inside : List Entry
  pub moved : ℕ
  pub tight : Bool
  pub goes_on : GoesOn (before ++ (Said t call.Begin reply.Ok ∷ inside) ++ Said t call.End (reply.Ended moved tight) ∷ []) history
  pub number : AreEpochs t k (bounds_in (part before t))
  pub plain : bounds_in (part inside t) ≡ []
  pub part_held : words ≢ [] → HoldsPart threads before (before ++ Said t call.Begin reply.Ok ∷ inside) t words

-- ---- after all workers have rested

-- The thread's slot of the total refers to a table in the control space that counts the words.
pub record HoldsTotalOf (s : SpaceState) (t : ℕ) (words : List (List ℕ)) : Type 0 where
  pub name : Name
  pub slot : slot_of s.graph t TOTAL_SLOT ≡ datum.Object name
  pub table : IsCountTable s.graph.objects name (word_counts words)
  pub home : home_of s name ≡ Some Control

-- The text was cut into these tasks of so many lines, and the workers counted them in a heap of this size, each those of its row. One
-- history explains the words of the heap. Each worker's own list has an epoch for each of its tasks, in turn, in which it counted the
-- task's words. Each worker that had a word has a table that counts the words of its tasks, and together these count the words of
-- the text. The threads are those of the workers, numbered from 1.
pub record IsCountedDealt (size : Areas) (lines : ℕ) (bytes : List ℕ) (tasks : List Task) (row : ℕ → List ℕ) (v : View) : Type 0 where
  pub map_is : v.map ≡ size
  pub explains : Explains v.map (contents v.map v.words) v.history
  pub mine : AllMine v.map v.history v.own
  pub cut : AreTasks bytes lines tasks
  pub epochs : (worker : ℕ) → worker < size.threads → AreEpochs (worker + 1) (length (tasks_at tasks (row worker))) (bounds_in (part v.history (worker + 1)))
  pub counted : (worker k : ℕ) (task : Task) → worker < size.threads → slice_get (tasks_at tasks (row worker)) k ≡ Some task → ∥ HasEpoch size.threads v.history (worker + 1) k (words_of (task_bytes bytes task)) ∥₁
  pub totals : (worker : ℕ) → worker < size.threads → words_at bytes tasks (row worker) ≢ [] → HoldsTotalOf explains.state (worker + 1) (words_at bytes tasks (row worker))
  pub sums : (word : List ℕ) → places_of (words_of bytes) word ≡ sum_by (λ worker. places_of (words_at bytes tasks (row worker)) word) (range_with_len 0 size.threads)

-- So it is, and each worker counted its fixed share of the tasks.
abbrev pub IsCountedShared : Areas → ℕ → List ℕ → View → Type 0
IsCountedShared size lines bytes v = (tasks : List Task) × IsCountedDealt size lines bytes tasks (share_of (length tasks) size.threads) v

-- So it is, and each worker counted the tasks of its row, in which each task stands once.
pub record IsCountedFed (size : Areas) (lines : ℕ) (bytes : List ℕ) (rows : List (List ℕ)) (v : View) : Type 0 where
  pub tasks : List Task
  pub many : length rows ≡ size.threads
  pub dealt : IsDealt (length tasks) rows []
  pub counted : IsCountedDealt size lines bytes tasks (row_at rows) v

-- ---- where the heap had no room

-- Some worker's own list has a call for an object that was out of heap, in a heap of this size, and the text has a word. One history explains the words of
-- the heap, and its pages are no more than the count may fill.
pub record RanOutShared (size : Areas) (lines : ℕ) (bytes : List ℕ) (v : View) : Type 0 where
  pub map_is : v.map ≡ size
  pub explains : Explains v.map (contents v.map v.words) v.history
  pub mine : AllMine v.map v.history v.own
  pub worker : ℕ
  pub within : worker < size.threads
  pub asked : ℕ
  pub refused : Contains (part v.history (worker + 1)) (Said (worker + 1) (call.New asked) reply.OutOfHeap)
  pub some : words_of bytes ≢ []
  pub tasks : List Task
  pub cut : AreTasks bytes lines tasks
  pub room : page_words size * size.pages ≤ 2 * most_room size.threads (busy_tasks bytes tasks) (words_of bytes) + page_words size * (size.threads + 1)

-- Where the heap had no room, no page was free then, and the heap is as such a run left it.
abbrev pub TellsWhyShared : Areas → ℕ → List ℕ → CountError Finished → Type 0
TellsWhyShared size lines bytes (OutOfHeap census finished) = (census.free ≡ 0) × RanOutShared size lines bytes finished.seat.me.0
TellsWhyShared size lines bytes Memory = Unit {0}
