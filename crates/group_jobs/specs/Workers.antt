-- The workers of a count, and what each of them leaves.
use Rattle.std.specs.Prelude.{◌≡◌, ◌≢◌, ℕ, ◌+◌, ◌*◌, ◌-◌, ◌^◌, ◌<◌, ◌≤◌, ◌||◌, Bool, true, cond, List, [], ◌∷◌, ◌++◌, length, map, slice_index_or, Option, None, Some}
use Rattle.std.specs.List.{Contains, range_with_len, slice_get}
use Rattle.std.specs.Option.{ForSome}
use Rattle.object_layout.specs.declared.calls.Call.TheVariants as call
use Rattle.object_layout.specs.declared.replies.Census.{Census}
use Rattle.object_layout.specs.declared.replies.Reply.TheVariants as reply
use Rattle.heap_words.specs.declared.map.Areas.{Areas}
use Rattle.heap_words.specs.Map.{page_words}
use Rattle.yak_model.specs.declared.datum.Datum.TheVariants as datum
use Rattle.yak_model.specs.declared.history.Entry.{Entry}
use Rattle.yak_model.specs.declared.history.Entry.TheVariants.{Said}
use Rattle.yak_model.specs.Names.{root_name}
use Rattle.yak_model.specs.Private.{KnownObjects}
use Rattle.yak_model.specs.Room.{least_room, table_words}
use Rattle.yak_model.specs.Texts.{counts_of, words_of}
use Rattle.safepoint_gate.specs.declared.gate.Gate.{Gate}
use Rattle.safepoint_gate.specs.declared.finished.Finished.{Finished}
use Rattle.safepoint_gate.specs.declared.rule.Own.{Own}
use Rattle.safepoint_gate.specs.declared.rule.View.{View}
use Rattle.safepoint_gate.specs.declared.seats.Away.{Away}
use Rattle.safepoint_gate.specs.Seats.{IsOf}
use Rattle.safepoint_gate.specs.Steps.{first_calls, first_thread}
use Rattle.heap_tables.specs.Runs.{slot_in}
use Rattle.mutator.specs.declared.resting.Resting.{Resting}
use Rattle.mutator.specs.Callers.{first_past, first_told, standing_shared}
use Rattle.task_feed.specs.Dealt.{IsDealt}
use Rattle.task_feed.specs.Shares.{share_of}
use Rattle.group_jobs.specs.Dealings.{tasks_at}
use Rattle.group_jobs.specs.Epochs.{AreEpochs, AreHalted, bounds_in}
use Rattle.group_jobs.specs.Followed.{IsSettled, KnowsOwn, made_in, refused_in}
use Rattle.group_jobs.specs.Shared.{HasEpoch, IsCountedDealt, TellsWhyShared}
use Rattle.group_jobs.specs.Tallies.{AreShort, IsProgress, is_busy, new_total, task_room, tasks_room, words_in}
use Rattle.group_jobs.specs.Tasks.{AreTasks, task_bytes}
use Rattle.group_jobs.specs.declared.count.CountError.{CountError}
use Rattle.group_jobs.specs.declared.count.CountError.TheVariants.{OutOfHeap, Memory}
use Rattle.group_jobs.specs.declared.shares.Worker.{Worker}
use Rattle.group_jobs.specs.declared.tasks.Task.{Task}
use Rattle.group_jobs.specs.declared.TheConstants.{MOST_WORDS, OBJECTS_FOR_WORD}

-- ---- what a thread that rests knows

-- Outside every epoch the seat's thread has counted these words, and knows its table of them, if there is one. Its lowest slot
-- refers to the root.
pub record IsAtRest (own : List Own) (has : Bool) (done : List (List ℕ)) : Type 0 where
  pub known : KnownObjects
  pub knows : KnowsOwn own known
  pub progress : IsProgress has (standing_shared own 0 0 None) known done
  pub root : slot_in (standing_shared own 0 0 None) 0 ≡ datum.Object root_name
  pub outside : (first_told own).depth ≡ 0

-- So many words more may be counted.
abbrev pub HasRest : List Own → Bool → ℕ → Type 0
HasRest own has more = (done : List (List ℕ)) × IsAtRest own has done × (length done + more ≤ MOST_WORDS)

-- A call for an object on the list was out of heap.
abbrev pub HasRefused : ℕ → List Entry → Type 0
HasRefused t list = (k : ℕ) × Contains list (Said t (call.New k) reply.OutOfHeap)

-- the most words of objects that are counted exactly
abbrev pub exact_most : ℕ
exact_most = 2 ^ 64 - 2

-- ---- one task

-- The thread counted the words of a task, in an epoch of its own, after the calls that it had made before.
pub record CountsTask (m : Areas) (was now : List Own) (has_total : Bool) (words : List (List ℕ)) (has : Bool) : Type 0 where
  pub has_is : has ≡ (has_total || is_busy words)
  pub made : (first_told now).made ≤ (first_told was).made + OBJECTS_FOR_WORD * length words
  pub room : made_in (first_calls now) ≤ made_in (first_calls was) + (new_total has_total has + task_room words)
  pub none : refused_in (first_calls now) ≡ 0
  pub rest : (done : List (List ℕ)) → IsAtRest was has_total done → length done + length words ≤ MOST_WORDS → IsAtRest now has (done ++ words)
  pub epochs : (k : ℕ) → AreEpochs (first_thread was) k (bounds_in (first_calls was)) → AreEpochs (first_thread was) (k + 1) (bounds_in (first_calls now))
  pub epoch : (k : ℕ) → AreEpochs (first_thread was) k (bounds_in (first_calls was)) → ∥ HasEpoch m.threads (first_past now) (first_thread was) k words ∥₁

-- There was no room for an object of the task.
pub record HaltsTask (was now : List Own) (has_total : Bool) (words : List (List ℕ)) : Type 0 where
  pub room : made_in (first_calls now) ≤ made_in (first_calls was) + (new_total has_total true + task_room words)
  pub refused : HasRefused (first_thread was) (first_calls now)
  pub bounds : (k : ℕ) → AreEpochs (first_thread was) k (bounds_in (first_calls was)) → AreHalted (first_thread was) k (bounds_in (first_calls now))
  pub busy : words ≢ []

-- Its table was read: the thread has what it had and knows what it knew, after calls that begin and end no epoch and make no object.
pub record ReadsTotal (was now : List Own) : Type 0 where
  pub more : List Entry
  pub calls : first_calls now ≡ first_calls was ++ more
  pub within : bounds_in more ≡ []
  pub made : made_in (first_calls now) ≤ made_in (first_calls was)
  pub none : refused_in (first_calls now) ≡ 0
  pub told : first_told now ≡ first_told was
  pub rest : (done : List (List ℕ)) → length done ≤ MOST_WORDS → IsAtRest was true done → IsAtRest now true done

-- ---- workers

abbrev pub own_of : Option Resting → List Own
own_of None = []
own_of (Some resting) = resting.away.seat.me.0.own

-- The mutator is there, of the gate and of the thread.
abbrev pub IsThere : Gate → ℕ → Option Resting → Type 0
IsThere gate t None = ⊥
IsThere gate t (Some resting) = IsOf gate resting.away.seat.table_id resting.away.seat.me.0 × (resting.away.thread ≡ t)

-- The thread has counted the words of these tasks, each in an epoch of its own, and the objects that it made have few enough words.
pub record IsGoing (threads t : ℕ) (bytes : List ℕ) (tasks : List Task) (own : List Own) (has : Bool) : Type 0 where
  pub has_is : has ≡ is_busy (words_in bytes tasks)
  pub made : (first_told own).made ≤ OBJECTS_FOR_WORD * length (words_in bytes tasks)
  pub room : made_in (first_calls own) ≤ cond has table_words 0 + tasks_room bytes tasks
  pub none : refused_in (first_calls own) ≡ 0
  pub rest : IsAtRest own has (words_in bytes tasks)
  pub epochs : AreEpochs t (length tasks) (bounds_in (first_calls own))
  pub epoch : (k : ℕ) (task : Task) → slice_get tasks k ≡ Some task → ∥ HasEpoch threads (first_past own) t k (words_of (task_bytes bytes task)) ∥₁

-- The worker of the thread has counted the words of these tasks, or the heap had no room for an object. The objects that it made have
-- few enough words.
pub record HasCounted (gate : Gate) (t : ℕ) (bytes : List ℕ) (tasks : List Task) (w : Worker) : Type 0 where
  pub thread : w.thread ≡ t
  pub there : IsThere gate t w.resting
  pub settled : ∥ IsSettled gate.map (own_of w.resting) ∥₁
  pub room : made_in (first_calls (own_of w.resting)) ≤ table_words + tasks_room bytes tasks
  pub halted : (n : ℕ) × AreHalted t n (bounds_in (first_calls (own_of w.resting)))
  pub going : w.refused ≡ None → IsGoing gate.map.threads t bytes tasks (own_of w.resting) w.has_total
  pub refused : ForSome w.refused (λ census. (census.free ≡ 0) × HasRefused t (first_calls (own_of w.resting)) × (words_in bytes tasks ≢ []))

-- The words are short and few enough.
abbrev pub AreSmall : List (List ℕ) → Type 0
AreSmall words = AreShort words × (length words ≤ MOST_WORDS)

-- The worker has counted some tasks, and may count this one too.
abbrev pub MayCountTask : Gate → ℕ → List ℕ → Task → Worker → Type 0
MayCountTask gate t bytes task w = (tasks : List Task) × HasCounted gate t bytes tasks w × AreSmall (words_in bytes (tasks ++ task ∷ []))

-- The tasks of a text may be dealt out, since its words are short and few enough.
pub record MayDeal (bytes : List ℕ) (tasks : List Task) : Type 0 where
  pub lines : ℕ
  pub cut : AreTasks bytes lines tasks
  pub small : AreSmall (words_of bytes)

-- So many workers may share them.
abbrev pub MayShare : ℕ → List ℕ → List Task → Type 0
MayShare workers bytes tasks = (1 ≤ workers) × MayDeal bytes tasks

-- Each worker is of the thread of its place, and has made no call.
abbrev pub AllReady : Gate → List ℕ → List Worker → Type 0
AllReady gate bytes workers = (k : ℕ) (d : Worker) → k < length workers → HasCounted gate (k + 1) bytes [] (slice_index_or workers k d)

-- Each has counted the tasks of its row.
abbrev pub AllCountedBy : Gate → List ℕ → List Task → (ℕ → List ℕ) → List Worker → Type 0
AllCountedBy gate bytes tasks row workers =
    (k : ℕ) (d : Worker) → k < length workers → HasCounted gate (k + 1) bytes (tasks_at tasks (row k)) (slice_index_or workers k d)

-- Each has counted its fixed share of the tasks.
abbrev pub AllCounted : Gate → List ℕ → List Task → List Worker → Type 0
AllCounted gate bytes tasks workers = AllCountedBy gate bytes tasks (share_of (length tasks) (length workers)) workers

-- The seats are those of the workers, in order.
abbrev pub AreSeats : List Worker → List Away → Type 0
AreSeats workers seats = (k : ℕ) (d : Worker) (a : Away) → k < length workers → (resting : Resting) × ((slice_index_or workers k d).resting ≡ Some resting) × (slice_index_or seats k a ≡ resting.away)

-- No worker found the heap without room, or some did.
abbrev pub NoneRefused : List Worker → Type 0
NoneRefused workers = (k : ℕ) (d : Worker) → k < length workers → (slice_index_or workers k d).refused ≡ None

abbrev pub SomeRefused : List Worker → Census → Type 0
SomeRefused workers census = (k : ℕ) × (k < length workers) × ((d : Worker) → (slice_index_or workers k d).refused ≡ Some census)

-- Where a count came to no end, some worker found the heap without room, or an allocation was refused.
abbrev pub WhyRefused : List Worker → CountError (Unit {0}) → Type 0
WhyRefused workers (OutOfHeap census heap) = SomeRefused workers census
WhyRefused workers Memory = Unit {0}

-- Each worker has counted the tasks of its row, in which each task of the text stands once, but for those that are left. Where no
-- worker found the heap without room, none is left.
pub record HaveCounted (gate : Gate) (bytes : List ℕ) (tasks : List Task) (row : ℕ → List ℕ) (left : List ℕ) (workers : List Worker) : Type 0 where
  pub counted : AllCountedBy gate bytes tasks row workers
  pub may : MayDeal bytes tasks
  pub dealt : IsDealt (length tasks) (map row (range_with_len 0 (length workers))) left
  pub whole : NoneRefused workers → left ≡ []

abbrev pub HaveCountedSome : Gate → List Worker → Type 0
HaveCountedSome gate workers = (bytes : List ℕ) × (tasks : List Task) × (row : ℕ → List ℕ) × (left : List ℕ) × HaveCounted gate bytes tasks row left workers

-- Whatever the workers have counted, they have counted it afterwards too.
abbrev pub KeepCounted : Gate → List Worker → List Worker → Type 0
KeepCounted gate workers after =
    (bytes : List ℕ) (tasks : List Task) (row : ℕ → List ℕ) (left : List ℕ) → HaveCounted gate bytes tasks row left workers → HaveCounted gate bytes tasks row left after

-- The list has the counts of the words of the text that the workers have counted.
abbrev pub ListsCounted : Gate → List Worker → List (List ℕ × ℕ) → Type 0
ListsCounted gate workers list =
    (bytes : List ℕ) (tasks : List Task) (row : ℕ → List ℕ) (left : List ℕ) → HaveCounted gate bytes tasks row left workers → list ≡ counts_of (words_of bytes)

-- ---- after all workers have rested

-- Where the workers have counted all tasks of a text, the heap is as such a count leaves it.
abbrev pub LeaveCounted : Gate → List Worker → View → Type 0
LeaveCounted gate workers v =
    (lines : ℕ) (bytes : List ℕ) (tasks : List Task) (row : ℕ → List ℕ) → AreTasks bytes lines tasks → HaveCounted gate bytes tasks row [] workers → IsCountedDealt gate.map lines bytes tasks row v

-- It has the room that the words of that text need at least.
abbrev pub HaveLeastRoom : Gate → List Worker → Type 0
HaveLeastRoom gate workers =
    (bytes : List ℕ) (tasks : List Task) (row : ℕ → List ℕ) → HaveCounted gate bytes tasks row [] workers → least_room (words_of bytes) ≤ page_words gate.map * gate.map.pages

-- Whatever text the workers have counted, some of its tasks or all, the error tells why they stopped.
abbrev pub TellWhy : Gate → List Worker → CountError Finished → Type 0
TellWhy gate workers error =
    (lines : ℕ) (bytes : List ℕ) (tasks : List Task) (row : ℕ → List ℕ) (left : List ℕ) → AreTasks bytes lines tasks → HaveCounted gate bytes tasks row left workers → TellsWhyShared gate.map lines bytes error
