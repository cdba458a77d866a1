-- What the calls do that wait for nobody.
use Rattle.std.specs.Prelude.{◌≡◌, ◌≢◌, ◌⊎◌, ℕ, ◌+◌, ◌≤◌, ◌<◌, List, ◌++◌, length, None, false}
use Rattle.object_layout.specs.declared.TheConstants.{OBJECT_WORDS}
use Rattle.object_layout.specs.declared.calls.Call.{Call}
use Rattle.object_layout.specs.declared.calls.Call.TheVariants.{New}
use Rattle.object_layout.specs.declared.calls.Event.{Event}
use Rattle.object_layout.specs.declared.replies.Reply.{Reply}
use Rattle.object_layout.specs.declared.replies.Reply.TheVariants.{Ok, OutOfHeap}
use Rattle.heap_words.specs.declared.TheConstants.{BUFFER_ENTRIES}
use Rattle.heap_words.specs.Map.{page_at, page_words}
use Rattle.yak_model.specs.Graph.{refusal_of}
use Rattle.region_pages.specs.declared.TheConstants.{CLAIM_COUNTER, POOL_LENGTH, USED_MARK}
use Rattle.calls_in_flight.specs.declared.notes.Known.{Known}
use Rattle.calls_in_flight.specs.Actors.{Shows}
use Rattle.calls_in_flight.specs.Flight.{at_rest}
use Rattle.calls_in_flight.specs.Steps.{current_at, logged_at, slot_at}
use Rattle.heap_core.specs.declared.owned.Stepped.{Stepped}
use Rattle.heap_core.specs.Steps.{plain}
use Rattle.safepoint_gate.specs.declared.rule.View.{View}
use Rattle.safepoint_gate.specs.Singles.{IsSo, Says, acting, actor, loads_of, put_of}
use Rattle.safepoint_gate.specs.Steps.{first_thread}
use Rattle.barriers.specs.Barred.{OnlyLoads}
use Rattle.barriers.specs.Shown.{MustRecord, PutsEntry, WasLoaded}
use Rattle.mutator.specs.Calls.{MakesCall}

-- the event of a call that made no collection
abbrev pub told_by : Call → Reply → Event
told_by asked said = record { call = asked; reply = said; collected = false }

-- A slot of the thread's stack has this word.
abbrev pub ShowsSlot : View → ℕ → ℕ → Type 0
ShowsSlot v k word = (k < length (actor v).told.stack) × Shows (actor v) (slot_at v.map (actor v).thread k) word

-- The thread of the view v made a call with this reply, closing no gate, and has the view w then, with no call in flight. Its own
-- list has the entry of the call more, it has loaded more, and it has put an entry into its store buffer exactly where the call
-- must record a slot.
pub record Answers (v : View) (asked : Call) (said : Reply) (more : List Known) (w : View) : Type 0 where
  pub put : ℕ
  pub says : Says v (told_by asked said) (at_rest (first_thread v.own)) (loads_of v ++ more) put w.own
  pub puts : PutsEntry says.before (first_thread v.own) asked said (put_of v) put
  pub view : w ≡ acting v w.own w.lasting

-- The same, with some loads.
abbrev pub Answered : View → Call → Reply → View → Type 0
Answered v asked said w = (more : List Known) × Answers v asked said more w

-- A store with a reply: where it must record a slot, the store buffer was loaded to have room.
pub record AnswersStore (v : View) (asked : Call) (said : Reply) (w : View) : Type 0 where
  pub more : List Known
  pub answers : Answers v asked said more w
  pub room : MustRecord answers.says.before (first_thread v.own) asked → said ≡ Ok → (n : ℕ) × WasLoaded more (logged_at v.map (first_thread v.own)) n × (n < BUFFER_ENTRIES)

-- What was loaded shows that an object of so many words doesn't fit the thread's current page, at this depth of the thread: its
-- block names no current page, or one whose used mark leaves fewer words.
abbrev pub ShowsFull : View → List Known → ℕ → ℕ → Type 0
ShowsFull v loads depth size =
    WasLoaded loads (current_at v.map (first_thread v.own) depth) 0
    ⊎ ((p : ℕ) × (used : ℕ) × WasLoaded loads (current_at v.map (first_thread v.own) depth) (p + 1) × WasLoaded loads (page_at v.map p + USED_MARK) used × (page_words v.map < used + size))

-- It shows that no page was left: the claim counter, as it was loaded or raised, was at or past the pool's length.
abbrev pub ShowsNoPage : List Known → Type 0
ShowsNoPage loads = (size : ℕ) × (counter : ℕ) × WasLoaded loads POOL_LENGTH size × WasLoaded loads CLAIM_COUNTER counter × (size ≤ counter)

-- A new object with a reply: no load of the call showed that no page was left, and the heap isn't said to be full.
pub record AnswersNew (v : View) (fields : ℕ) (said : Reply) (w : View) : Type 0 where
  pub more : List Known
  pub answers : Answers v (New fields) said more w
  pub found : ShowsNoPage more → ⊥
  pub not_full : said ≢ OutOfHeap

-- No refusal of a new object of so many fields applies in the state that the one history leaves, and what was loaded shows that it
-- doesn't fit the thread's current page and that no page was left. Nothing of the thread has changed.
pub record FindsNoPage (v : View) (fields : ℕ) (w : View) : Type 0 where
  pub more : List Known
  pub lasting : List Known
  pub view : OnlyLoads v more lasting w
  pub so : IsSo w
  pub let_ : refusal_of so.state.graph (first_thread v.own) (New fields) ≡ None
  pub full : ShowsFull v more (actor v).told.depth (fields + OBJECT_WORDS)
  pub none : ShowsNoPage more

-- A new object that waits where it must: made at once, or, where no page was left, behind the closed gate.
pub data AnswersOrCollects (v : View) (fields : ℕ) (said : Stepped) (w : View) : Type 0 where
  at_once : AnswersNew v fields said.reply w → said ≡ plain said.reply → AnswersOrCollects v fields said w
  closed : (u : View) → FindsNoPage v fields u → MakesCall u w (New fields) said → AnswersOrCollects v fields said w
