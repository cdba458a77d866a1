-- What each step tells.
use Rattle.std.specs.Prelude.{◌≡◌, ◌≢◌, ℕ, ◌<◌, ◌≤◌, List, [], ◌∷◌, ◌++◌, length, slice_index, slice_set, take, drop, Option, None, Some, false}
use Rattle.atomic_table.specs.Table.{Me, Step}
use Rattle.heap_words.specs.declared.map.Areas.{Areas}
use Rattle.heap_words.specs.Map.{HasThread, IsAreas, total_of}
use Rattle.heap_words.specs.Contents.{Contents, buffer_of, contents}
use mathlib.Core.Option.{some}
use lib.ListN.{get_elem?}
use Rattle.object_layout.specs.declared.calls.Call.TheVariants.{Null}
use Rattle.object_layout.specs.declared.calls.Event.{Event}
use Rattle.object_layout.specs.declared.replies.Reply.TheVariants.{Ok}
use Rattle.yak_model.specs.Continued.{Continues, Explains, StandsStill, entries_told}
use Rattle.std.specs.FinMap.{empty}
use Rattle.yak_model.specs.Graph.{Thread, standard_limits}
use Rattle.yak_model.specs.declared.history.Entry.{Entry}
use Rattle.yak_model.specs.declared.history.Entry.TheVariants.{Said}
use Rattle.yak_model.specs.Private.{BecomesKnown, KnownObjects}
use Rattle.safepoint_gate.specs.declared.TheConstants.{ALONE, CLOSING}
use Rattle.safepoint_gate.specs.declared.rule.Own.{Own}
use Rattle.safepoint_gate.specs.declared.rule.Place.{Place}
use Rattle.safepoint_gate.specs.declared.rule.Place.TheVariants.{Away, Inside, Retreating, Asking, Closed}
use Rattle.safepoint_gate.specs.declared.rule.View.{View}
use Rattle.safepoint_gate.specs.Rule.{AllMine, AllRest}

abbrev pub Sat : Type 0
Sat = Me (Unit {0}) View

-- ---- views after a step

-- at another place, where it knows nothing of words that last
abbrev pub at_place : View → Place → View
at_place v p = record { map = v.map; own = v.own; place = p; lasting = []; words = v.words; closing = v.closing; history = v.history }

abbrev pub at_gate : View → List ℕ → List Entry → View
at_gate v words history = record { map = v.map; own = v.own; place = Closed; lasting = []; words = words; closing = words; history = history }

abbrev pub written : View → List ℕ → View
written v words = record { map = v.map; own = v.own; place = v.place; lasting = v.lasting; words = words; closing = v.closing; history = v.history }

abbrev pub with_own : View → Place → List Own → View
with_own v p own = record { map = v.map; own = own; place = p; lasting = []; words = v.words; closing = v.closing; history = v.history }

abbrev pub of_first : View → View
of_first v = with_own v v.place (take 1 v.own)

abbrev pub of_others : View → View
of_others v = with_own v v.place (drop 1 v.own)

abbrev pub of_both : View → View → View
of_both v w = with_own v v.place (v.own ++ w.own)

abbrev pub of_none : View
of_none = record { map = record { pages = 0; threads = 0 }; own = []; place = Away; lasting = []; words = []; closing = []; history = [] }

-- ---- own lists

-- the thread after more entries that ended the history, with what it then has and knows
abbrev pub with_entries : Own → List Entry → Thread → KnownObjects → List Entry → Own
with_entries o more has known past = record {
  thread = o.thread;
  calls = o.calls ++ more;
  stack = has.stack;
  depth = has.depth;
  made = has.made;
  known = known;
  past = past;
  flight = o.flight;
  loads = o.loads;
  put = o.put;
}

-- the seat's first thread has more entries
abbrev pub told : List Own → List Entry → Thread → KnownObjects → List Entry → List Own
told [] more has known past = []
told (o ∷ os) more has known past = with_entries o more has known past ∷ os

-- the seat's first thread, whose store buffer is empty, has put nothing there since
abbrev pub flushed : List Own → List Own
flushed [] = []
flushed (o ∷ os) = record {
  thread = o.thread;
  calls = o.calls;
  stack = o.stack;
  depth = o.depth;
  made = o.made;
  known = o.known;
  past = o.past;
  flight = o.flight;
  loads = o.loads;
  put = 0;
} ∷ os

-- the number of the seat's first thread
abbrev pub first_thread : List Own → ℕ
first_thread [] = 0
first_thread (o ∷ os) = o.thread

-- the entries of the seat's first thread
abbrev pub first_calls : List Own → List Entry
first_calls [] = []
first_calls (o ∷ os) = o.calls

-- the objects that the seat's first thread alone knows
abbrev pub first_known : List Own → KnownObjects
first_known [] = empty
first_known (o ∷ os) = o.known

-- ---- what a seat that has closed the gate knows

-- All words but the gate, and the one history, which explains them and has the entries of the seat's threads as their parts.
pub record IsClosing (v : View) : Type 0 where
  pub areas : IsAreas v.map
  pub wide : length v.words ≡ total_of v.map
  pub gate_hidden : slice_index v.words 0 ≡ 0
  pub explains : Explains v.map (contents v.map v.closing) v.history
  pub mine : AllMine v.map v.history v.own
  pub rests : AllRest v.own
  pub counted : (k : ℕ) (o : Own) → get_elem? v.own k ≡ some o → length (buffer_of (contents v.map v.closing) o.thread) ≤ o.put

-- No store buffer is longer than it was.
abbrev pub KeepBuffers : Areas → Contents → Contents → Type 0
KeepBuffers m was now = (t : ℕ) → HasThread m t → length (buffer_of now t) ≤ length (buffer_of was t)

-- The words may be shown to the others, with the entries of the event in the history, or as words of the same state with the own
-- store buffer empty.
abbrev pub MayOpen : View → Option Event → Type 0
MayOpen v None =
    StandsStill v.map (contents v.map v.closing) (contents v.map v.words)
    × KeepBuffers v.map (contents v.map v.closing) (contents v.map v.words)
    × (buffer_of (contents v.map v.words) (first_thread v.own) ≡ [])
MayOpen v (Some event) =
    Continues v.map (contents v.map v.closing) (contents v.map v.words) (first_thread v.own) event
    × KeepBuffers v.map (contents v.map v.closing) (contents v.map v.words)

-- The seat has opened the gate: its first thread has the entries of the event, what it has in the state of the words, which the
-- history with these entries explains, and it knows what the call made of the objects that it alone knew.
pub record OpenedWith (v : View) (event : Event) (w : View) : Type 0 where
  pub has : Thread
  pub known : KnownObjects
  pub view : w ≡ with_own v Inside (told v.own (entries_told (first_thread v.own) event) has known (v.history ++ entries_told (first_thread v.own) event))
  pub becomes : BecomesKnown standard_limits v.map.threads v.history (first_thread v.own) (first_known v.own) (Said (first_thread v.own) event.call event.reply) known
  pub explains : Explains v.map (contents v.map v.words) (v.history ++ entries_told (first_thread v.own) event)
  pub mine : AllMine v.map (v.history ++ entries_told (first_thread v.own) event) w.own

-- The seat has opened the gate, with an event or with the own store buffer empty.
abbrev pub Opened : View → Option Event → View → Type 0
Opened v None w = (w ≡ with_own v Inside (flushed v.own)) × Explains v.map (contents v.map v.words) v.history
Opened v (Some event) w = OpenedWith v event w

abbrev pub no_event : Event
no_event = record { call = Null; reply = Ok; collected = false }

-- ---- steps

-- the view after the step is this one
abbrev pub Becomes : Sat → Sat → View → Type 0
Becomes m m' w = (m'.0 ≡ w) × (m'.1 ≡ m.1)

abbrev pub enters : Step (Unit {0}) → Sat → ℕ → Sat → Type 0
enters st m n m' = (n < CLOSING → Becomes m m' (at_place m.0 Inside)) × (CLOSING ≤ n → Becomes m m' (at_place m.0 Retreating)) × AllRest m.0.own

abbrev pub leaves : Step (Unit {0}) → Sat → ℕ → Sat → Type 0
leaves st m n m' = Becomes m m' (at_place m.0 Away)

abbrev pub asks : Step (Unit {0}) → Sat → ℕ → Sat → Type 0
asks st m n m' = (n < CLOSING → Becomes m m' (at_place m.0 Asking)) × (CLOSING ≤ n → Becomes m m' m.0)

-- the seat has closed the gate, and knows words that the history explains
abbrev pub Closes : Sat → Sat → Type 0
Closes m m' = Becomes m m' (at_gate m.0 m'.0.words m'.0.history) × IsClosing m'.0

abbrev pub looks : Step (Unit {0}) → Sat → ℕ → Sat → Type 0
looks st m n m' = (n ≡ ALONE → Closes m m') × (n ≢ ALONE → Becomes m m' m.0)

abbrev pub seals : Step (Unit {0}) → Sat → ℕ → Sat → Type 0
seals st m n m' = Closes m m'

abbrev pub gets : Step (Unit {0}) → Sat → ℕ → Sat → Type 0
gets st m n m' = Becomes m m' m.0 × (n ≡ slice_index m.0.words st.word)

abbrev pub sets : Step (Unit {0}) → Sat → ℕ → Sat → Type 0
sets st m n m' = Becomes m m' (written m.0 (slice_set m.0.words st.word st.first))

abbrev pub opens : Step (Unit {0}) → Sat → ℕ → Sat → Type 0
opens st m n m' = Opened m.0 None m'.0 × (m'.1 ≡ m.1) × AllRest m'.0.own

abbrev pub opens_with : Event → Step (Unit {0}) → Sat → ℕ → Sat → Type 0
opens_with event st m n m' = Opened m.0 (Some event) m'.0 × (m'.1 ≡ m.1) × AllRest m'.0.own
