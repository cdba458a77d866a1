-- The rule of the table. Word 0 is the gate: the number of seats that are present, and the closing bit more where one asks to close it.
use Rattle.std.specs.Prelude.{◌≡◌, ℕ, zero, suc, ◌+◌, ◌-◌, ◌*◌, ◌<◌, ◌≤◌, ◌==◌, List, [], ◌∷◌, ◌++◌, length, slice_index, slice_set, if◌then◌else◌}
use mathlib.Core.Option.{some}
use lib.ListN.{get_elem?}
use Rattle.atomic_table.specs.Table.{State}
use Rattle.heap_words.specs.declared.map.Areas.{Areas}
use Rattle.heap_words.specs.Map.{HasThread, IsAreas, total_of}
use Rattle.heap_words.specs.Contents.{buffer_of, contents}
use Rattle.yak_model.specs.declared.datum.Datum.TheVariants.{Object}
use Rattle.yak_model.specs.Continued.{Explains, PackedIfAsked}
use Rattle.yak_model.specs.Lawful.{IsLawful}
use Rattle.yak_model.specs.Graph.{Thread, standard_limits, thread_of}
use Rattle.yak_model.specs.declared.history.Entry.{Entry}
use Rattle.yak_model.specs.History.{part}
use Rattle.std.specs.FinMap.{empty}
use Rattle.yak_model.specs.Names.{root_name}
use Rattle.yak_model.specs.Private.{PrivateAfter}
use Rattle.yak_model.specs.Spaces.{SpaceState, spaces}
use Rattle.calls_in_flight.specs.declared.notes.Flight.{Flight}
use Rattle.calls_in_flight.specs.declared.notes.Known.{Known}
use Rattle.calls_in_flight.specs.Actors.{Actor}
use Rattle.calls_in_flight.specs.Differing.{DiffersOnly}
use Rattle.calls_in_flight.specs.Fits.{StandInFlight}
use Rattle.calls_in_flight.specs.Flight.{at_rest, flight_at}
use Rattle.calls_in_flight.specs.Knowing as knowing
use Rattle.calls_in_flight.specs.Whole.{whole}
use Rattle.safepoint_gate.specs.declared.TheConstants.{CLOSING}
use Rattle.safepoint_gate.specs.declared.rule.Own.{Own}
use Rattle.safepoint_gate.specs.declared.rule.Place.{Place}
use Rattle.safepoint_gate.specs.declared.rule.Place.TheVariants.{Away, Inside, Retreating, Asking, Closed}
use Rattle.safepoint_gate.specs.declared.rule.View.{View}

-- ---- sums over views

-- f of each view, added up
abbrev pub total : (View → ℕ) → List View → ℕ
total f [] = 0
total f (v ∷ vs) = f v + total f vs

abbrev pub present_at : Place → ℕ
present_at Away = 0
present_at Inside = 1
present_at Retreating = 1
present_at Asking = 1
present_at Closed = 1

-- inside, with no right to the words of others
abbrev pub inner_at : Place → ℕ
inner_at Away = 0
inner_at Inside = 1
inner_at Retreating = 0
inner_at Asking = 1
inner_at Closed = 0

abbrev pub asking_at : Place → ℕ
asking_at Away = 0
asking_at Inside = 0
asking_at Retreating = 0
asking_at Asking = 1
asking_at Closed = 1

abbrev pub closed_at : Place → ℕ
closed_at Away = 0
closed_at Inside = 0
closed_at Retreating = 0
closed_at Asking = 0
closed_at Closed = 1

abbrev pub present : View → ℕ
present v = present_at v.place

abbrev pub inner : View → ℕ
inner v = inner_at v.place

abbrev pub asking : View → ℕ
asking v = asking_at v.place

abbrev pub closed : View → ℕ
closed v = closed_at v.place

-- how often the seat stands for the thread t
abbrev pub times : ℕ → List Own → ℕ
times t [] = 0
times t (o ∷ os) = (if o.thread == t then 1 else 0) + times t os

abbrev pub stands_for : ℕ → View → ℕ
stands_for t v = times t v.own

-- for how many threads the seat stands
abbrev pub numbers : View → ℕ
numbers v = length v.own

-- The gate counts the seats that are present, and has the closing bit where one asks. At most one asks, and where one has closed
-- the gate no seat is inside but that one.
pub record CountsSeats (gate : ℕ) (views : List View) : Type 0 where
  pub count : gate ≡ total present views + CLOSING * total asking views
  pub one : total asking views ≤ 1
  pub alone : 0 < total closed views → total inner views ≡ 0

-- ---- words and history

-- all words but the gate, which shows as 0
abbrev pub hidden : List ℕ → List ℕ
hidden words = slice_set words 0 0

-- what a thread has
abbrev pub thread_told : Own → Thread
thread_told o = record { stack = o.stack; depth = o.depth; made = o.made }

-- The history goes on from an earlier one.
abbrev pub GoesOn : List Entry → List Entry → Type 0
GoesOn before history = (more : List Entry) × (history ≡ before ++ more)

-- A thread's entries are its part of the history, it has what it has in the state that the history leaves, and it alone knows its
-- map of objects then. The history goes on from that after the thread's last call.
pub record Mine (m : Areas) (history : List Entry) (o : Own) : Type 0 where
  pub thread : HasThread m o.thread
  pub calls : part history o.thread ≡ o.calls
  pub has : (s : SpaceState) → spaces standard_limits m.threads history s → thread_of s.graph o.thread ≡ thread_told o
  pub knows : PrivateAfter standard_limits m.threads history o.thread o.known
  pub goes_on : GoesOn o.past history

-- each of the threads does
abbrev pub AllMine : Areas → List Entry → List Own → Type 0
AllMine m history own = (k : ℕ) (o : Own) → get_elem? own k ≡ some o → Mine m history o

-- ---- calls in flight

-- whether calls of the seat's thread may be in flight
abbrev pub moving_at : Place → ℕ
moving_at Away = 0
moving_at Inside = 1
moving_at Retreating = 0
moving_at Asking = 0
moving_at Closed = 0

abbrev pub moving : View → ℕ
moving v = moving_at v.place

-- a thread of a seat as it acts, with words that it has met
abbrev pub actor_of : Own → List Known → Actor
actor_of o lasting = record { thread = o.thread; told = thread_told o; flight = o.flight; lasting = lasting }

-- What is under way in the threads of a heap: the call in flight of each, in order of thread, the words that it has met, and how
-- many entries its store buffer has at most while no seat has closed the gate.
pub record Underway : Type 0 where
  pub flights : List Flight
  pub lasting : ℕ → List Known
  pub logged : ℕ → ℕ

-- There is one call in flight for each thread.
pub record AreByThread (m : Areas) (flights : List Flight) : Type 0 where
  pub count : length flights ≡ m.threads
  pub threads : (t : ℕ) → HasThread m t → (flight_at flights (t - 1)).thread ≡ t

-- What is under way in a thread of a seat is what the seat knows of it. The words differ from what the thread has in nothing but
-- what a call in flight allows, and its store buffer has no more entries than the thread has put there.
pub record IsUnderway (m : Areas) (u : Underway) (lasting : List Known) (o : Own) : Type 0 where
  pub flight_is : flight_at u.flights (o.thread - 1) ≡ o.flight
  pub lasting_is : u.lasting o.thread ≡ lasting
  pub few : u.logged o.thread ≤ o.put
  pub differs : DiffersOnly m (actor_of o lasting)

-- No call of the threads of a seat is in flight.
abbrev pub AllRest : List Own → Type 0
AllRest own = (k : ℕ) (o : Own) → get_elem? own k ≡ some o → o.flight ≡ at_rest o.thread

-- The words without the gate stand for the state that the history leaves, apart from the calls in flight, with the crossing
-- references recorded, and Control is packed where the history ends with a collection that was asked for. What each thread has met
-- lasts, and the store buffers have at most so many entries.
pub record StandsOpen (m : Areas) (words : List ℕ) (history : List Entry) (u : Underway) : Type 0 where
  pub lawful : IsLawful standard_limits m.threads m.pages history
  pub state : SpaceState
  pub leaves : spaces standard_limits m.threads history state
  pub stands : StandInFlight m words u.flights state
  pub packed : PackedIfAsked m (whole m words u.flights) state stands.stands history
  pub lasts : (t : ℕ) → HasThread m t → knowing.Knows m words u.flights state stands (t - 1) (u.lasting t)
  pub counted : (t : ℕ) → HasThread m t → length (buffer_of (whole m words u.flights) t) ≤ u.logged t

-- ---- the rule

-- What a seat that has closed the gate knows: the words, the history, that it explains the words of the closing, and how many
-- entries the store buffers had at most.
pub record Knows (m : Areas) (words : List ℕ) (history : List Entry) (u : Underway) (v : View) : Type 0 where
  pub words_are : v.words ≡ words
  pub history_is : v.history ≡ history
  pub explains : Explains m (contents m v.closing) history
  pub counted : (t : ℕ) → HasThread m t → length (buffer_of (contents m v.closing) t) ≤ u.logged t

-- What holds of each view.
pub record Fits (m : Areas) (words : List ℕ) (history : List Entry) (u : Underway) (v : View) : Type 0 where
  pub map_is : 1 ≤ length v.own → v.map ≡ m
  pub single : present v ≤ length v.own
  pub mine : AllMine m history v.own
  pub calls : (k : ℕ) (o : Own) → get_elem? v.own k ≡ some o → IsUnderway m u v.lasting o
  pub rests : moving v ≡ 0 → AllRest v.own × (v.lasting ≡ [])
  pub knows : closed v ≡ 1 → Knows m words history u v

-- The rule: there is one history. Each thread of the heap stands in exactly one view, and no other does. Its entries are its part of
-- the history, its stack, depth and number made are those that the history leaves, and its known objects it alone knows. Where no
-- seat has closed the gate, the history explains the words, apart from the calls in flight of seats that are inside.
pub record OneHistory (m : Areas) (s : State (Unit {0}) View) : Type 0 where
  pub history : List Entry
  pub underway : Underway
  pub areas : IsAreas m
  pub wide : length s.words ≡ total_of m
  pub all_given : total numbers s.views ≡ m.threads
  pub counted : CountsSeats (slice_index s.words 0) s.views
  pub once : (t : ℕ) → HasThread m t → total (stands_for t) s.views ≡ 1
  pub by_thread : AreByThread m underway.flights
  pub fits : (j : ℕ) (v : View) → get_elem? s.views j ≡ some v → Fits m (hidden s.words) history underway v
  pub open_ : total closed s.views ≡ 0 → StandsOpen m (hidden s.words) history underway

-- ---- the opening

-- a thread that has made no call
abbrev pub newcomer : ℕ → Own
newcomer t = record { thread = t; calls = []; stack = Object root_name ∷ []; depth = 0; made = 0; known = empty; past = []; flight = at_rest t; loads = []; put = 0 }

-- the threads from k on, n of them
abbrev pub fresh : ℕ → ℕ → List Own
fresh k zero = []
fresh k (suc n) = newcomer k ∷ fresh (suc k) n

abbrev pub away_view : Areas → List Own → View
away_view m own = record { map = m; own = own; place = Away; lasting = []; words = []; closing = []; history = [] }

abbrev pub first_view : Areas → View
first_view m = away_view m (fresh 1 m.threads)
