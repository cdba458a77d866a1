-- What the single steps of a thread that is inside tell.
use Rattle.std.specs.Prelude.{◌≡◌, ◌≢◌, ℕ, ◌+◌, ◌≤◌, List, [], ◌∷◌, ◌++◌, Option, None, Some}
use Rattle.object_layout.specs.declared.calls.Event.{Event}
use Rattle.yak_model.specs.Continued.{entries_told}
use Rattle.yak_model.specs.declared.datum.Datum.{Datum}
use Rattle.yak_model.specs.declared.history.Entry.{Entry}
use Rattle.yak_model.specs.declared.history.Entry.TheVariants.{Said}
use Rattle.yak_model.specs.Graph.{Thread, idle, standard_limits}
use Rattle.yak_model.specs.Lawful.{IsLawful}
use Rattle.yak_model.specs.Private.{BecomesKnown, KnownObjects}
use Rattle.yak_model.specs.Spaces.{SpaceState, spaces}
use Rattle.atomic_table.specs.Table.{Step}
use Rattle.region_pages.specs.declared.TheConstants.{CLAIM_COUNTER}
use Rattle.calls_in_flight.specs.declared.notes.Flight.{Flight}
use Rattle.calls_in_flight.specs.declared.notes.Known.{Known}
use Rattle.calls_in_flight.specs.Actors.{Actor, HasMet, Shows, learn}
use Rattle.calls_in_flight.specs.FieldSteps.{Claims, FieldLoaded, PoolLoaded}
use Rattle.calls_in_flight.specs.Flight.{at_rest}
use Rattle.calls_in_flight.specs.OwnStores.{FliesOn}
use Rattle.calls_in_flight.specs.Seeing.{Sees}
use Rattle.calls_in_flight.specs.Steps.{logged_at}
use Rattle.safepoint_gate.specs.declared.rule.Own.{Own}
use Rattle.safepoint_gate.specs.declared.rule.View.{View}
use Rattle.safepoint_gate.specs.Rule.{AllMine, actor_of}
use Rattle.safepoint_gate.specs.Steps.{Sat, first_known, first_thread, told}

-- ---- the thread of a seat that is inside

-- as it acts
abbrev pub actor_in : List Own → List Known → Actor
actor_in [] lasting = record { thread = 0; told = idle; flight = at_rest 0; lasting = lasting }
actor_in (o ∷ own) lasting = actor_of o lasting

abbrev pub actor : View → Actor
actor v = actor_in v.own v.lasting

-- the loads that it has made, and the entries that it has put into its store buffer
abbrev pub loads_in : List Own → List Known
loads_in [] = []
loads_in (o ∷ own) = o.loads

abbrev pub put_in : List Own → ℕ
put_in [] = 0
put_in (o ∷ own) = o.put

abbrev pub loads_of : View → List Known
loads_of v = loads_in v.own

abbrev pub put_of : View → ℕ
put_of v = put_in v.own

-- No call of it is in flight.
abbrev pub IsQuiet : View → Type 0
IsQuiet v = (actor v).flight ≡ at_rest (first_thread v.own)

-- with this in flight, these loads and so many entries put
abbrev pub with_call : List Own → Flight → List Known → ℕ → List Own
with_call [] f loads put = []
with_call (o ∷ own) f loads put = record {
  thread = o.thread;
  calls = o.calls;
  stack = o.stack;
  depth = o.depth;
  made = o.made;
  known = o.known;
  past = o.past;
  flight = f;
  loads = loads;
  put = put;
} ∷ own

-- the seat with other facts of its thread and other words that the thread has met
abbrev pub acting : View → List Own → List Known → View
acting v own lasting = record { map = v.map; own = own; place = v.place; lasting = lasting; words = v.words; closing = v.closing; history = v.history }

abbrev pub moved : View → Flight → List Known → List Known → ℕ → View
moved v f lasting loads put = acting v (with_call v.own f loads put) lasting

-- ---- entries

-- The thread of the seat had the view v when the one history left the state `before`, and has these entries more since then, with
-- what it then has and knows.
pub record Says (v : View) (event : Event) (f : Flight) (loads : List Known) (put : ℕ) (own : List Own) : Type 0 where
  pub has : Thread
  pub known : KnownObjects
  pub history : List Entry
  pub before : SpaceState
  pub lawful : IsLawful standard_limits v.map.threads v.map.pages (history ++ entries_told (first_thread v.own) event)
  pub leaves : spaces standard_limits v.map.threads history before
  pub was : AllMine v.map history v.own
  pub becomes : BecomesKnown standard_limits v.map.threads history (first_thread v.own) (first_known v.own) (Said (first_thread v.own) event.call event.reply) known
  pub own_is : own ≡ with_call (told v.own (entries_told (first_thread v.own) event) has known (history ++ entries_told (first_thread v.own) event)) f loads put
  pub mine : AllMine v.map (history ++ entries_told (first_thread v.own) event) own

-- A step tells such an event, and what the thread knows is so in the state before it.
pub record Tells (v : View) (event : Event) (f : Flight) (lasting loads : List Known) (w : View) : Type 0 where
  pub own : List Own
  pub says : Says v event f loads (put_of v) own
  pub sees : Sees v.map (actor v) says.before
  pub view : w ≡ acting v own lasting

-- ---- loads of words that last

-- What the thread of the seat knows is so in the state that the one history leaves.
pub record IsSo (v : View) : Type 0 where
  pub history : List Entry
  pub state : SpaceState
  pub lawful : IsLawful standard_limits v.map.threads v.map.pages history
  pub leaves : spaces standard_limits v.map.threads history state
  pub mine : AllMine v.map history v.own
  pub sees : Sees v.map (actor v) state

-- The word is what the thread had met there, if it had. What it knows is so, and its store buffer has at most as many entries as it
-- has put there.
pub record Meets (v : View) (place word : ℕ) (w : View) : Type 0 where
  pub again : (was : ℕ) → HasMet (actor v) place was → word ≡ was
  pub so : IsSo w
  pub few : (n : ℕ) → Shows (actor w) (logged_at w.map (first_thread w.own)) n → n ≤ put_of w

-- The load of a word that lasts, without an event or with one.
abbrev pub Loaded : View → ℕ → Option Event → ℕ → View → Type 0
Loaded v place None word w =
    (w ≡ moved v (actor v).flight (learn place word v.lasting) (loads_of v ++ record { place = place; word = word } ∷ []) (put_of v)) × Meets v place word w
Loaded v place (Some event) word w =
    Tells v event (at_rest (first_thread v.own)) [] (loads_of v ++ record { place = place; word = word } ∷ []) w × ((was : ℕ) → HasMet (actor v) place was → word ≡ was)

-- ---- stores of own words

-- The store of an own word, without an event or with one.
pub record StoredOn (v : View) (place word : ℕ) (w : View) : Type 0 where
  pub flight : Flight
  pub put : ℕ
  pub view : w ≡ moved v flight (learn place word v.lasting) (loads_of v) put
  pub flies : FliesOn v.map (actor v) place word flight
  pub one_more : place ≡ logged_at v.map (first_thread v.own) → put ≡ put_of v + 1
  pub no_more : place ≢ logged_at v.map (first_thread v.own) → put ≡ put_of v

abbrev pub Stored : View → ℕ → ℕ → Option Event → View → Type 0
Stored v place word None w = StoredOn v place word w
Stored v place word (Some event) w = Tells v event (at_rest (first_thread v.own)) [] (loads_of v) w

-- ---- the pool

pub record LoadedPool (v : View) (place word : ℕ) (w : View) : Type 0 where
  pub flight : Flight
  pub lasting : List Known
  pub view : w ≡ moved v flight lasting (loads_of v ++ record { place = place; word = word } ∷ []) (put_of v)
  pub pool : PoolLoaded v.map (actor v) place word flight lasting
  pub meets : Meets v place word w

pub record Claimed (v : View) (counter : ℕ) (w : View) : Type 0 where
  pub flight : Flight
  pub lasting : List Known
  pub view : w ≡ moved v flight lasting (loads_of v ++ record { place = CLAIM_COUNTER; word = counter } ∷ []) (put_of v)
  pub claims : Claims v.map (actor v) counter flight lasting

-- ---- fields

-- A field was loaded: the thread has its value on the stack.
pub record LoadedField (v : View) (event : Event) (word : ℕ) (w : View) : Type 0 where
  pub flight : Flight
  pub lasting : List Known
  pub tells : Tells v event flight lasting (loads_of v) w
  pub value : Datum
  pub pushed : tells.says.has ≡ record { stack = (actor v).told.stack ++ value ∷ []; depth = (actor v).told.depth; made = (actor v).told.made }
  pub loaded : FieldLoaded v.map (actor v) word value flight lasting

-- A field was stored.
abbrev pub StoredField : View → Event → View → Type 0
StoredField v event w = Tells v event (at_rest (first_thread v.own)) [] (loads_of v) w

-- The thread is a reader of the region of which it had yet to become one.
abbrev pub HasRead : View → View → Type 0
HasRead v w = w ≡ moved v (record (actor v).flight { reading = None }) v.lasting (loads_of v) (put_of v)

-- ---- steps

abbrev pub meets : Step (Unit {0}) → Sat → ℕ → Sat → Type 0
meets st m n m' = Loaded m.0 st.word None n m'.0 × (m'.1 ≡ m.1)

abbrev pub meets_with : Event → Step (Unit {0}) → Sat → ℕ → Sat → Type 0
meets_with event st m n m' = Loaded m.0 st.word (Some event) n m'.0 × (m'.1 ≡ m.1)

abbrev pub puts : Step (Unit {0}) → Sat → ℕ → Sat → Type 0
puts st m n m' = Stored m.0 st.word st.first None m'.0 × (m'.1 ≡ m.1)

abbrev pub puts_with : Event → Step (Unit {0}) → Sat → ℕ → Sat → Type 0
puts_with event st m n m' = Stored m.0 st.word st.first (Some event) m'.0 × (m'.1 ≡ m.1)

abbrev pub loads_pool : Step (Unit {0}) → Sat → ℕ → Sat → Type 0
loads_pool st m n m' = LoadedPool m.0 st.word n m'.0 × (m'.1 ≡ m.1)

abbrev pub claims : Step (Unit {0}) → Sat → ℕ → Sat → Type 0
claims st m n m' = Claimed m.0 n m'.0 × (m'.1 ≡ m.1)

abbrev pub loads_field : Event → Step (Unit {0}) → Sat → ℕ → Sat → Type 0
loads_field event st m n m' = LoadedField m.0 event n m'.0 × (m'.1 ≡ m.1)

abbrev pub stores_field : Event → Step (Unit {0}) → Sat → ℕ → Sat → Type 0
stores_field event st m n m' = StoredField m.0 event m'.0 × (m'.1 ≡ m.1)

abbrev pub sets_reader : Step (Unit {0}) → Sat → ℕ → Sat → Type 0
sets_reader st m n m' = HasRead m.0 m'.0 × (m'.1 ≡ m.1)
