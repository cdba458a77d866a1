-- A thread that acts among the calls in flight, and what a single step of it leaves: what the laws on steps by a view conclude.
use Rattle.std.proofs.Common.{◌≡◌, ◌≢◌, ℕ, ◌+◌, ◌-◌, ◌^◌, ◌≤◌, ◌<◌, List, [], ◌∷◌, ◌++◌, length, bit_or, None}
use Rattle.std.specs.Prelude.{slice_index, slice_set}
use Rattle.object_layout.specs.declared.TheConstants.{OBJECT_WORDS}
use Rattle.object_layout.specs.declared.calls.Call.{Call}
use Rattle.object_layout.specs.declared.calls.Event.{Event}
use Rattle.object_layout.specs.declared.replies.Reply.TheVariants as reply
use Rattle.heap_words.specs.declared.map.Areas.{Areas}
use Rattle.heap_words.specs.Map.{HasThread, heap_at, readers_at, total_of}
use Rattle.yak_model.specs.declared.datum.Datum.{Datum}
use Rattle.yak_model.specs.declared.history.Entry.{Entry}
use Rattle.yak_model.specs.declared.history.Entry.TheVariants.{Said}
use Rattle.yak_model.specs.Graph.{thread_of}
use Rattle.yak_model.specs.Spaces.{SpaceState}
use Rattle.region_pages.specs.declared.TheConstants.{CLAIM_COUNTER}
use Rattle.calls_in_flight.specs.Actors.{Actor, HasMet, learn}
use Rattle.calls_in_flight.specs.Differing.{DiffersOnly}
use Rattle.calls_in_flight.specs.FieldSteps.{Claims, FieldLoaded, PoolLoaded}
use Rattle.calls_in_flight.specs.Fits.{StandInFlight}
use Rattle.calls_in_flight.specs.Flight.{Flight, at_rest, flight_at}
use Rattle.calls_in_flight.specs.Kinds.{IsStep}
use Rattle.calls_in_flight.specs.Knowing.{Known, Knows}
use Rattle.calls_in_flight.specs.OwnStores.{FliesOn}
use Rattle.calls_in_flight.specs.Steps.{logged_at}
use Rattle.calls_in_flight.specs.Stepped.{Stepped}

-- the place of a thread among the calls in flight
abbrev pub place_of : Actor → ℕ
place_of a = a.thread - 1

-- The thread is one of those whose calls are in flight, with the flight that stands there, it has what it has in the state, and
-- what it has met lasts.
pub record Acts (m : Areas) (ws : List ℕ) (fs : List Flight) (s : SpaceState) (h : StandInFlight m ws fs s) (a : Actor) : Type 0 where
  pub thread : HasThread m a.thread
  pub count : length fs ≡ m.threads
  pub numbered : (flight_at fs (place_of a)).thread ≡ a.thread
  pub flight : flight_at fs (place_of a) ≡ a.flight
  pub told : thread_of s.graph a.thread ≡ a.told
  pub knows : Knows m ws fs s h (place_of a) a.lasting
  pub differs : DiffersOnly m a

-- the thread after a step, in the state that it left
abbrev pub acting_in : Actor → SpaceState → Flight → List Known → Actor
acting_in a s f lasting = record { thread = a.thread; told = thread_of s.graph a.thread; flight = f; lasting = lasting }

-- A single step of the thread led to these words and calls in flight, its own being f, added these entries and put so many into
-- its store buffer, and the thread has met these words then.
pub record Moves (m : Areas) (ws now : List ℕ) (fs gs : List Flight) (s : SpaceState) (h : StandInFlight m ws fs s) (a : Actor) (f : Flight) (done : List Entry) (put : ℕ) (lasting : List Known) : Type 0 where
  pub step : IsStep m ws fs (place_of a) now gs done put
  pub stepped : Stepped m ws now fs gs (place_of a) s h done put
  pub flight : flight_at gs (place_of a) ≡ f
  pub knows : Knows m now gs stepped.after stepped.later (place_of a) lasting
  pub differs : DiffersOnly m (acting_in a stepped.after f lasting)

-- A place in the words beside the gate.
abbrev pub IsPlace : Areas → ℕ → Type 0
IsPlace m place = (1 ≤ place) × (place < total_of m)

-- ---- what each law concludes

-- A load of a word that lasts.
pub record MeetsWord (m : Areas) (ws : List ℕ) (fs : List Flight) (s : SpaceState) (h : StandInFlight m ws fs s) (a : Actor) (place : ℕ) : Type 0 where
  pub is_place : IsPlace m place
  pub again : (was : ℕ) → HasMet a place was → slice_index ws place ≡ was
  pub knows : Knows m ws fs s h (place_of a) (learn place (slice_index ws place) a.lasting)

-- A load that tells an event.
abbrev pub TellsEvent : (m : Areas) (ws : List ℕ) (fs : List Flight) (s : SpaceState) → StandInFlight m ws fs s → Actor → Event → Type 0
TellsEvent m ws fs s h a event = Moves m ws ws fs fs s h a (at_rest a.thread) (Said a.thread event.call event.reply ∷ []) 0 []

-- A store of an own word without an event.
pub record StoresWord (m : Areas) (ws : List ℕ) (fs : List Flight) (s : SpaceState) (h : StandInFlight m ws fs s) (a : Actor) (place word : ℕ) : Type 0 where
  pub is_place : IsPlace m place
  pub flight : Flight
  pub others : List Flight
  pub put : ℕ
  pub moves : Moves m ws (slice_set ws place word) fs others s h a flight [] put (learn place word a.lasting)
  pub flies : FliesOn m a place word flight
  pub one_more : place ≡ logged_at m a.thread → put ≡ 1
  pub no_more : place ≢ logged_at m a.thread → put ≡ 0

-- A store of an own word that tells an event.
pub record StoresEvent (m : Areas) (ws : List ℕ) (fs : List Flight) (s : SpaceState) (h : StandInFlight m ws fs s) (a : Actor) (place word : ℕ) (event : Event) : Type 0 where
  pub is_place : IsPlace m place
  pub others : List Flight
  pub moves : Moves m ws (slice_set ws place word) fs others s h a (at_rest a.thread) (Said a.thread event.call event.reply ∷ []) 0 []

-- A load of a field.
pub record LoadsValue (m : Areas) (ws : List ℕ) (fs : List Flight) (s : SpaceState) (h : StandInFlight m ws fs s) (a : Actor) (asked : Call) (at field : ℕ) : Type 0 where
  pub is_place : IsPlace m (heap_at m + (at + OBJECT_WORDS + field))
  pub flight : Flight
  pub others : List Flight
  pub lasting : List Known
  pub value : Datum
  pub moves : Moves m ws ws fs others s h a flight (Said a.thread asked reply.Ok ∷ []) 0 lasting
  pub pushed : thread_of moves.stepped.after.graph a.thread ≡ record { stack = a.told.stack ++ value ∷ []; depth = a.told.depth; made = a.told.made }
  pub loaded : FieldLoaded m a (slice_index ws (heap_at m + (at + OBJECT_WORDS + field))) value flight lasting

-- A store of a field.
pub record StoresValue (m : Areas) (ws : List ℕ) (fs : List Flight) (s : SpaceState) (h : StandInFlight m ws fs s) (a : Actor) (asked : Call) (at field word : ℕ) : Type 0 where
  pub is_place : IsPlace m (heap_at m + (at + OBJECT_WORDS + field))
  pub moves : Moves m ws (slice_set ws (heap_at m + (at + OBJECT_WORDS + field)) word) fs fs s h a (at_rest a.thread) (Said a.thread asked reply.Ok ∷ []) 0 []

-- A load of a word of the pool.
pub record LoadsPool (m : Areas) (ws : List ℕ) (fs : List Flight) (s : SpaceState) (h : StandInFlight m ws fs s) (a : Actor) (place : ℕ) : Type 0 where
  pub is_place : IsPlace m place
  pub again : (was : ℕ) → HasMet a place was → slice_index ws place ≡ was
  pub flight : Flight
  pub others : List Flight
  pub lasting : List Known
  pub moves : Moves m ws ws fs others s h a flight [] 0 lasting
  pub pool : PoolLoaded m a place (slice_index ws place) flight lasting

-- A claim.
pub record ClaimsPool (m : Areas) (ws : List ℕ) (fs : List Flight) (s : SpaceState) (h : StandInFlight m ws fs s) (a : Actor) : Type 0 where
  pub small : slice_index ws CLAIM_COUNTER + 1 < 2 ^ 64
  pub flight : Flight
  pub others : List Flight
  pub lasting : List Known
  pub moves : Moves m ws (slice_set ws CLAIM_COUNTER (slice_index ws CLAIM_COUNTER + 1)) fs others s h a flight [] 0 lasting
  pub claims : Claims m a (slice_index ws CLAIM_COUNTER) flight lasting

-- A reader's bit.
pub record SetsReader (m : Areas) (ws : List ℕ) (fs : List Flight) (s : SpaceState) (h : StandInFlight m ws fs s) (a : Actor) (owner depth : ℕ) : Type 0 where
  pub is_place : IsPlace m (readers_at m owner depth)
  pub others : List Flight
  pub moves : Moves m ws (slice_set ws (readers_at m owner depth) (bit_or (slice_index ws (readers_at m owner depth)) (2 ^ (a.thread - 1)))) fs others s h a (record a.flight { reading = None }) [] 0 a.lasting
