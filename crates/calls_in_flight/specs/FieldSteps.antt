-- The loads and stores of fields of a thread, and its steps on words that threads share, as far as it knows what it does.
use Rattle.std.specs.Prelude.{◌≡◌, ◌≢◌, ◌⊎◌, ℕ, ◌+◌, ◌*◌, ◌≤◌, ◌<◌, List, [], ◌∷◌, length, Option, None, Some}
use Rattle.object_layout.specs.declared.TheConstants.{OBJECT_WORDS}
use Rattle.object_layout.specs.declared.calls.Call.{Call}
use Rattle.object_layout.specs.declared.calls.Call.TheVariants.{Load, Store}
use Rattle.heap_words.specs.declared.map.Areas.{Areas}
use Rattle.heap_words.specs.Map.{HasRegion, heap_length, pool_at}
use Rattle.epoch_lattice.specs.declared.Space.{Space}
use Rattle.epoch_lattice.specs.declared.Space.TheVariants.{Control}
use Rattle.yak_model.specs.declared.datum.Datum.{Datum}
use Rattle.yak_model.specs.declared.datum.Datum.TheVariants as datum
use Rattle.yak_model.specs.Recorded.{Enters}
use Rattle.region_pages.specs.declared.TheConstants.{CLAIM_COUNTER, POOL_LENGTH}
use Rattle.calls_in_flight.specs.Flight.{Cover, Flight, Reading, at_rest}
use Rattle.calls_in_flight.specs.Fields.{IsEntered}
use Rattle.calls_in_flight.specs.Knowing.{Known}
use Rattle.calls_in_flight.specs.Steps.{entry_at, length_at, logged_at, slot_at}
use Rattle.calls_in_flight.specs.Actors.{Actor, HasMet, HasSpace, IsAtRest, IsLet, RefersTo, Shows, learn}

-- A word is that of a value, where a reference leads to some heap word.
abbrev pub IsWordFor : Areas → Datum → ℕ → Type 0
IsWordFor m datum.Null word = word ≡ 0
IsWordFor m (datum.Int i) word = word ≡ 2 * i + 1
IsWordFor m (datum.Object n) word = (at : ℕ) × (at < heap_length m) × (word ≡ 2 * (at + 1))

-- ---- loads of fields

-- The call is a load of this field of the object at a heap word, to which a slot of the thread's stack refers, and isn't refused.
pub record LoadsFrom (m : Areas) (a : Actor) (asked : Call) (at field : ℕ) : Type 0 where
  pub slot : ℕ
  pub call : asked ≡ Load slot field
  pub refers : RefersTo m a slot at
  pub within : at + OBJECT_WORDS + field < heap_length m
  pub let_ : IsLet m a asked
  pub rests : IsAtRest a

-- the slot and the length that a load has still to store
abbrev pub slot_loaded : Areas → Actor → ℕ → ℕ → Cover
slot_loaded m a above word = record { place = slot_at m a.thread (length a.told.stack); stands = above; shown = word }

abbrev pub length_loaded : Areas → Actor → Cover
length_loaded m a = record { place = length_at m a.thread; stands = length a.told.stack; shown = length a.told.stack + 1 }

-- The load gave the word of a value, which the thread has on its stack from then on, while the slot and the stack's length are still to be stored, and the
-- reader's bit of the region of another thread that the value enters is to be set, if there is one. The thread is told the
-- header of the object to which the word leads.
pub record FieldLoaded (m : Areas) (a : Actor) (word : ℕ) (value : Datum) (f : Flight) (lasting : List Known) : Type 0 where
  pub is_word : IsWordFor m value word
  pub above : ℕ
  pub reading : Option Reading
  pub flight : f ≡ record (at_rest a.thread) { covers = slot_loaded m a above word ∷ length_loaded m a ∷ []; reading = reading }
  pub leads : (to : ℕ) → word ≡ 2 * (to + 1) → (x : Space) × HasSpace m (record a { lasting = lasting }) to x × IsEntered a.thread (Some x) reading
  pub leads_not : ((to : ℕ) → word ≢ 2 * (to + 1)) → reading ≡ None

-- The region of which the thread has yet to become a reader.
abbrev pub MayRead : Areas → Actor → ℕ → ℕ → Type 0
MayRead m a owner depth = HasRegion m owner depth × (a.flight.reading ≡ Some (record { owner = owner; depth = depth }))

-- ---- stores of fields

-- The call stores the word of a slot into this field of the object at a heap word, to which a slot of the thread's stack refers, and
-- isn't refused.
pub record StoresInto (m : Areas) (a : Actor) (asked : Call) (at field word : ℕ) : Type 0 where
  pub slot : ℕ
  pub from : ℕ
  pub call : asked ≡ Store slot field from
  pub refers : RefersTo m a slot at
  pub within : at + OBJECT_WORDS + field < heap_length m
  pub there : from < length a.told.stack
  pub value : Shows a (slot_at m a.thread from) word
  pub let_ : IsLet m a asked

-- By the headers that the thread has met, the word is a reference that crosses from the space of the object into a region.
pub record MeetsCrossing (m : Areas) (a : Actor) (at word : ℕ) : Type 0 where
  pub to : ℕ
  pub leads : word ≡ 2 * (to + 1)
  pub x : Space
  pub y : Space
  pub from : HasSpace m a at x
  pub into : HasSpace m a to y
  pub crosses : Enters x y

-- The word is no reference, or one into Control or otherwise one that doesn't cross, by these headers.
pub data MeetsNone (m : Areas) (a : Actor) (at word : ℕ) : Type 0 where
  no_reference : ((to : ℕ) → word ≢ 2 * (to + 1)) → MeetsNone m a at word
  in_control : (to : ℕ) → word ≡ 2 * (to + 1) → HasSpace m a to Control → MeetsNone m a at word
  crosses_not : (to : ℕ) (x y : Space) → word ≡ 2 * (to + 1) → HasSpace m a at x → HasSpace m a to y → (Enters x y → ⊥) → MeetsNone m a at word

-- The slot stands in the thread's store buffer.
abbrev pub IsLogged : Areas → Actor → ℕ → Type 0
IsLogged m a entry = (n : ℕ) × (k : ℕ) × Shows a (logged_at m a.thread) n × (k < n) × Shows a (entry_at m a.thread k) entry

-- The field may be stored: the slot stands in the own buffer where it must be recorded.
pub record MayStoreField (m : Areas) (a : Actor) (asked : Call) (at field word : ℕ) : Type 0 where
  pub stores : StoresInto m a asked at field word
  pub rests : IsAtRest a
  pub recorded : (MeetsCrossing m a at word × IsLogged m a (at + OBJECT_WORDS + field)) ⊎ MeetsNone m a at word

-- ---- the pool

-- The places of the pool that a thread may load.
pub data MayLoadPool (m : Areas) (place : ℕ) : Type 0 where
  counter : place ≡ CLAIM_COUNTER → MayLoadPool m place
  size : place ≡ POOL_LENGTH → MayLoadPool m place
  entry : (k : ℕ) → k < m.pages → place ≡ pool_at m + k → MayLoadPool m place

-- A load of the claim counter gives the right to claim where it is below the pool's length. What else is loaded of the pool lasts.
pub record PoolLoaded (m : Areas) (a : Actor) (place word : ℕ) (f : Flight) (lasting : List Known) : Type 0 where
  pub counter : place ≡ CLAIM_COUNTER
      → (lasting ≡ a.lasting) × ((size : ℕ) × ((n : ℕ) → HasMet a POOL_LENGTH n → n ≡ size) × (word < size → f ≡ record a.flight { claims = 1 }) × (size ≤ word → f ≡ a.flight))
  pub other : place ≢ CLAIM_COUNTER → (lasting ≡ learn place word a.lasting) × (f ≡ a.flight)

-- A claim that found the counter below the pool's length takes the page at its place in the pool, of which the thread is told.
pub record Claims (m : Areas) (a : Actor) (counter : ℕ) (f : Flight) (lasting : List Known) : Type 0 where
  pub size : ℕ
  pub met : (n : ℕ) → HasMet a POOL_LENGTH n → n ≡ size
  pub takes : counter < size → (page : ℕ) × (page < m.pages) × (f ≡ record a.flight { claimed = page ∷ a.flight.claimed; claims = 0 }) × (lasting ≡ learn (pool_at m + counter) page a.lasting)
  pub misses : size ≤ counter → (f ≡ record a.flight { claims = 0 }) × (lasting ≡ a.lasting)
