-- What a thread knows of words while the others run.
use Rattle.std.specs.Prelude.{◌≡◌, ◌≢◌, ℕ, ◌+◌, ◌<◌, ◌⊎◌, List, [], length, slice_index, Some}
use Rattle.std.specs.List.{All, Contains}
use Rattle.object_layout.specs.declared.names.Name.{Name}
use Rattle.object_layout.specs.declared.TheConstants.{OBJECT_WORDS}
use Rattle.heap_words.specs.declared.map.Areas.{Areas}
use Rattle.heap_words.specs.Map.{HasRegion, heap_at, pool_at, readers_at, table_at}
use Rattle.yak_model.specs.declared.history.Entry.{Entry}
use Rattle.yak_model.specs.Spaces.{SpaceState}
use Rattle.yak_model.specs.State.{State, Thing, view}
use Rattle.region_pages.specs.declared.TheConstants.{CLAIM_COUNTER, POOL_LENGTH}
pub use Rattle.calls_in_flight.specs.declared.notes.Known.{Known}
use Rattle.calls_in_flight.specs.Flight.{Flight, flight_at}
use Rattle.calls_in_flight.specs.Whole.{whole}
use Rattle.calls_in_flight.specs.Owning.{IsOwn}
use Rattle.calls_in_flight.specs.Fits.{StandInFlight}

-- A place whose word no thread changes while the gate is open: the pool's length, an entry of the pool, and the header and the
-- name of a present object.
pub data IsSteady (m : Areas) (s : State) (at : Name → ℕ) (place : ℕ) : Type 0 where
  pool_size : place ≡ POOL_LENGTH → IsSteady m s at place
  pool_entry : (k : ℕ) → k < m.pages → place ≡ pool_at m + k → IsSteady m s at place
  of_object : (n : Name) (o : Thing) (j : ℕ) → s.objects n ≡ Some o → j < 2 → place ≡ heap_at m + (at n + j) → IsSteady m s at place

-- A place whose word no other thread than the one of the call in flight at i changes.
abbrev pub IsLasting : (m : Areas) (ws : List ℕ) (fs : List Flight) (s : SpaceState) → StandInFlight m ws fs s → ℕ → ℕ → Type 0
IsLasting m ws fs s h i place = IsOwn m (whole m ws fs) (flight_at fs i) place ⊎ IsSteady m (view s) h.stands.places.at place

-- What a thread knows: words that stand at such places.
abbrev pub Knows : (m : Areas) (ws : List ℕ) (fs : List Flight) (s : SpaceState) → StandInFlight m ws fs s → ℕ → List Known → Type 0
Knows m ws fs s h i known = All (λ (k : Known). (slice_index ws k.place ≡ k.word) × IsLasting m ws fs s h i k.place) known

-- The places at which a step of the call in flight at i may store.
pub data MayStore (m : Areas) (ws : List ℕ) (fs : List Flight) (i : ℕ) (s : SpaceState) (h : StandInFlight m ws fs s) (a : ℕ) : Type 0 where
  own : IsOwn m (whole m ws fs) (flight_at fs i) a → MayStore m ws fs i s h a
  counter : a ≡ CLAIM_COUNTER → MayStore m ws fs i s h a
  reader : (u d : ℕ) → HasRegion m u d → a ≡ readers_at m u d → MayStore m ws fs i s h a
  of_field : (n : Name) (o : Thing) (j : ℕ) → (view s).objects n ≡ Some o → j < length o.fields → a ≡ heap_at m + (h.stands.places.at n + OBJECT_WORDS + j) → MayStore m ws fs i s h a

-- What is known after a step that stores a word: what was known, but for that place and, where the step adds an entry, for own
-- words beside the block; and the word that was stored, where that lasts.
abbrev pub Learns : (m : Areas) (ws now : List ℕ) (fs gs : List Flight) (s after : SpaceState) → StandInFlight m ws fs s → StandInFlight m now gs after → ℕ → List Entry → ℕ → ℕ → List Known → List Known → Type 0
Learns m ws now fs gs s after h later i done a w was known =
    All (λ (k : Known). (Contains was k × (k.place ≢ a) × (((done ≡ []) ⊎ (k.place < table_at m)) ⊎ IsSteady m (view s) h.stands.places.at k.place)) ⊎ ((k.place ≡ a) × (k.word ≡ w) × IsLasting m now gs after later i a)) known
