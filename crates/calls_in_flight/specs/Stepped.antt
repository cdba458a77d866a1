-- What a single step of one call in flight leaves.
use Rattle.std.specs.Prelude.{◌≡◌, ◌≢◌, ℕ, ◌+◌, ◌≤◌, ◌<◌, ◌⊎◌, List, [], length}
use Rattle.heap_words.specs.declared.map.Areas.{Areas}
use Rattle.heap_words.specs.Map.{table_at}
use Rattle.heap_words.specs.Contents.{buffer_of}
use Rattle.yak_model.specs.declared.history.Entry.{Entry}
use Rattle.yak_model.specs.Spaces.{SpaceState, TurnsAll}
use Rattle.yak_model.specs.State.{view}
use Rattle.standing_calls.specs.Turned.{KeepsPlaces}
use Rattle.calls_in_flight.specs.Flight.{Flight, flight_at}
use Rattle.calls_in_flight.specs.Whole.{whole}
use Rattle.calls_in_flight.specs.Owning.{IsOwn}
use Rattle.calls_in_flight.specs.Fits.{StandInFlight}

-- The call in flight at i is replaced by one of the same thread, and no other one is.
pub record Puts (fs gs : List Flight) (i : ℕ) : Type 0 where
  pub thread : (flight_at gs i).thread ≡ (flight_at fs i).thread
  pub beside : (j : ℕ) → j ≢ i → flight_at gs j ≡ flight_at fs j

-- A step of the call in flight at i turns the state by entries to one for which the words stand then, apart from the calls in
-- flight. No object goes or moves, the other threads' own words stay theirs, and so many entries are put into the thread's store
-- buffer, while the others' stay. A step without an entry leaves the page table, so that each space is packed
-- that was, and all own words stay the thread's own; else those of its block do.
pub record Stepped (m : Areas) (ws now : List ℕ) (fs gs : List Flight) (i : ℕ) (s : SpaceState) (h : StandInFlight m ws fs s) (done : List Entry) (put : ℕ) : Type 0 where
  pub after : SpaceState
  pub turns : TurnsAll s done after
  pub later : StandInFlight m now gs after
  pub places : KeepsPlaces (view s) h.stands.places.at (view after) later.stands.places.at
  pub flights : Puts fs gs i
  pub mine : (b : ℕ) → (done ≡ []) ⊎ (b < table_at m) → IsOwn m (whole m ws fs) (flight_at fs i) b → IsOwn m (whole m now gs) (flight_at gs i) b
  pub own : (j b : ℕ) → j < length fs → j ≢ i → IsOwn m (whole m ws fs) (flight_at fs j) b → IsOwn m (whole m now gs) (flight_at fs j) b
  pub buffers : (j : ℕ) → j < length fs → j ≢ i → buffer_of (whole m now gs) (flight_at fs j).thread ≡ buffer_of (whole m ws fs) (flight_at fs j).thread
  pub logged : length (buffer_of (whole m now gs) (flight_at fs i).thread) ≡ length (buffer_of (whole m ws fs) (flight_at fs i).thread) + put
  pub table : done ≡ [] → (whole m now gs).table ≡ (whole m ws fs).table

-- Each thread's store buffer holds at most as many entries as the thread has put into it since it was last emptied.
abbrev pub AreCounted : Areas → List ℕ → List Flight → (ℕ → ℕ) → Type 0
AreCounted m ws fs put = (j : ℕ) → j < length fs → length (buffer_of (whole m ws fs) (flight_at fs j).thread) ≤ put j
