-- The single steps of a thread on words that threads share, and the call in flight after each.
use Rattle.std.specs.Prelude.{◌≡◌, ℕ, ◌+◌, ◌≤◌, ◌<◌, List, ◌∷◌, length, slice_index, Some, None}
use Rattle.heap_words.specs.declared.map.Areas.{Areas}
use Rattle.heap_words.specs.Map.{pool_at}
use Rattle.region_pages.specs.declared.TheConstants.{CLAIM_COUNTER, POOL_LENGTH}
use Rattle.calls_in_flight.specs.Flight.{Flight, Reading, flight_at}

-- The claim counter was found below the pool's length, so a claim may come.
pub record FindsPage (ws : List ℕ) (fs : List Flight) (i : ℕ) (f : Flight) : Type 0 where
  pub inside : i < length fs
  pub none : (flight_at fs i).claims ≡ 0
  pub below : slice_index ws CLAIM_COUNTER < slice_index ws POOL_LENGTH
  pub after : f ≡ record (flight_at fs i) { claims = 1 }

-- The claim counter is raised from a number below the pool's length, and the page at its place in the pool is claimed.
pub record ClaimsPage (m : Areas) (ws : List ℕ) (fs : List Flight) (i n : ℕ) (f : Flight) : Type 0 where
  pub inside : i < length fs
  pub may : (flight_at fs i).claims ≡ 1
  pub counter : slice_index ws CLAIM_COUNTER ≡ n
  pub below : n < slice_index ws POOL_LENGTH
  pub after : f ≡ record (flight_at fs i) { claimed = slice_index ws (pool_at m + n) ∷ (flight_at fs i).claimed; claims = 0 }

-- The claim counter is raised from a number at or past the pool's length: no page was left.
pub record ClaimsNone (ws : List ℕ) (fs : List Flight) (i n : ℕ) (f : Flight) : Type 0 where
  pub inside : i < length fs
  pub may : (flight_at fs i).claims ≡ 1
  pub counter : slice_index ws CLAIM_COUNTER ≡ n
  pub past : slice_index ws POOL_LENGTH ≤ n
  pub after : f ≡ record (flight_at fs i) { claims = 0 }

-- The thread's bit is set in the readers word of the region of which it had yet to become a reader.
pub record BecomesReader (fs : List Flight) (i : ℕ) (r : Reading) (f : Flight) : Type 0 where
  pub inside : i < length fs
  pub pending : (flight_at fs i).reading ≡ Some r
  pub after : f ≡ record (flight_at fs i) { reading = None }
