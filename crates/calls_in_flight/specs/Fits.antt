-- Calls in flight that fit the words.
use Rattle.std.specs.Prelude.{◌≡◌, ◌≢◌, ℕ, ◌+◌, ◌≤◌, List, length, slice_index, IfSome}
use Rattle.std.specs.List.{All, AllPairs}
use Rattle.heap_words.specs.declared.map.Areas.{Areas}
use Rattle.heap_words.specs.Map.{IsAreas, HasRegion, HasThread, total_of}
use Rattle.heap_words.specs.Contents.{Contents, contents}
use Rattle.yak_model.specs.Spaces.{SpaceState}
use Rattle.yak_model.specs.Stands.{Stands, claim_counter, pool_length}
use Rattle.yak_model.specs.Recorded.{Recorded}
use Rattle.calls_in_flight.specs.Flight.{Cover, Flight, Reading}
use Rattle.calls_in_flight.specs.Whole.{claims_in, laid_all, whole}
use Rattle.calls_in_flight.specs.Owning.{IsOwn}

-- A call in flight fits the words, which hold c apart from the calls in flight: its covers lie at places of the thread's own, each
-- once, and have the words that stand there.
pub record FlightFits (m : Areas) (ws : List ℕ) (c : Contents) (f : Flight) : Type 0 where
  pub thread : HasThread m f.thread
  pub own : All (λ (k : Cover). IsOwn m c f k.place) f.covers
  pub once : AllPairs (λ (a b : Cover). a.place ≢ b.place) f.covers
  pub stand : All (λ (k : Cover). slice_index ws k.place ≡ k.stands) f.covers
  pub reading : IfSome f.reading (λ (r : Reading). HasRegion m r.owner r.depth)
  pub claims : f.claims ≤ 1

-- All calls in flight fit the words, each is of another thread, and the claim counter doesn't pass the pool's length by more than
-- the number of threads when all claims are made that may come.
pub record FlightsFit (m : Areas) (ws : List ℕ) (fs : List Flight) : Type 0 where
  pub areas : IsAreas m
  pub long : length ws ≡ total_of m
  pub fit : All (FlightFits m ws (whole m ws fs)) fs
  pub threads : AllPairs (λ (f g : Flight). f.thread ≢ g.thread) fs
  pub few : length fs ≤ m.threads
  pub within : pool_length (contents m (laid_all fs ws)).heads ≤ m.pages
  pub passed : claim_counter (contents m (laid_all fs ws)).heads + claims_in fs ≤ pool_length (contents m (laid_all fs ws)).heads + m.threads

-- The words stand for a state apart from the calls in flight, and its crossing references are recorded.
pub record StandInFlight (m : Areas) (ws : List ℕ) (fs : List Flight) (s : SpaceState) : Type 0 where
  pub fit : FlightsFit m ws fs
  pub stands : Stands m (whole m ws fs) s
  pub recorded : Recorded m (whole m ws fs) s stands
