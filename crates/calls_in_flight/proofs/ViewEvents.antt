-- Stores of own words by a view that tell an event.
use Rattle.std.proofs.Common.{ℕ, List, Some}
use Rattle.object_layout.specs.declared.calls.Event.{Event}
use Rattle.heap_words.specs.declared.map.Areas.{Areas}
use Rattle.yak_model.specs.Spaces.{SpaceState}
use Rattle.calls_in_flight.specs.Actors.{Actor}
use Rattle.calls_in_flight.specs.Fits.{StandInFlight}
use Rattle.calls_in_flight.specs.Flight.{Flight}
use Rattle.calls_in_flight.specs.OwnStores as own
use Rattle.calls_in_flight.specs.OwnStores.{MayStore}
use Rattle.calls_in_flight.proofs.Acting.{Acts, StoresEvent}
use Rattle.calls_in_flight.proofs.ViewMakes.{makes_event}
use Rattle.calls_in_flight.proofs.ViewPushes.{begins, pops, pushes}

module _ (m : Areas) (ws : List ℕ) (fs : List Flight) (s : SpaceState) (h : StandInFlight m ws fs s) (a : Actor) (acts : Acts m ws fs s h a) where
  pub stores_event : (place word : ℕ) (event : Event) → MayStore m a place word (Some event) → StoresEvent m ws fs s h a place word event
  stores_event _ _ _ (own.pushes asked c is room only place) = pushes m ws fs s h a acts asked c is room only place
  stores_event _ _ _ (own.pops n one rest) = pops m ws fs s h a acts n one rest
  stores_event _ _ _ (own.makes p made) = makes_event m ws fs s h a acts p made
  stores_event _ _ _ (own.begins room rest) = begins m ws fs s h a acts room rest
