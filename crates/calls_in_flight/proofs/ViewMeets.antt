-- A load of a word that lasts.
use Rattle.std.proofs.Common.{◌≡◌, ◌==◌, ℕ, ◌+◌, ◌≤◌, ◌<◌, Bool, true, false, cond, List, [], ◌∷◌, get_or, sym, subst, arith, inl, inr}
use Rattle.std.specs.List.{All, Contains}
use Rattle.std.proofs.lemmas.List.Elements.{All-cons, All-head, All-tail}
use Rattle.std.proofs.Math.Logic.{⊎_elim}
use Rattle.heap_words.specs.declared.map.Areas.{Areas}
use Rattle.heap_words.specs.declared.TheConstants.{HEAD_WORDS}
use Rattle.heap_words.specs.Map.{heap_at, pool_at}
use Rattle.yak_model.specs.Spaces.{SpaceState}
use Rattle.yak_model.specs.State.{view}
use Rattle.yak_model.specs.Placed.{used_mark}
use Rattle.yak_model.proofs.Data.{in_heap}
use Rattle.standing_calls.proofs.Entered.{free-mark}
use Rattle.calls_in_flight.specs.Actors.{Actor, MayLoad, MayMeet, RefersTo, forget, in_block, in_claimed, in_entry, in_page, learn}
use Rattle.calls_in_flight.specs.Fits.{StandInFlight}
use Rattle.calls_in_flight.specs.Flight.{Flight, flight_at}
use Rattle.calls_in_flight.specs.Knowing.{IsLasting, Known, Knows, of_object}
use Rattle.calls_in_flight.specs.Owning.{IsOwn}
use Rattle.calls_in_flight.specs.Owning as owning
use Rattle.calls_in_flight.specs.Whole.{whole}
use Rattle.calls_in_flight.proofs.Acting.{Acts, IsPlace, MeetsWord, place_of}
use Rattle.calls_in_flight.proofs.Apart.{own-area}
use Rattle.calls_in_flight.proofs.Grounds.{holds_at, named}
use Rattle.calls_in_flight.proofs.Knowing.{knows-load}
use Rattle.calls_in_flight.proofs.ViewWords.{inside, is-within, mark-shown, met-word, own-in_block, page-own, stood}

-- what holds of all that was met holds of what was met elsewhere
forget-case : (K : Known → Type 0) (place : ℕ) (k : Known) (known : List Known) (b : Bool) → K k → All K (forget place known) → All K (cond b (forget place known) (k ∷ forget place known))
forget-case K place k known true here rest = rest
forget-case K place k known false here rest = All-cons K k (forget place known) here rest

pub forget-all : (K : Known → Type 0) (place : ℕ) (known : List Known) → All K known → All K (forget place known)
forget-all K place [] all = all
forget-all K place (k ∷ known) all = forget-case K place k known (k.place == place) (All-head K k known all) (forget-all K place known (All-tail K k known all))

module _ (m : Areas) (ws : List ℕ) (fs : List Flight) (s : SpaceState) (h : StandInFlight m ws fs s) (a : Actor) (acts : Acts m ws fs s h a) where
  -- a place that it may load as its own is its own
  pub load-own : (place : ℕ) → MayLoad m a place → IsOwn m (whole m ws fs) (flight_at fs (place_of a)) place
  load-own place (in_block low high) = own-in_block m ws fs s h a acts place low high
  load-own place (in_entry p j holds lj e) = owning.in_entry p j (page-own m ws fs s h a acts p holds) lj e
  load-own place (in_page p i used holds sh le lt e) = owning.in_page p i (page-own m ws fs s h a acts p holds) (omega (arith, le, mark-shown m ws fs s h a acts p used holds sh)) lt e
  load-own place (in_claimed p i lp has lt e) =
      let mine : Contains (flight_at fs (place_of a)).claimed p = subst (λ (f : Flight). Contains f.claimed p) (sym acts.flight) has in
      let free = ((holds_at m ws fs s (place_of a) h.fit h.stands (inside m ws fs s h a acts)).claimed p mine).1 in
      let none : used_mark (whole m ws fs).table p ≡ 0 = free-mark m (whole m ws fs).table (whole m ws fs).heap (view s).objects h.stands.places (λ _. 0) p h.stands.stands.heap lp free in
      owning.in_page p i (inr mine) (omega (arith, none)) lt e

  pub meet-lasts : (place : ℕ) → MayMeet m a place → IsLasting m ws fs s h (place_of a) place
  meet-lasts place may = ⊎_elim
      (λ (x : MayLoad m a place). inl (load-own place x))
      (λ (x : (k : ℕ) × (at : ℕ) × RefersTo m a k at × (place ≡ heap_at m + at)).
      let o = stood m ws fs s h a acts s h.stands x.0 x.1 x.2 in
      inr (of_object o.name o.thing 0 o.present (omega arith) (omega (arith, x.3, o.place))))
      may

  pub own-is_place : (place : ℕ) → IsOwn m (whole m ws fs) (flight_at fs (place_of a)) place → IsPlace m place
  own-is_place place own = (
    ⊎_elim
        (λ (x : (HEAD_WORDS ≤ place) × (place < pool_at m)). let r : 1 ≤ place = omega (arith, x.0) in r)
        (λ (x : heap_at m ≤ place). let r : 1 ≤ place = omega (arith, x) in r)
        (own-area m (whole m ws fs) (flight_at fs (place_of a)) place (named m ws fs s h.fit h.stands) (holds_at m ws fs s (place_of a) h.fit h.stands (inside m ws fs s h a acts)) own),
    is-within m ws fs s h a acts place own,
  )

  pub meet-is_place : (place : ℕ) → MayMeet m a place → IsPlace m place
  meet-is_place place may = ⊎_elim
      (λ (x : MayLoad m a place). own-is_place place (load-own place x))
      (λ (x : (k : ℕ) × (at : ℕ) × RefersTo m a k at × (place ≡ heap_at m + at)).
      let o = stood m ws fs s h a acts s h.stands x.0 x.1 x.2 in
      let r : IsPlace m place = (omega (arith, x.3), omega (arith, x.3, o.place, in_heap m (whole m ws fs) (view s) h.stands.places o.name o.thing h.stands.stands o.present)) in r)
      may

  -- what it has met, with the word that stands at a place that lasts
  pub knows-learn : (place : ℕ) → IsLasting m ws fs s h (place_of a) place → Knows m ws fs s h (place_of a) (learn place (get_or ws place 0) a.lasting)
  knows-learn place lasts =
      knows-load m ws fs s h (place_of a) place (forget place a.lasting) lasts (forget-all (λ (k : Known). (get_or ws k.place 0 ≡ k.word) × IsLasting m ws fs s h (place_of a) k.place) place a.lasting acts.knows)

  pub meets : (place : ℕ) → MayMeet m a place → MeetsWord m ws fs s h a place
  meets place may = record {
    is_place = meet-is_place place may;
    again = met-word m ws fs s h a acts place;
    knows = knows-learn place (meet-lasts place may);
  }
