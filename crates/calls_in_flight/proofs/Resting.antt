-- Words with no call in flight, as a closer of the gate meets and leaves them.
use Rattle.std.proofs.Common.{◌≡◌, ◌≢◌, ℕ, ◌≤◌, List, [], ◌∷◌, ◌++◌, length, get_or, refl, sym, ap, subst, ◌∙◌, arith}
use Rattle.std.specs.Prelude.{Option, IfSome, slice_index}
use Rattle.std.specs.List.{All, AllPairs}
use Rattle.std.proofs.lemmas.List.Elements.{All-head, All-tail}
use Rattle.heap_words.specs.declared.map.Areas.{Areas}
use Rattle.heap_words.specs.Map.{HasRegion, HasThread, IsAreas, total_of}
use Rattle.heap_words.specs.Contents.{Contents, contents}
use Rattle.yak_model.specs.Spaces.{SpaceState}
use Rattle.yak_model.specs.State.{view}
use Rattle.yak_model.specs.Stands.{Stands, StandsAs}
use Rattle.yak_model.specs.Recorded.{Recorded, RecordedAs}
use Rattle.calls_in_flight.specs.Flight.{AreAtRest, Cover, Flight, Reading, at_rest}
use Rattle.calls_in_flight.specs.Whole.{claimed_in, claims_in, completed, laid, laid_all, read_by, read_in, whole}
use Rattle.calls_in_flight.specs.Owning.{IsOwn}
use Rattle.calls_in_flight.specs.Fits.{FlightFits, StandInFlight}

abbrev IsRest : Flight → Type 0
IsRest f = f ≡ at_rest f.thread

rest-laid : (fs : List Flight) (ws : List ℕ) → AreAtRest fs → laid_all fs ws ≡ ws
rest-laid [] ws h = refl
rest-laid (f ∷ fs) ws h = ap (λ (x : Flight). laid x.covers (laid_all fs ws)) (All-head IsRest f fs h) ∙ rest-laid fs ws (All-tail IsRest f fs h)

rest-claimed : (fs : List Flight) → AreAtRest fs → claimed_in fs ≡ []
rest-claimed [] h = refl
rest-claimed (f ∷ fs) h = ap (λ (x : Flight). x.claimed ++ claimed_in fs) (All-head IsRest f fs h) ∙ rest-claimed fs (All-tail IsRest f fs h)

rest-claims : (fs : List Flight) → AreAtRest fs → claims_in fs ≡ 0
rest-claims [] h = refl
rest-claims (f ∷ fs) h =
    let first : f.claims ≡ 0 = ap (λ (x : Flight). x.claims) (All-head IsRest f fs h) in
    omega (arith, first, rest-claims fs (All-tail IsRest f fs h))

rest-read : (fs : List Flight) (rs : List (List ℕ)) → AreAtRest fs → read_in fs rs ≡ rs
rest-read [] rs h = refl
rest-read (f ∷ fs) rs h = ap (λ (x : Flight). read_by f.thread x.reading (read_in fs rs)) (All-head IsRest f fs h) ∙ rest-read fs rs (All-tail IsRest f fs h)

-- with no call in flight it is the words that hold
pub whole-rest : (m : Areas) (ws : List ℕ) (fs : List Flight) → AreAtRest fs → whole m ws fs ≡ contents m ws
whole-rest m ws fs h =
    let c : Contents = contents m ws in
    let claimed : claimed_in fs ≡ [] = rest-claimed fs h in
    let readers : read_in fs c.readers ≡ c.readers = rest-read fs c.readers h in
    let same : completed fs c ≡ c = rw (claimed, readers) refl in
    ap (λ (xs : List ℕ). completed fs (contents m xs)) (rest-laid fs ws h) ∙ same

-- the words that a closer of the gate meets stand for the state
pub closed-stand : (m : Areas) (ws : List ℕ) (fs : List Flight) (s : SpaceState) → StandInFlight m ws fs s → AreAtRest fs → (h : Stands m (contents m ws) s) × Recorded m (contents m ws) s h
closed-stand m ws fs s h rest = (
  record {
    whole = h.stands.whole;
    places = h.stands.places;
    stands = subst (λ (c : Contents). StandsAs m c (view s) h.stands.places) (whole-rest m ws fs rest) h.stands.stands;
  },
  subst (λ (c : Contents). RecordedAs m c (view s) h.stands.places.at) (whole-rest m ws fs rest) h.recorded,
)

rest-fits : (m : Areas) (ws : List ℕ) (c : Contents) (f : Flight) → HasThread m f.thread → IsRest f → FlightFits m ws c f
rest-fits m ws c f ht rest =
    let none : f.covers ≡ [] = ap (λ (x : Flight). x.covers) rest in
    record {
      thread = ht;
      own = subst (All (λ (k : Cover). IsOwn m c f k.place)) (sym none) (λ k d lk. absurd (omega (arith, lk)));
      once = subst (AllPairs (λ (a b : Cover). a.place ≢ b.place)) (sym none) (λ a b d la lb. absurd (omega (arith, lb)));
      stand = subst (All (λ (k : Cover). slice_index ws k.place ≡ k.stands)) (sym none) (λ k d lk. absurd (omega (arith, lk)));
      reading = subst (λ (r : Option Reading). IfSome r (λ (x : Reading). HasRegion m x.owner x.depth)) (sym (ap (λ (x : Flight). x.reading) rest)) tt;
      claims = omega (arith, ap (λ (x : Flight). x.claims) rest);
    }

-- and those that it leaves stand so where they stand for a state
pub open-stand : (m : Areas) (ws : List ℕ) (fs : List Flight) (s : SpaceState) → IsAreas m → length ws ≡ total_of m → AreAtRest fs → All (λ (f : Flight). HasThread m f.thread) fs → AllPairs (λ (f g : Flight). f.thread ≢ g.thread) fs → length fs ≤ m.threads → (h : Stands m (contents m ws) s) → Recorded m (contents m ws) s h → StandInFlight m ws fs s
open-stand m ws fs s areas long rest threads apart few h recorded =
    let e : whole m ws fs ≡ contents m ws = whole-rest m ws fs rest in
    let under : laid_all fs ws ≡ ws = rest-laid fs ws rest in
    record {
      fit = record {
        areas = areas;
        long = long;
        fit = λ k d lk. rest-fits m ws (whole m ws fs) (get_or fs k d) (threads k d lk) (rest k d lk);
        threads = apart;
        few = few;
        within = rw under h.stands.pool.within;
        passed = rw (under, rest-claims fs rest) (omega (arith, h.stands.pool.passed));
      };
      stands = record {
        whole = h.whole;
        places = h.places;
        stands = subst (λ (c : Contents). StandsAs m c (view s) h.places) (sym e) h.stands;
      };
      recorded = subst (λ (c : Contents). RecordedAs m c (view s) h.places.at) (sym e) recorded;
    }
