-- What the words show where they stand for a state apart from the calls in flight.
use Rattle.std.proofs.Common.{◌≡◌, ◌≢◌, ◌⊎◌, ℕ, ◌+◌, ◌≤◌, ◌<◌, List, length, get_or, set, zero, suc, refl, sym, ap, subst, ◌∙◌, arith, inl, inr, length-set, get_or-set_same, get_or-set_other}
use Rattle.std.specs.List.{Contains}
use Rattle.std.proofs.lemmas.Bool.{cases_eq}
use Rattle.std.proofs.lemmas.List.{get_or_default}
use Rattle.std.proofs.lemmas.List.Elements.{All-from_get_or, Contains-append_left}
use Rattle.std.proofs.Math.Logic.{⊎_elim}
use Rattle.heap_words.specs.declared.map.Areas.{Areas}
use Rattle.heap_words.specs.declared.TheConstants.{HEAD_WORDS}
use Rattle.heap_words.specs.Map.{heap_at, pool_at}
use Rattle.heap_words.specs.Contents.{Contents, Sound, contents}
use Rattle.yak_model.specs.Spaces.{SpaceState}
use Rattle.yak_model.specs.Stands.{Stands, claim_counter, pool_length}
use Rattle.region_pages.proofs.Shapes.{shape}
use Rattle.calls_in_flight.specs.Flight.{Flight, IsBare, at_rest, flight_at}
use Rattle.calls_in_flight.specs.Whole.{claimed_in, claims_in, free_with, laid_all, whole}
use Rattle.calls_in_flight.specs.Owning.{IsOwn}
use Rattle.calls_in_flight.specs.Fits.{FlightFits, FlightsFit}
use Rattle.calls_in_flight.proofs.Apart.{Holds, Named, own-apart, own-area}
use Rattle.calls_in_flight.proofs.Claimed.{claimed-apart, claimed_among}
use Rattle.calls_in_flight.proofs.Flights.{IsBareBeside, IsBareIn, length-laid_all}
use Rattle.calls_in_flight.proofs.Pools.{AreFree, pool-free}

-- what the words hold with what all covers show, before claimed pages and readers are put to it
abbrev pub under : Areas → List ℕ → List Flight → Contents
under m ws fs = contents m (laid_all fs ws)

pub sound_under : (m : Areas) (ws : List ℕ) (fs : List Flight) (s : SpaceState) → FlightsFit m ws fs → Stands m (whole m ws fs) s → Sound m (laid_all fs ws)
sound_under m ws fs s fit h = record {
  areas = fit.areas;
  whole = length-laid_all fs ws ∙ fit.long;
  limits = record { depths = h.stands.limits.depths; stacks = h.stands.limits.stacks; buffers = h.stands.limits.buffers };
}

pub named : (m : Areas) (ws : List ℕ) (fs : List Flight) (s : SpaceState) → FlightsFit m ws fs → Stands m (whole m ws fs) s → Named m (whole m ws fs)
named m ws fs s fit h = record {
  currents = record { belong = h.stands.currents.belong; once = h.stands.currents.once };
  slots = λ t ht. (shape m (laid_all fs ws) (sound_under m ws fs s fit h)).slots t ht;
}

pub free_under : (m : Areas) (ws : List ℕ) (fs : List Flight) (s : SpaceState) → FlightsFit m ws fs → Stands m (whole m ws fs) s → AreFree m (free_with (claimed_in fs) (under m ws fs).heads (under m ws fs).pool) (under m ws fs).table
free_under m ws fs s fit h = pool-free m (claimed_in fs) (under m ws fs).heads (under m ws fs).pool (under m ws fs).table (shape m (laid_all fs ws) (sound_under m ws fs s fit h)).heads h.stands.pool

-- a call in flight fits the words
pub fit_at : (m : Areas) (ws : List ℕ) (fs : List Flight) (i : ℕ) → FlightsFit m ws fs → i < length fs → FlightFits m ws (whole m ws fs) (flight_at fs i)
fit_at m ws fs i fit lt = fit.fit i (at_rest 0) lt

pub holds_at : (m : Areas) (ws : List ℕ) (fs : List Flight) (s : SpaceState) (i : ℕ) → FlightsFit m ws fs → Stands m (whole m ws fs) s → i < length fs → Holds m (whole m ws fs) (flight_at fs i)
holds_at m ws fs s i fit h lt = record {
  thread = (fit_at m ws fs i fit lt).thread;
  claimed = λ p c. ((free_under m ws fs s fit h).free p).0 (Contains-append_left (claimed_in fs) _ p (claimed_among fs i p lt c));
}

-- one of two different numbers is less
pub one_less : (a b : ℕ) → a ≢ b → (a < b) ⊎ (b < a)
one_less zero zero ne = absurd (ne refl)
one_less zero (suc b) ne = inl (omega arith)
one_less (suc a) zero ne = inr (omega arith)
one_less (suc a) (suc b) ne = ⊎_elim (λ (lt : a < b). inl (omega (arith, lt))) (λ (gt : b < a). inr (omega (arith, gt))) (one_less a b (λ e. ne (ap suc e)))

-- calls in flight are of different threads
pub threads-apart : (m : Areas) (ws : List ℕ) (fs : List Flight) (i j : ℕ) → FlightsFit m ws fs → i < length fs → j < length fs → j ≢ i → (flight_at fs j).thread ≢ (flight_at fs i).thread
threads-apart m ws fs i j fit li lj ne e = ⊎_elim
    (λ (lt : i < j). fit.threads i j (at_rest 0) lt lj (sym e))
    (λ (gt : j < i). fit.threads j i (at_rest 0) gt li e)
    (one_less i j (λ q. ne (sym q)))

-- and claim different pages
pub pages-apart : (m : Areas) (ws : List ℕ) (fs : List Flight) (s : SpaceState) (i j p : ℕ) → FlightsFit m ws fs → Stands m (whole m ws fs) s → i < length fs → j < length fs → j ≢ i → Contains (flight_at fs j).claimed p → Contains (flight_at fs i).claimed p → ⊥
pages-apart m ws fs s i j p fit h li lj ne c k =
    let once = (free_under m ws fs s fit h).once in
    ⊎_elim
    (λ (lt : i < j). claimed-apart fs i j p _ once lt lj k c)
    (λ (gt : j < i). claimed-apart fs j i p _ once gt li c k)
    (one_less i j (λ q. ne (sym q)))

-- a place of a thread's own is no other's
pub own-beside : (m : Areas) (ws : List ℕ) (fs : List Flight) (s : SpaceState) (i j a : ℕ) → FlightsFit m ws fs → Stands m (whole m ws fs) s → i < length fs → j < length fs → j ≢ i → IsOwn m (whole m ws fs) (flight_at fs i) a → IsOwn m (whole m ws fs) (flight_at fs j) a → ⊥
own-beside m ws fs s i j a fit h li lj ne own other =
    own-apart m (whole m ws fs) (flight_at fs j) (flight_at fs i) a (named m ws fs s fit h) (holds_at m ws fs s j fit h lj) (holds_at m ws fs s i fit h li) (threads-apart m ws fs i j fit li lj ne) (λ p c k. pages-apart m ws fs s i j p fit h li lj ne c k) other own

pub bare-beside : (m : Areas) (ws : List ℕ) (fs : List Flight) (s : SpaceState) (i a : ℕ) → FlightsFit m ws fs → Stands m (whole m ws fs) s → i < length fs → IsOwn m (whole m ws fs) (flight_at fs i) a → IsBareBeside fs i a
bare-beside m ws fs s i a fit h li own j lj ne k d lk e =
    own-beside m ws fs s i j a fit h li lj ne own (subst (IsOwn m (whole m ws fs) (flight_at fs j)) e ((fit_at m ws fs j fit lj).own k d lk))

-- a word that is no thread's own is bare
pub bare-outside : (m : Areas) (ws : List ℕ) (fs : List Flight) (s : SpaceState) (a : ℕ) → FlightsFit m ws fs → Stands m (whole m ws fs) s → ((a < HEAD_WORDS) ⊎ ((pool_at m ≤ a) × (a < heap_at m))) → IsBareIn fs a
bare-outside m ws fs s a fit h out j lj k d lk e =
    let own = (fit_at m ws fs j fit lj).own k d lk in
    let area = own-area m (whole m ws fs) (flight_at fs j) _ (named m ws fs s fit h) (holds_at m ws fs s j fit h lj) own in
    ⊎_elim
    (λ (x : (HEAD_WORDS ≤ (get_or (flight_at fs j).covers k d).place) × ((get_or (flight_at fs j).covers k d).place < pool_at m)). ⊎_elim (λ (y : a < HEAD_WORDS). let r : ⊥ = omega (arith, x.0, y, e) in r) (λ (y : (pool_at m ≤ a) × (a < heap_at m)). let r : ⊥ = omega (arith, x.1, y.0, e) in r) out)
    (λ (x : heap_at m ≤ (get_or (flight_at fs j).covers k d).place). ⊎_elim (λ (y : a < HEAD_WORDS). let r : ⊥ = omega (arith, x, y, e) in r) (λ (y : (pool_at m ≤ a) × (a < heap_at m)). let r : ⊥ = omega (arith, x, y.1, e) in r) out)
    area

-- a store of a thread's own is none of the words that other calls in flight cover
pub fits-beside : (m : Areas) (ws : List ℕ) (c : Contents) (g : Flight) (a w : ℕ) → IsBare g.covers a → FlightFits m ws c g → FlightFits m (set ws a w) c g
fits-beside m ws c g a w bare fit = record {
  thread = fit.thread;
  own = fit.own;
  once = fit.once;
  stand = λ k d lk. get_or-set_other ws a (get_or g.covers k d).place w 0 (bare k d lk) ∙ fit.stand k d lk;
  reading = fit.reading;
  claims = fit.claims;
}

-- the words that a call in flight covers may show otherwise, where its places stay its own
pub fits-moved : (m : Areas) (ws : List ℕ) (c d : Contents) (g : Flight) → ((a : ℕ) → IsOwn m c g a → IsOwn m d g a) → FlightFits m ws c g → FlightFits m ws d g
fits-moved m ws c d g keeps fit = record {
  thread = fit.thread;
  own = λ k e lk. keeps (get_or g.covers k e).place (fit.own k e lk);
  once = fit.once;
  stand = fit.stand;
  reading = fit.reading;
  claims = fit.claims;
}

-- the thread of a call in flight, where another one of the thread is put in its place
thread-same : (fs : List Flight) (i : ℕ) (f : Flight) (j : ℕ) (d : Flight) → i < length fs → f.thread ≡ (flight_at fs i).thread → j < length fs → (get_or (set fs i f) j d).thread ≡ (get_or fs j d).thread
thread-same fs i f j d lt e lj = ⊎_elim
    (λ (q : j ≡ i). ap (λ k. (get_or (set fs i f) k d).thread) q ∙ ap (λ (x : Flight). x.thread) (get_or-set_same fs i f d lt) ∙ e ∙ ap (λ (x : Flight). x.thread) (get_or_default fs i (at_rest 0) d lt) ∙ ap (λ k. (get_or fs k d).thread) (sym q))
    (λ (ne : j ≢ i). ap (λ (x : Flight). x.thread) (get_or-set_other fs i j f d ne))
    (cases_eq j i)

-- all calls in flight fit the words after a step of one
pub fits-put : (m : Areas) (ws now : List ℕ) (fs : List Flight) (i : ℕ) (f : Flight) → FlightsFit m ws fs → i < length fs → f.thread ≡ (flight_at fs i).thread → length now ≡ length ws → FlightFits m now (whole m now (set fs i f)) f → ((j : ℕ) → j < length fs → j ≢ i → FlightFits m now (whole m now (set fs i f)) (flight_at fs j)) → pool_length (under m now (set fs i f)).heads ≤ m.pages → claim_counter (under m now (set fs i f)).heads + claims_in (set fs i f) ≤ pool_length (under m now (set fs i f)).heads + m.threads → FlightsFit m now (set fs i f)
fits-put m ws now fs i f fit lt same long own beside within passed =
    let P : Flight → Type 0 = FlightFits m now (whole m now (set fs i f)) in
    let count : length (set fs i f) ≡ length fs = length-set fs i f in
    record {
      areas = fit.areas;
      long = long ∙ fit.long;
      fit = All-from_get_or P (set fs i f) (at_rest 0) (λ j lj. ⊎_elim
          (λ (e : j ≡ i). subst P (sym (ap (flight_at (set fs i f)) e ∙ get_or-set_same fs i f (at_rest 0) lt)) own)
          (λ (ne : j ≢ i). subst P (sym (get_or-set_other fs i j f (at_rest 0) ne)) (beside j (omega (arith, lj, count)) ne))
          (cases_eq j i));
      threads = λ x y d lx ly e.
          let ly' : y < length fs = omega (arith, ly, count) in
          fit.threads x y d lx ly' (sym (thread-same fs i f x d lt same (omega (arith, lx, ly'))) ∙ e ∙ thread-same fs i f y d lt same ly');
      few = omega (arith, fit.few, count);
      within = within;
      passed = passed;
    }
