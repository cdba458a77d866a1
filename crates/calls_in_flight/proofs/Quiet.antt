-- Steps that leave what the words hold apart from the calls in flight as it is.
use Rattle.std.proofs.Common.{◌≡◌, ◌≢◌, ℕ, ◌<◌, List, [], ◌∷◌, length, get_or, set, zero, suc, refl, sym, ap, subst, ◌∙◌, arith, length-set, get_or-set_same, get_or-set_other}
use Rattle.std.specs.List.{All, AllPairs, Contains}
use Rattle.std.proofs.lemmas.List.{set-get_or}
use Rattle.std.proofs.lemmas.List.Elements.{All-cons, All-head, All-tail}
use Rattle.std.proofs.lemmas.List.Kept.{AllPairs-cons}
use Rattle.heap_words.specs.declared.map.Areas.{Areas}
use Rattle.heap_words.specs.Contents.{Contents, buffer_of, contents}
use Rattle.yak_model.specs.Spaces.{SpaceState}
use Rattle.yak_model.specs.State.{view}
use Rattle.yak_model.specs.Stands.{Stands, StandsAs}
use Rattle.yak_model.specs.Recorded.{RecordedAs}
use Rattle.calls_in_flight.specs.Flight.{Cover, Flight, IsBare, at_rest, flight_at}
use Rattle.calls_in_flight.specs.Whole.{claimed_in, claims_in, completed, laid, laid_all, read_by, read_in, whole}
use Rattle.calls_in_flight.specs.Owning.{IsOwn, IsWordOf}
use Rattle.calls_in_flight.specs.Fits.{FlightFits, FlightsFit, StandInFlight}
use Rattle.calls_in_flight.specs.Stepped.{Puts, Stepped}
use Rattle.calls_in_flight.specs.Steps.{Lays, Settles, with_covers}
use Rattle.calls_in_flight.proofs.Apart.{own-kept, own-more, own-within}
use Rattle.calls_in_flight.proofs.Claimed.{claimed-same, claims-put}
use Rattle.calls_in_flight.proofs.Covers.{laid-bare, laid-set, laid-under, pairs-head, pairs-tail}
use Rattle.calls_in_flight.proofs.Flights.{IsBareBeside, bare-others, laid_all-bare, laid_all-own, laid_all-put, laid_all-set, others}
use Rattle.calls_in_flight.proofs.Grounds.{bare-beside, fit_at, fits-beside, fits-put, holds_at, named, under}

-- the readers that are to come, where one call in flight is replaced by one of the same thread and the same reading
pub read-same : (fs : List Flight) (i : ℕ) (f : Flight) (rs : List (List ℕ)) → f.thread ≡ (flight_at fs i).thread → f.reading ≡ (flight_at fs i).reading → read_in (set fs i f) rs ≡ read_in fs rs
read-same [] i f rs et er = refl
read-same (g ∷ fs) zero f rs et er = ap (λ t. read_by t f.reading (read_in fs rs)) et ∙ ap (λ r. read_by g.thread r (read_in fs rs)) er
read-same (g ∷ fs) (suc i) f rs et er = ap (read_by g.thread g.reading) (read-same fs i f rs et er)

-- what the words hold is the same where what covers show is
pub whole-same : (m : Areas) (ws now : List ℕ) (fs : List Flight) (i : ℕ) (f : Flight) → i < length fs → f.thread ≡ (flight_at fs i).thread → f.claimed ≡ (flight_at fs i).claimed → f.reading ≡ (flight_at fs i).reading → laid_all (set fs i f) now ≡ laid_all fs ws → whole m now (set fs i f) ≡ whole m ws fs
whole-same m ws now fs i f lt et ec er e =
    let gs : List Flight = set fs i f in
    let claimed : claimed_in gs ≡ claimed_in fs = claimed-same fs i f lt ec in
    let c : Contents = contents m (laid_all fs ws) in
    let readers : read_in gs c.readers ≡ read_in fs c.readers = read-same fs i f c.readers et er in
    let same : completed gs c ≡ completed fs c = rw (claimed, readers) refl in
    ap (λ (xs : List ℕ). completed gs (contents m xs)) e ∙ same

-- one call in flight put in the place of another one of the thread
pub puts_set : (fs : List Flight) (i : ℕ) (f : Flight) → i < length fs → f.thread ≡ (flight_at fs i).thread → Puts fs (set fs i f) i
puts_set fs i f lt e = record {
  thread = ap (λ (x : Flight). x.thread) (get_or-set_same fs i f (at_rest 0) lt) ∙ e;
  beside = λ j ne. get_or-set_other fs i j f (at_rest 0) ne;
}

pub puts_still : (fs : List Flight) (i : ℕ) → Puts fs fs i
puts_still fs i = record { thread = refl; beside = λ j ne. refl }

-- no claimed page is given up
abbrev pub KeepsClaimed : List Flight → List Flight → ℕ → Type 0
KeepsClaimed fs gs i = (p : ℕ) → Contains (flight_at fs i).claimed p → Contains (flight_at gs i).claimed p

pub keeps_set : (fs : List Flight) (i : ℕ) (f : Flight) → i < length fs → ((p : ℕ) → Contains (flight_at fs i).claimed p → Contains f.claimed p) → KeepsClaimed fs (set fs i f) i
keeps_set fs i f lt more p c = subst (λ (x : Flight). Contains x.claimed p) (sym (get_or-set_same fs i f (at_rest 0) lt)) (more p c)

pub keeps_same : (fs : List Flight) (i : ℕ) (f : Flight) → i < length fs → f.claimed ≡ (flight_at fs i).claimed → KeepsClaimed fs (set fs i f) i
keeps_same fs i f lt e = keeps_set fs i f lt (λ p c. subst (λ (ps : List ℕ). Contains ps p) (sym e) c)

-- what is the thread's own stays so, where the pages are as they were
pub mine-kept : (m : Areas) (c d : Contents) (fs gs : List Flight) (i b : ℕ) → Puts fs gs i → KeepsClaimed fs gs i → d.currents ≡ c.currents → d.table ≡ c.table → IsOwn m c (flight_at fs i) b → IsOwn m d (flight_at gs i) b
mine-kept m c d fs gs i b puts more ec et own =
    subst (λ t. IsWordOf m d t (flight_at gs i).claimed b) (sym puts.thread) (own-more m d (flight_at fs i).thread (flight_at fs i).claimed (flight_at gs i).claimed b more (own-kept m c d (flight_at fs i) b ec et own))

-- the words stand as before where what they hold is the same
pub step-same : (m : Areas) (ws now : List ℕ) (fs gs : List Flight) (i : ℕ) (s : SpaceState) (h : StandInFlight m ws fs s) → Puts fs gs i → KeepsClaimed fs gs i → FlightsFit m now gs → whole m now gs ≡ whole m ws fs → Stepped m ws now fs gs i s h [] 0
step-same m ws now fs gs i s h puts more fit e = record {
  after = s;
  turns = refl;
  later = record {
    fit = fit;
    stands = record {
      whole = h.stands.whole;
      places = h.stands.places;
      stands = subst (λ (c : Contents). StandsAs m c (view s) h.stands.places) (sym e) h.stands.stands;
    };
    recorded = subst (λ (c : Contents). RecordedAs m c (view s) h.stands.places.at) (sym e) h.recorded;
  };
  places = record { kept = λ n o is. (o, is, refl, refl, refl) };
  flights = puts;
  mine = λ b low own. mine-kept m (whole m ws fs) (whole m now gs) fs gs i b puts more (ap (λ (c : Contents). c.currents) e) (ap (λ (c : Contents). c.table) e) own;
  own = λ j b lj ne own. subst (λ (c : Contents). IsOwn m c (flight_at fs j) b) (sym e) own;
  buffers = λ j lj ne. ap (λ (c : Contents). buffer_of c (flight_at fs j).thread) e;
  logged = omega (arith, ap (λ (c : Contents). length (buffer_of c (flight_at fs i).thread)) e);
  table = λ z. ap (λ (c : Contents). c.table) e;
}

-- the covers of one call in flight lie beside all others
pub covers-beside : (m : Areas) (ws : List ℕ) (fs : List Flight) (s : SpaceState) (i : ℕ) → FlightsFit m ws fs → Stands m (whole m ws fs) s → i < length fs → All (λ (k : Cover). IsBareBeside fs i k.place) (flight_at fs i).covers
covers-beside m ws fs s i fit h lt k d lk = bare-beside m ws fs s i (get_or (flight_at fs i).covers k d).place fit h lt ((fit_at m ws fs i fit lt).own k d lk)

-- all fit after a step of one that leaves what the words hold, and stores a word of its own
pub fits-same : (m : Areas) (ws : List ℕ) (fs : List Flight) (s : SpaceState) (i a w : ℕ) (f : Flight) → StandInFlight m ws fs s → i < length fs → IsOwn m (whole m ws fs) (flight_at fs i) a → f.thread ≡ (flight_at fs i).thread → f.claims ≡ (flight_at fs i).claims → laid_all (set fs i f) (set ws a w) ≡ laid_all fs ws → whole m (set ws a w) (set fs i f) ≡ whole m ws fs → FlightFits m (set ws a w) (whole m ws fs) f → FlightsFit m (set ws a w) (set fs i f)
fits-same m ws fs s i a w f h lt own et ec laid same fit =
    let now : List ℕ = set ws a w in
    let back : (g : Flight) → FlightFits m now (whole m ws fs) g → FlightFits m now (whole m now (set fs i f)) g = λ g x. subst (λ (c : Contents). FlightFits m now c g) (sym same) x in
    let heads : (under m now (set fs i f)).heads ≡ (under m ws fs).heads = ap (λ (xs : List ℕ). (contents m xs).heads) laid in
    let claims : claims_in (set fs i f) ≡ claims_in fs = omega (arith, claims-put fs i f lt, ec) in
    fits-put m ws now fs i f h.fit lt et (length-set ws a w) (back f fit)
    (λ j lj ne. back (flight_at fs j) (fits-beside m ws (whole m ws fs) (flight_at fs j) a w (bare-beside m ws fs s i a h.fit h.stands lt own j lj ne) (fit_at m ws fs j h.fit lj)))
    (rw heads h.fit.within)
    (rw (heads, claims) h.fit.passed)

-- a word is stored under a cover that shows what stood there
pub lays-keep : (m : Areas) (ws : List ℕ) (fs : List Flight) (s : SpaceState) (i a w : ℕ) (f : Flight) (h : StandInFlight m ws fs s) → Lays m ws fs i a w f → Stepped m ws (set ws a w) fs (set fs i f) i s h [] 0
lays-keep m ws fs s i a w f h lays =
    let F : Flight = flight_at fs i in
    let k : Cover = record { place = a; stands = w; shown = get_or ws a 0 } in
    let lt = lays.inside in
    let v : List ℕ = laid_all (others fs i) ws in
    let beside : IsBareBeside fs i a = bare-beside m ws fs s i a h.fit h.stands lt lays.own in
    let covers = covers-beside m ws fs s i h.fit h.stands lt in
    let own : laid_all fs ws ≡ laid F.covers v = laid_all-own fs i (at_rest F.thread) ws lt refl covers in
    let one : f.covers ≡ k ∷ F.covers = ap (λ (x : Flight). x.covers) lays.after in
    let put : laid_all (set fs i f) (set ws a w) ≡ laid f.covers (laid_all (others fs i) (set ws a w)) = laid_all-put fs i f (set ws a w) lt (subst (All (λ (x : Cover). IsBareBeside fs i x.place)) (sym one) (All-cons (λ (x : Cover). IsBareBeside fs i x.place) k F.covers beside covers)) in
    let seen : laid_all (others fs i) (set ws a w) ≡ set v a w = laid_all-set (others fs i) ws a w (bare-others fs i a beside) in
    let shown : get_or (laid F.covers v) a 0 ≡ get_or ws a 0 = laid-bare F.covers v a lays.bare ∙ laid_all-bare (others fs i) ws a (bare-others fs i a beside) in
    let back : laid (k ∷ F.covers) (set v a w) ≡ laid F.covers v = laid-under F.covers v a w (get_or ws a 0) ∙ ap (set (laid F.covers v) a) (sym shown) ∙ set-get_or (laid F.covers v) a 0 in
    let same : laid_all (set fs i f) (set ws a w) ≡ laid_all fs ws = put ∙ ap (laid f.covers) seen ∙ ap (λ (ks : List Cover). laid ks (set v a w)) one ∙ back ∙ sym own in
    let et : f.thread ≡ F.thread = ap (λ (x : Flight). x.thread) lays.after in
    let all : whole m (set ws a w) (set fs i f) ≡ whole m ws fs = whole-same m ws (set ws a w) fs i f lt et (ap (λ (x : Flight). x.claimed) lays.after) (ap (λ (x : Flight). x.reading) lays.after) same in
    let was = fit_at m ws fs i h.fit lt in
    let kept = fits-beside m ws (whole m ws fs) F a w lays.bare was in
    let inside : a < length ws = rw h.fit.long (own-within m (whole m ws fs) F a (named m ws fs s h.fit h.stands) (holds_at m ws fs s i h.fit h.stands lt) lays.own) in
    let fit : FlightFits m (set ws a w) (whole m ws fs) (with_covers F (k ∷ F.covers)) = record {
      thread = was.thread;
      own = All-cons (λ (x : Cover). IsOwn m (whole m ws fs) F x.place) k F.covers lays.own was.own;
      once = AllPairs-cons (λ (x y : Cover). x.place ≢ y.place) k F.covers (λ j d lj e. lays.bare j d lj (sym e)) was.once;
      stand = All-cons (λ (x : Cover). get_or (set ws a w) x.place 0 ≡ x.stands) k F.covers (get_or-set_same ws a w 0 inside) kept.stand;
      reading = was.reading;
      claims = was.claims;
    } in
    step-same m ws (set ws a w) fs (set fs i f) i s h (puts_set fs i f lt et) (keeps_same fs i f lt (ap (λ (x : Flight). x.claimed) lays.after)) (fits-same m ws fs s i a w f h lt lays.own et (ap (λ (x : Flight). x.claims) lays.after) same all (subst (FlightFits m (set ws a w) (whole m ws fs)) (sym lays.after) fit)) all

-- the word that the last cover shows is stored
pub settles-keep : (m : Areas) (ws : List ℕ) (fs : List Flight) (s : SpaceState) (i a w : ℕ) (f : Flight) (h : StandInFlight m ws fs s) → Settles ws fs i a w f → Stepped m ws (set ws a w) fs (set fs i f) i s h [] 0
settles-keep m ws fs s i a w f h settles =
    let F : Flight = flight_at fs i in
    let k : Cover = record { place = a; stands = get_or ws a 0; shown = w } in
    let lt = settles.inside in
    let v : List ℕ = laid_all (others fs i) ws in
    let was = fit_at m ws fs i h.fit lt in
    let Own : Cover → Type 0 = λ x. IsOwn m (whole m ws fs) F x.place in
    let Apart : Cover → Cover → Type 0 = λ x y. x.place ≢ y.place in
    let Beside : Cover → Type 0 = λ x. IsBareBeside fs i x.place in
    let owned : All Own (k ∷ f.covers) = subst (All Own) settles.covers was.own in
    let once : AllPairs Apart (k ∷ f.covers) = subst (AllPairs Apart) settles.covers was.once in
    let own : IsOwn m (whole m ws fs) F a = All-head Own k f.covers owned in
    let covers = covers-beside m ws fs s i h.fit h.stands lt in
    let beside : All Beside (k ∷ f.covers) = subst (All Beside) settles.covers covers in
    let bare : IsBare f.covers a = λ j d lj e. pairs-head Apart k f.covers once j d lj (sym e) in
    let shown : laid_all fs ws ≡ laid (k ∷ f.covers) v = laid_all-own fs i (at_rest F.thread) ws lt refl covers ∙ ap (λ (ks : List Cover). laid ks v) settles.covers in
    let put : laid_all (set fs i f) (set ws a w) ≡ laid f.covers (laid_all (others fs i) (set ws a w)) = laid_all-put fs i f (set ws a w) lt (All-tail Beside k f.covers beside) in
    let seen : laid_all (others fs i) (set ws a w) ≡ set v a w = laid_all-set (others fs i) ws a w (bare-others fs i a (All-head Beside k f.covers beside)) in
    let same : laid_all (set fs i f) (set ws a w) ≡ laid_all fs ws = put ∙ ap (laid f.covers) seen ∙ laid-set f.covers v a w bare ∙ sym shown in
    let et : f.thread ≡ F.thread = ap (λ (x : Flight). x.thread) settles.after in
    let all : whole m (set ws a w) (set fs i f) ≡ whole m ws fs = whole-same m ws (set ws a w) fs i f lt et (ap (λ (x : Flight). x.claimed) settles.after) (ap (λ (x : Flight). x.reading) settles.after) same in
    let stand : All (λ (x : Cover). get_or ws x.place 0 ≡ x.stands) f.covers = All-tail (λ (x : Cover). get_or ws x.place 0 ≡ x.stands) k f.covers (subst (All (λ (x : Cover). get_or ws x.place 0 ≡ x.stands)) settles.covers was.stand) in
    let fit : FlightFits m ws (whole m ws fs) (with_covers F f.covers) = record {
      thread = was.thread;
      own = All-tail Own k f.covers owned;
      once = pairs-tail Apart k f.covers once;
      stand = stand;
      reading = was.reading;
      claims = was.claims;
    } in
    let kept : FlightFits m (set ws a w) (whole m ws fs) f = subst (FlightFits m (set ws a w) (whole m ws fs)) (sym settles.after) (fits-beside m ws (whole m ws fs) (with_covers F f.covers) a w bare fit) in
    step-same m ws (set ws a w) fs (set fs i f) i s h (puts_set fs i f lt et) (keeps_same fs i f lt (ap (λ (x : Flight). x.claimed) settles.after)) (fits-same m ws fs s i a w f h lt own et (ap (λ (x : Flight). x.claims) settles.after) same all kept) all
