-- What is under way in the threads of a heap, as seats change.
use Rattle.std.proofs.Common.{◌≡◌, ◌≢◌, ℕ, zero, suc, ◌+◌, ◌-◌, ◌<◌, ◌≤◌, ◌==◌, Bool, true, false, List, [], ◌∷◌, length, refl, sym, ap, ◌∙◌, subst, ⊎_elim, arith, ne_eqb, eq-eqb}
use Rattle.std.specs.Prelude.{if◌then◌else◌, slice_index, slice_index_or}
use Rattle.std.specs.List.{All, AllPairs}
use Rattle.std.proofs.lemmas.Bool.{cases_eq}
use Rattle.std.proofs.lemmas.List.Elements.{All-from_get_or, All-nil}
use mathlib.Core.Option.{some, some-ne-none, some-injective}
use mathlib.Core.Logic.{dite}
use native.Mathlib.Decide.{ℕ_discrete}
use lib.ListN.{get_elem?}
use Rattle.heap_words.specs.declared.map.Areas.{Areas}
use Rattle.heap_words.specs.Map.{HasThread, IsAreas, total_of}
use Rattle.heap_words.specs.Contents.{Contents, buffer_of, contents}
use Rattle.epoch_lattice.specs.declared.Space.TheVariants.{Control}
use Rattle.yak_model.specs.Continued.{Explains}
use Rattle.yak_model.specs.declared.history.Entry.{Entry}
use Rattle.yak_model.specs.Packed.{PackedAs}
use Rattle.yak_model.specs.Recorded.{RecordedAs}
use Rattle.yak_model.specs.Spaces.{SpaceState}
use Rattle.yak_model.specs.Stands.{StandsAs}
use Rattle.yak_model.specs.State.{view}
use Rattle.calls_in_flight.specs.declared.notes.Flight.{Flight}
use Rattle.calls_in_flight.specs.declared.notes.Known.{Known}
use Rattle.calls_in_flight.specs.Differing.{DiffersOnly, MayDiffer}
use Rattle.calls_in_flight.specs.Fits.{StandInFlight}
use Rattle.calls_in_flight.specs.Flight.{AreAtRest, at_rest, flight_at}
use Rattle.calls_in_flight.specs.Knowing as knowing
use Rattle.calls_in_flight.specs.Whole.{whole}
use Rattle.calls_in_flight.proofs.Resting.{open-stand, whole-rest}
use Rattle.safepoint_gate.specs.declared.rule.Own.{Own}
use Rattle.safepoint_gate.specs.declared.rule.View.{View}
use Rattle.safepoint_gate.specs.Rule.{AreByThread, IsUnderway, StandsOpen, Underway, actor_of, stands_for, times, total}

-- ---- threads of seats

hit : (b : Bool) → b ≡ true → if◌then◌else◌ {A = ℕ} b 1 0 ≡ 1
hit b e = ap (λ (c : Bool). if◌then◌else◌ {A = ℕ} c 1 0) e

miss : (b : Bool) → b ≡ false → if◌then◌else◌ {A = ℕ} b 1 0 ≡ 0
miss b e = ap (λ (c : Bool). if◌then◌else◌ {A = ℕ} c 1 0) e

pub times_at : (own : List Own) (k : ℕ) (o : Own) → get_elem? own k ≡ some o → 1 ≤ times o.thread own
times_at [] k o at = absurd (some-ne-none o (sym at))
times_at (x ∷ xs) zero o at = let e : x.thread ≡ o.thread = ap (λ (y : Own). y.thread) (some-injective x o at) in omega (arith, hit (x.thread == o.thread) (eq-eqb x.thread o.thread e))
times_at (x ∷ xs) (suc k) o at = let r = times_at xs k o at in omega arith

-- a seat's one thread
pub only : (own : List Own) → length own ≡ 1 → (o : Own) × (own ≡ o ∷ [])
only [] e = absurd (omega arith)
only (o ∷ []) e = (o, refl)
only (o ∷ p ∷ own) e = absurd (omega arith)

pub each : (P : Own → Type 0) (o : Own) → P o → (k : ℕ) (q : Own) → get_elem? (o ∷ []) k ≡ some q → P q
each P o p zero q at = subst P (some-injective o q at) p
each P o p (suc k) q at = absurd (some-ne-none q (sym at))

-- an own list that has a thread has it somewhere
find_own : (own : List Own) (t : ℕ) → 1 ≤ times t own → (k : ℕ) × (o : Own) × (get_elem? own k ≡ some o) × (o.thread ≡ t)
find_own [] t h = absurd (omega arith)
find_own (x ∷ xs) t h = ⊎_elim
    (λ (e : x.thread ≡ t). (0, x, refl, e))
    (λ (ne : x.thread ≢ t). let r = find_own xs t (omega (arith, h, miss (x.thread == t) (ne_eqb x.thread t ne))) in (suc r.0, r.1, r.2, r.3))
    (cases_eq x.thread t)

-- and so has a list of views
find_view : (views : List View) (t : ℕ) → 1 ≤ total (stands_for t) views → (j : ℕ) × (v : View) × (get_elem? views j ≡ some v) × (1 ≤ times t v.own)
find_view [] t h = absurd (omega arith)
find_view (x ∷ xs) t h = dite (ℕ_discrete (times t x.own) 0)
    (λ e. let r = find_view xs t (omega (arith, h, e)) in (suc r.0, r.1, r.2, r.3))
    (λ ne. (0, x, refl, omega (arith, ne)))

pub find_thread : (views : List View) (t : ℕ) → 1 ≤ total (stands_for t) views → (j : ℕ) × (v : View) × (get_elem? views j ≡ some v) × ((k : ℕ) × (o : Own) × (get_elem? v.own k ≡ some o) × (o.thread ≡ t))
find_thread views t h = let r = find_view views t h in (r.0, r.1, r.2, find_own r.1.own t r.3)

-- ---- what is under way

-- what is under way in threads beside some stays
pub record Beside (m : Areas) (was now : Underway) (own : List Own) : Type 0 where
  pub flights : (t : ℕ) → HasThread m t → times t own ≡ 0 → flight_at now.flights (t - 1) ≡ flight_at was.flights (t - 1)
  pub lasting : (t : ℕ) → HasThread m t → times t own ≡ 0 → now.lasting t ≡ was.lasting t
  pub logged : (t : ℕ) → HasThread m t → times t own ≡ 0 → now.logged t ≡ was.logged t

pub beside_same : (m : Areas) (u : Underway) (own : List Own) → Beside m u u own
beside_same m u own = record { flights = λ t ht n. refl; lasting = λ t ht n. refl; logged = λ t ht n. refl }

-- what is under way in a thread beside them stays so
pub beside_call : (m : Areas) (was now : Underway) (own : List Own) (lasting : List Known) (o : Own) → Beside m was now own → HasThread m o.thread → times o.thread own ≡ 0 → IsUnderway m was lasting o → IsUnderway m now lasting o
beside_call m was now own lasting o b ht none c = record {
  flight_is = b.flights o.thread ht none ∙ c.flight_is;
  lasting_is = b.lasting o.thread ht none ∙ c.lasting_is;
  few = omega (arith, b.logged o.thread ht none, c.few);
  differs = c.differs;
}

-- a thread at rest differs in nothing
pub rest_differs : (m : Areas) (o : Own) (lasting : List Known) → o.flight ≡ at_rest o.thread → DiffersOnly m (actor_of o lasting)
rest_differs m o lasting rest = subst (All (MayDiffer m (actor_of o lasting))) (sym (ap (λ (x : Flight). x.covers) rest)) (All-nil (MayDiffer m (actor_of o lasting)))

-- ---- words that are met no more

abbrev dropped : ℕ → List Known → List Known
dropped zero known = known
dropped (suc n) known = []

dropped_some : (n : ℕ) (known : List Known) → 1 ≤ n → dropped n known ≡ []
dropped_some zero known h = absurd (omega arith)
dropped_some (suc n) known h = refl

dropped_none : (n : ℕ) (known : List Known) → n ≡ 0 → dropped n known ≡ known
dropped_none n known e = ap (λ k. dropped k known) e

-- the threads of a seat forget what they have met
abbrev pub forgotten : Underway → List Own → Underway
forgotten u own = record { flights = u.flights; lasting = λ t. dropped (times t own) (u.lasting t); logged = u.logged }

pub beside_forgotten : (m : Areas) (u : Underway) (own : List Own) → Beside m u (forgotten u own) own
beside_forgotten m u own = record { flights = λ t ht n. refl; lasting = λ t ht n. dropped_none (times t own) (u.lasting t) n; logged = λ t ht n. refl }

pub call_forgotten : (m : Areas) (u : Underway) (own : List Own) (lasting : List Known) (k : ℕ) (o : Own) → get_elem? own k ≡ some o → o.flight ≡ at_rest o.thread → IsUnderway m u lasting o → IsUnderway m (forgotten u own) [] o
call_forgotten m u own lasting k o at rest c = record {
  flight_is = c.flight_is;
  lasting_is = dropped_some (times o.thread own) (u.lasting o.thread) (times_at own k o at);
  few = c.few;
  differs = rest_differs m o [] rest;
}

knows_nothing : (m : Areas) (ws : List ℕ) (fs : List Flight) (s : SpaceState) (h : StandInFlight m ws fs s) (i : ℕ) (known : List Known) → known ≡ [] → knowing.Knows m ws fs s h i known
knows_nothing m ws fs s h i known e = subst (knowing.Knows m ws fs s h i) (sym e) (All-nil (λ (k : Known). (slice_index ws k.place ≡ k.word) × knowing.IsLasting m ws fs s h i k.place))

knows_dropped : (m : Areas) (ws : List ℕ) (fs : List Flight) (s : SpaceState) (h : StandInFlight m ws fs s) (i n : ℕ) (known : List Known) → knowing.Knows m ws fs s h i known → knowing.Knows m ws fs s h i (dropped n known)
knows_dropped m ws fs s h i zero known k = k
knows_dropped m ws fs s h i (suc n) known k = knows_nothing m ws fs s h i [] refl

pub open_forgotten : (m : Areas) (words : List ℕ) (history : List Entry) (u : Underway) (own : List Own) → StandsOpen m words history u → StandsOpen m words history (forgotten u own)
open_forgotten m words history u own h = record {
  lawful = h.lawful;
  state = h.state;
  leaves = h.leaves;
  stands = h.stands;
  packed = h.packed;
  lasts = λ t ht. knows_dropped m words u.flights h.state h.stands (t - 1) (times t own) (u.lasting t) (h.lasts t ht);
  counted = h.counted;
}

-- ---- no call is in flight

pub all_rest : (m : Areas) (flights : List Flight) → AreByThread m flights → ((t : ℕ) → HasThread m t → flight_at flights (t - 1) ≡ at_rest t) → AreAtRest flights
all_rest m flights by rest = All-from_get_or (λ (f : Flight). f ≡ at_rest f.thread) flights (at_rest 0) (λ i li.
    let ht : HasThread m (i + 1) = (omega arith, omega (arith, li, by.count)) in
    let back : i + 1 - 1 ≡ i = omega arith in
    let e : flight_at flights i ≡ at_rest (i + 1) = ap (flight_at flights) (sym back) ∙ rest (i + 1) ht in
    e ∙ ap at_rest (sym (ap (λ (f : Flight). f.thread) e)))

-- the number of the thread of a call in flight
pub flight_thread : (m : Areas) (flights : List Flight) (i : ℕ) → AreByThread m flights → i < length flights → (flight_at flights i).thread ≡ i + 1
flight_thread m flights i by li =
    let back : i + 1 - 1 ≡ i = omega arith in
    ap (λ j. (flight_at flights j).thread) (sym back) ∙ by.threads (i + 1) (omega arith, omega (arith, li, by.count))

-- words that a history explains stand open where no call is in flight
pub stand_open : (m : Areas) (words : List ℕ) (history : List Entry) (u : Underway) → IsAreas m → length words ≡ total_of m → AreByThread m u.flights → AreAtRest u.flights → ((t : ℕ) → HasThread m t → u.lasting t ≡ [])
    → ((t : ℕ) → HasThread m t → length (buffer_of (contents m words) t) ≤ u.logged t) → Explains m (contents m words) history → StandsOpen m words history u
stand_open m words history u areas long by rest still counted known =
    let fs : List Flight = u.flights in
    let s : SpaceState = known.state in
    let e : whole m words fs ≡ contents m words = whole-rest m words fs rest in
    let at : (i : ℕ) → i < length fs → (flight_at fs i).thread ≡ i + 1 = λ i li. flight_thread m fs i by li in
    let numbered : All (λ (f : Flight). HasThread m f.thread) fs = All-from_get_or (λ (f : Flight). HasThread m f.thread) fs (at_rest 0) (λ i li. (omega (arith, at i li), omega (arith, at i li, li, by.count))) in
    let base = open-stand m words fs s areas long rest numbered (apart fs at) (omega (arith, by.count)) known.stands known.recorded in
    let stands : StandInFlight m words fs s = record {
      fit = base.fit;
      stands = record {
        whole = known.stands.whole;
        places = known.stands.places;
        stands = subst (λ (c : Contents). StandsAs m c (view s) known.stands.places) (sym e) known.stands.stands;
      };
      recorded = subst (λ (c : Contents). RecordedAs m c (view s) known.stands.places.at) (sym e) known.recorded;
    } in
    record {
      lawful = known.lawful;
      state = s;
      leaves = known.leaves;
      stands = stands;
      packed = λ asked. subst (λ (c : Contents). PackedAs m c.table known.stands.places.pages (view s).objects Control) (sym e) (known.packed asked);
      lasts = λ t ht. knows_nothing m words fs s stands (t - 1) (u.lasting t) (still t ht);
      counted = λ t ht. subst (λ (c : Contents). length (buffer_of c t) ≤ u.logged t) (sym e) (counted t ht);
    }
  where
    same_at : (fs : List Flight) (i : ℕ) (d : Flight) → i < length fs → slice_index_or fs i d ≡ flight_at fs i
    same_at [] i d li = absurd (omega (arith, li))
    same_at (f ∷ fs) zero d li = refl
    same_at (f ∷ fs) (suc i) d li = same_at fs i d (omega (arith, li))

    apart : (fs : List Flight) → ((i : ℕ) → i < length fs → (flight_at fs i).thread ≡ i + 1) → AllPairs (λ (f g : Flight). f.thread ≢ g.thread) fs
    apart fs at i j d lij lj e =
        let li : i < length fs = omega (arith, lij, lj) in
        let one : (slice_index_or fs i d).thread ≡ i + 1 = ap (λ (f : Flight). f.thread) (same_at fs i d li) ∙ at i li in
        let two : (slice_index_or fs j d).thread ≡ j + 1 = ap (λ (f : Flight). f.thread) (same_at fs j d lj) ∙ at j lj in
        omega (arith, lij, e, one, two)

-- and such words are explained
pub stand_closed : (m : Areas) (words : List ℕ) (history : List Entry) (u : Underway) → AreAtRest u.flights → StandsOpen m words history u → Explains m (contents m words) history × ((t : ℕ) → HasThread m t → length (buffer_of (contents m words) t) ≤ u.logged t)
stand_closed m words history u rest h =
    let e : whole m words u.flights ≡ contents m words = whole-rest m words u.flights rest in
    let l = h.stands.stands.places in (
      record {
        lawful = h.lawful;
        state = h.state;
        leaves = h.leaves;
        stands = record {
          whole = h.stands.stands.whole;
          places = l;
          stands = subst (λ (c : Contents). StandsAs m c (view h.state) l) e h.stands.stands.stands;
        };
        recorded = subst (λ (c : Contents). RecordedAs m c (view h.state) l.at) e h.stands.recorded;
        packed = λ asked. subst (λ (c : Contents). PackedAs m c.table l.pages (view h.state).objects Control) e (h.packed asked);
      },
      λ t ht. subst (λ (c : Contents). length (buffer_of c t) ≤ u.logged t) e (h.counted t ht),
    )
