-- What a thread still knows after a step that loses nothing of its stack and of the headers that it has met.
use Rattle.std.proofs.Common.{◌≡◌, ◌≢◌, ℕ, ◌+◌, ◌*◌, ◌<◌, List, [], ◌∷◌, length, get_or, zero, suc, refl, sym, ap, subst, ◌∙◌, arith, Some, None, Option}
use Rattle.std.specs.List.{Contains}
use Rattle.std.specs.Prelude.{slice_index_or}
use Rattle.std.proofs.lemmas.Bool.{cases_eq, eq-eqb, ne_eqb}
use Rattle.std.proofs.Math.Logic.{⊎_elim}
use Rattle.object_layout.specs.declared.TheConstants.{OBJECT_WORDS}
use Rattle.object_layout.specs.declared.calls.Call.{Call}
use Rattle.object_layout.specs.declared.headers.Header.{Header}
use Rattle.object_layout.specs.Layout.{header_word}
use Rattle.heap_words.specs.declared.map.Areas.{Areas}
use Rattle.heap_words.specs.Map.{heap_at, heap_length}
use Rattle.epoch_lattice.specs.declared.Space.{Space}
use Rattle.epoch_lattice.specs.declared.Space.TheVariants.{Control}
use Rattle.yak_model.specs.declared.datum.Datum.{Datum}
use Rattle.yak_model.specs.declared.datum.Datum.TheVariants as datum
use Rattle.yak_model.specs.Graph.{Graph, IsThread, Thread, fields_at, refusal_of, slot_of, thread_of}
use Rattle.yak_model.specs.Spaces.{SpaceState}
use Rattle.standing_calls.specs.Records.{Crosses, home_at}
use Rattle.calls_in_flight.specs.declared.notes.Known.{Known}
use Rattle.calls_in_flight.specs.Actors.{Actor, Agrees, HasHeader, HasMet, HasSpace, IsLet, RefersTo, Shows, forget, learn, met, under}
use Rattle.calls_in_flight.specs.FieldSteps.{IsWordFor, MeetsCrossing, MeetsNone, StoresInto, crosses_not, in_control, no_reference}
use Rattle.calls_in_flight.specs.declared.notes.Cover.{Cover}
use Rattle.calls_in_flight.specs.declared.notes.Flight.{Flight}
use Rattle.calls_in_flight.specs.Flight.{IsBare}
use Rattle.calls_in_flight.specs.Seeing.{Sees, slot_told}
use Rattle.calls_in_flight.specs.Steps.{slot_at}
use Rattle.barriers.specs.Shown.{MustRecord}

-- ---- lists of known words

abbrev pub Has : List Known → ℕ → ℕ → Type 0
Has known place word = Contains known (record { place = place; word = word })

pub learns-word : (p w : ℕ) (known : List Known) → Has (learn p w known) p w
learns-word p w known = (zero, omega arith, refl)

behind : (x y : Known) (xs : List Known) → Contains xs y → Contains (x ∷ xs) y
behind x y xs c = (suc c.0, omega (arith, c.1), c.2)

forgets-step : (p q w : ℕ) (k : Known) (known : List Known) → q ≢ p → (Has known q w → Has (forget p known) q w) → (i : ℕ) → i < length (k ∷ known) → get_or (k ∷ known) i (record { place = q; word = w }) ≡ record { place = q; word = w } → Has (forget p (k ∷ known)) q w
forgets-step p q w k known ne rest zero lt e =
    let far : k.place ≢ p = λ z. ne (ap (λ (y : Known). y.place) (sym e) ∙ z) in
    rw (ne_eqb k.place p far) (zero, omega arith, e)
forgets-step p q w k known ne rest (suc j) lt e =
    let there : Has (forget p known) q w = rest (j, omega (arith, lt), e) in
    ⊎_elim
    (λ (is : k.place ≡ p). rw (eq-eqb k.place p is) there)
    (λ (far : k.place ≢ p). rw (ne_eqb k.place p far) (behind k (record { place = q; word = w }) (forget p known) there))
    (cases_eq k.place p)

pub forgets-beside : (p q w : ℕ) (known : List Known) → q ≢ p → Has known q w → Has (forget p known) q w
forgets-beside p q w [] ne c = absurd (omega (arith, c.1))
forgets-beside p q w (k ∷ known) ne c = forgets-step p q w k known ne (forgets-beside p q w known ne) c.0 c.1 c.2

pub learns-beside : (p v q w : ℕ) (known : List Known) → q ≢ p → Has known q w → Has (learn p v known) q w
learns-beside p v q w known ne c = behind (record { place = p; word = v }) (record { place = q; word = w }) (forget p known) (forgets-beside p q w known ne c)

-- what is learnt again is what was known
pub learns-again : (p v q w : ℕ) (known : List Known) → ((was : ℕ) → Has known p was → v ≡ was) → Has known q w → Has (learn p v known) q w
learns-again p v q w known again c =
    ⊎_elim
    (λ (e : q ≡ p).
    let same : v ≡ w = again w (subst (λ x. Has known x w) e c) in
    subst (λ (y : ℕ × ℕ). Has (learn p v known) y.0 y.1) (λ i. (sym e i, same i)) (learns-word p v known))
    (λ (ne : q ≢ p). learns-beside p v q w known ne c)
    (cases_eq q p)

-- ---- the stack and the headers that a thread knows

pub record Keeps (m now : Areas) (a b : Actor) : Type 0 where
  pub map : now ≡ m
  pub thread : b.thread ≡ a.thread
  pub told : b.told ≡ a.told
  pub slots : (k word : ℕ) → k < length a.told.stack → Shows a (slot_at m a.thread k) word → Shows b (slot_at m a.thread k) word
  pub headers : (at word : ℕ) → HasMet a (heap_at m + at) word → HasMet b (heap_at m + at) word

module _ (m now : Areas) (a b : Actor) (keeps : Keeps m now a b) where
  slot_now : (k word : ℕ) → k < length a.told.stack → Shows a (slot_at m a.thread k) word → Shows b (slot_at now b.thread k) word
  slot_now k word lt s =
      subst (λ (x : Areas × ℕ). Shows b (slot_at x.0 x.1 k) word) (λ i. (sym keeps.map i, sym keeps.thread i)) (keeps.slots k word lt s)

  length_now : (k : ℕ) → k < length a.told.stack → k < length b.told.stack
  length_now k lt = subst (λ (t : Thread). k < length t.stack) (sym keeps.told) lt

  pub keeps-refers : (k at : ℕ) → RefersTo m a k at → RefersTo now b k at
  keeps-refers k at r = record {
    slot = length_now k r.slot;
    word = slot_now k (2 * (at + 1)) r.slot r.word;
    within = subst (λ (x : Areas). at < heap_length x) (sym keeps.map) r.within;
  }

  pub keeps-header : (at : ℕ) (h : Header) → HasHeader m a at h → HasHeader now b at h
  keeps-header at h has = (has.0, subst (λ (x : Areas). HasMet b (heap_at x + at) (header_word h)) (sym keeps.map) (keeps.headers at (header_word h) has.1))

  pub keeps-space : (at : ℕ) (x : Space) → HasSpace m a at x → HasSpace now b at x
  keeps-space at x has = (has.0, has.1, keeps-header at _ has.2)

  pub keeps-agrees : (g : Graph) → Agrees now b g → Agrees m a g
  keeps-agrees g ag = record {
    limits = ag.limits;
    there = subst (IsThread g) keeps.thread ag.there;
    has = ap (thread_of g) (sym keeps.thread) ∙ ag.has ∙ keeps.told;
    fields = λ k at h r has. subst (λ t. length (fields_at g (slot_of g t k)) ≡ h.fields) keeps.thread (ag.fields k at h (keeps-refers k at r) (keeps-header at h has));
  }

  pub keeps-let : (asked : Call) → IsLet m a asked → IsLet now b asked
  keeps-let asked is g ag = subst (λ t. refusal_of g t asked ≡ None) (sym keeps.thread) (is g (keeps-agrees g ag))

  pub keeps-stores : (asked : Call) (at field word : ℕ) → StoresInto m a asked at field word → StoresInto now b asked at field word
  keeps-stores asked at field word st = record {
    slot = st.slot;
    «from» = st.from;
    call = st.call;
    refers = keeps-refers st.slot at st.refers;
    within = subst (λ (x : Areas). at + OBJECT_WORDS + field < heap_length x) (sym keeps.map) st.within;
    there = length_now st.from st.there;
    value = slot_now st.from word st.there st.value;
    let_ = keeps-let asked st.let_;
  }

  pub keeps-crossing : (at word : ℕ) → MeetsCrossing m a at word → MeetsCrossing now b at word
  keeps-crossing at word c = record {
    to = c.to;
    leads = c.leads;
    x = c.x;
    y = c.y;
    «from» = keeps-space at c.x c.from;
    into = keeps-space c.to c.y c.into;
    crosses = c.crosses;
  }

  pub keeps-none : (at word : ℕ) → MeetsNone m a at word → MeetsNone now b at word
  keeps-none at word (no_reference not) = no_reference not
  keeps-none at word (in_control to e s) = in_control to e (keeps-space to Control s)
  keeps-none at word (crosses_not to x y e s t not) = crosses_not to x y e (keeps-space at x s) (keeps-space to y t) not

-- a thread that has met more
pub keeps-more : (m : Areas) (a : Actor) (known : List Known) → ((p w : ℕ) → HasMet a p w → Has known p w) → Keeps m m a (record a { lasting = known })
keeps-more m a known more = record {
  map = refl;
  thread = refl;
  told = refl;
  slots = λ k word lt s. shows (slot_at m a.thread k) word s;
  headers = λ at word has. more (heap_at m + at) word has;
}
  where
    shows : (p w : ℕ) → Shows a p w → Shows (record a { lasting = known }) p w
    shows p w (met bare has) = met bare (more p w has)
    shows p w (under stands has) = under stands has

-- a thread that has stored a word beside its stack and the heap
pub keeps-store : (m : Areas) (a : Actor) (g : Flight) (p w : ℕ) (known : List Known) → known ≡ a.lasting
    → ((k : ℕ) → k < length a.told.stack → slot_at m a.thread k ≢ p) → ((at : ℕ) → heap_at m + at ≢ p)
    → ((k : ℕ) → k < length a.told.stack → IsBare a.flight.covers (slot_at m a.thread k)) → ((k : ℕ) → k < length a.told.stack → IsBare g.covers (slot_at m a.thread k))
    → Keeps m m a (record a { flight = g; lasting = learn p w known })
keeps-store m a g p w known is slots heap bare later = record {
  map = refl;
  thread = refl;
  told = refl;
  slots = shows;
  headers = λ at word has. learns-beside p w (heap_at m + at) word known (heap at) (subst (λ l. Has l (heap_at m + at) word) (sym is) has);
}
  where
    shows : (k word : ℕ) → k < length a.told.stack → Shows a (slot_at m a.thread k) word → Shows (record a { flight = g; lasting = learn p w known }) (slot_at m a.thread k) word
    shows k word lt (met free has) = met (later k lt) (learns-beside p w (slot_at m a.thread k) word known (slots k lt) (subst (λ l. Has l (slot_at m a.thread k) word) (sym is) has))
    shows k word lt (under stands has) = absurd (bare k lt has.0 (record { place = slot_at m a.thread k; stands = stands; shown = word }) has.1 (ap (λ (x : Cover). x.place) has.2))

-- ---- a thread of which no call is in flight

pub shows-met : (a : Actor) (p w : ℕ) → a.flight.covers ≡ [] → Shows a p w → HasMet a p w
shows-met a p w none (met bare has) = has
shows-met a p w none (under stands has) = absurd (let lt = subst (λ (l : List Cover). Contains l (record { place = p; stands = stands; shown = w })) none has in omega (arith, lt.1))

pub met-shows : (a : Actor) (p w : ℕ) → a.flight.covers ≡ [] → HasMet a p w → Shows a p w
met-shows a p w none has = met (subst (λ (l : List Cover). IsBare l p) (sym none) (λ k d lt. absurd (omega (arith, lt)))) has

-- ---- whether a slot must be recorded

pub leads-within : (m : Areas) (value : Datum) (word to : ℕ) → IsWordFor m value word → word ≡ 2 * (to + 1) → to < heap_length m
leads-within m datum.Null word to is e = absurd (omega (arith, is, e))
leads-within m (datum.Int i) word to is e = absurd (omega (arith, is, e))
leads-within m (datum.Object n) word to is e = omega (arith, is.1, is.2, e)

module _ (m : Areas) (a : Actor) (s : SpaceState) (sees : Sees m a s) where
  pub value-is : (k : ℕ) → slot_of s.graph a.thread k ≡ slot_told a k
  value-is k = ap (λ (t : Thread). slice_index_or t.stack k datum.Null) sees.agrees.has

  -- a slot's word that is a reference
  pub refers-to : (k to word : ℕ) → k < length a.told.stack → Shows a (slot_at m a.thread k) word → word ≡ 2 * (to + 1) → RefersTo m a k to
  refers-to k to word lt shows e = record {
    slot = lt;
    word = subst (λ w. Shows a (slot_at m a.thread k) w) e shows;
    within = leads-within m (slot_told a k) word to (sees.slots k word lt shows) e;
  }

  home-is : (k at : ℕ) (x : Space) → RefersTo m a k at → HasSpace m a at x → home_at s (slot_of s.graph a.thread k) ≡ Some x
  home-is k at x r has = ap (home_at s) (value-is k) ∙ sees.spaces k at x r has

  module _ (asked : Call) (at field word : ℕ) (st : StoresInto m a asked at field word) where
    crosses-in : Type 0
    crosses-in = Crosses (home_at s (slot_of s.graph a.thread st.slot)) (home_at s (slot_of s.graph a.thread st.from))

    pub must-record : MeetsCrossing m a at word → MustRecord s a.thread asked
    must-record c =
        let one : home_at s (slot_of s.graph a.thread st.slot) ≡ Some c.x = home-is st.slot at c.x st.refers c.from in
        let two : home_at s (slot_of s.graph a.thread st.from) ≡ Some c.y = home-is st.from c.to c.y (refers-to st.from c.to word st.there st.value c.leads) c.into in
        subst (MustRecord s a.thread) (sym st.call)
        (subst (λ (p : Option Space × Option Space). Crosses p.0 p.1) (λ i. (sym one i, sym two i)) c.crosses)

    no_object : (from to : Option Space) → to ≡ None → Crosses from to → ⊥
    no_object (Some x) to e c = subst (λ (q : Option Space). Crosses (Some x) q) e c
    no_object None to e c = c

    control : (from to : Option Space) → to ≡ Some Control → Crosses from to → ⊥
    control (Some x) to e c = (subst (λ (q : Option Space). Crosses (Some x) q) e c).0 refl
    control None to e c = c

    no_home : (value : Datum) → IsWordFor m value word → ((to : ℕ) → word ≢ 2 * (to + 1)) → home_at s value ≡ None
    no_home datum.Null is other = refl
    no_home (datum.Int i) is other = refl
    no_home (datum.Object n) is other = absurd (other is.0 is.2)

    pub must-not : MeetsNone m a at word → MustRecord s a.thread asked → ⊥
    must-not none must = go none (subst (MustRecord s a.thread) st.call must)
      where
        from : Option Space
        from = home_at s (slot_of s.graph a.thread st.slot)

        to : Option Space
        to = home_at s (slot_of s.graph a.thread st.from)

        go : MeetsNone m a at word → Crosses (home_at s (slot_of s.graph a.thread st.slot)) (home_at s (slot_of s.graph a.thread st.from)) → ⊥
        go (no_reference other) c = no_object _ _ (ap (home_at s) (value-is st.from) ∙ no_home (slot_told a st.from) (sees.slots st.from word st.there st.value) other) c
        go (in_control there e has) c = control _ _ (home-is st.from there Control (refers-to st.from there word st.there st.value e) has) c
        go (crosses_not there x y e has into never) c =
            never (subst (λ (p : Option Space × Option Space). Crosses p.0 p.1)
            (λ i. (home-is st.slot at x st.refers has i, home-is st.from there y (refers-to st.from there word st.there st.value e) into i)) c)
