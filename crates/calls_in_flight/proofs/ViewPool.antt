-- Steps by a view on words that threads share: the pool's words, a claim, and a reader's bit.
use Rattle.std.proofs.Common.{◌≡◌, ◌≢◌, ℕ, ◌+◌, ◌-◌, ◌^◌, ◌≤◌, ◌<◌, List, [], ◌∷◌, None, get_or, set, bit_or, refl, sym, ap, subst, ◌∙◌, arith, inr, get_or-set_same}
use Rattle.std.specs.List.{All, Contains}
use Rattle.std.proofs.lemmas.Bool.{cases_eq, cases_lt}
use Rattle.std.proofs.Math.Logic.{⊎_elim}
use Rattle.heap_words.specs.declared.map.Areas.{Areas}
use Rattle.heap_words.specs.Map.{HasRegion, all_readers_at, heap_at, pool_at, readers_at, total_of}
use Rattle.heap_words.specs.Contents.{Contents}
use Rattle.yak_model.specs.Spaces.{SpaceState}
use Rattle.yak_model.specs.State.{view}
use Rattle.yak_model.specs.Stands.{free_pages}
use Rattle.region_pages.specs.declared.TheConstants.{CLAIM_COUNTER, POOL_LENGTH}
use Rattle.calls_in_flight.specs.Actors.{Actor, HasMet, learn}
use Rattle.calls_in_flight.specs.Differing.{DiffersOnly, MayDiffer}
use Rattle.calls_in_flight.specs.FieldSteps.{MayLoadPool, MayRead, counter, entry, size}
use Rattle.calls_in_flight.specs.Fits.{StandInFlight}
use Rattle.calls_in_flight.specs.Flight.{Flight, Reading, at_rest, flight_at}
use Rattle.calls_in_flight.specs.Kinds.{IsStep, claims, finds, looks, misses, reads}
use Rattle.calls_in_flight.specs.Knowing.{IsLasting, IsSteady, Known, Knows, pool_entry, pool_size}
use Rattle.calls_in_flight.specs.Shared.{BecomesReader, ClaimsNone, ClaimsPage, FindsPage}
use Rattle.calls_in_flight.specs.Whole.{claimed_in}
use Rattle.calls_in_flight.proofs.Acting.{Acts, ClaimsPool, IsPlace, LoadsPool, Moves, SetsReader, place_of}
use Rattle.calls_in_flight.proofs.Claims.{head-word, page_taken}
use Rattle.calls_in_flight.proofs.Grounds.{fit_at, free_under, under}
use Rattle.std.proofs.lemmas.List.Elements.{Contains-append_right, All-contains}
use Rattle.calls_in_flight.proofs.ViewActs.{contains-behind, contains-front, differ-kept, inside, knows-beside_put, knows-looked, lasting-area, learn-all, moves-on, word-met}

-- in what the words differ stays so where the covers do
pub differs-same : (m : Areas) (a : Actor) (f : Flight) (lasting : List Known) → DiffersOnly m a → f.covers ≡ a.flight.covers → ((p : ℕ) → Contains a.flight.claimed p → Contains f.claimed p) → All (MayDiffer m (record { thread = a.thread; told = a.told; flight = f; lasting = lasting })) f.covers
differs-same m a f lasting differs e more =
    let b : Actor = record { thread = a.thread; told = a.told; flight = f; lasting = lasting } in
    subst (All (MayDiffer m b)) (sym e) (λ j d lj. differ-kept m a b (get_or a.flight.covers j d) refl refl more (differs j d lj))

-- ---- loads of the pool's words

-- a load of which nothing comes
looked : (m : Areas) (ws : List ℕ) (fs : List Flight) (s : SpaceState) (h : StandInFlight m ws fs s) (a : Actor) (lasting : List Known) → Acts m ws fs s h a → Knows m ws fs s h (place_of a) lasting → Moves m ws ws fs fs s h a a.flight [] 0 lasting
looked m ws fs s h a lasting acts knows =
    moves-on m ws ws fs fs s h a a.flight 0 lasting acts (looks (inside m ws fs s h a acts)) acts.flight (λ st. knows-looked m ws fs fs s h (place_of a) 0 lasting st knows) (differs-same m a a.flight lasting acts.differs refl (λ p c. c))

-- and one that gives the right to claim
found : (m : Areas) (ws : List ℕ) (fs : List Flight) (s : SpaceState) (h : StandInFlight m ws fs s) (a : Actor) → Acts m ws fs s h a → a.flight.claims ≡ 0 → get_or ws CLAIM_COUNTER 0 < get_or ws POOL_LENGTH 0 → (let f : Flight = record a.flight { claims = 1 } in Moves m ws ws fs (set fs (place_of a) f) s h a f [] 0 a.lasting)
found m ws fs s h a acts none below =
    let i : ℕ = place_of a in
    let li = inside m ws fs s h a acts in
    let f : Flight = record a.flight { claims = 1 } in
    let finding : FindsPage ws fs i f = record {
      inside = li;
      none = ap (λ (x : Flight). x.claims) acts.flight ∙ none;
      below = below;
      after = ap (λ (x : Flight). record x { claims = 1 }) (sym acts.flight);
    } in
    moves-on m ws ws fs (set fs i f) s h a f 0 a.lasting acts (finds f finding) (get_or-set_same fs i f (at_rest 0) li) (λ st. knows-looked m ws fs (set fs i f) s h i 0 a.lasting st acts.knows) (differs-same m a f a.lasting acts.differs refl (λ p c. c))

size_met : (m : Areas) (ws : List ℕ) (fs : List Flight) (s : SpaceState) (h : StandInFlight m ws fs s) (a : Actor) → Acts m ws fs s h a → (n : ℕ) → HasMet a POOL_LENGTH n → n ≡ get_or ws POOL_LENGTH 0
size_met m ws fs s h a acts n has = sym (word-met m ws fs s h a POOL_LENGTH n acts has).0

loads_counter : (m : Areas) (ws : List ℕ) (fs : List Flight) (s : SpaceState) (h : StandInFlight m ws fs s) (a : Actor) → Acts m ws fs s h a → LoadsPool m ws fs s h a CLAIM_COUNTER
loads_counter m ws fs s h a acts =
    let word : ℕ = get_or ws CLAIM_COUNTER 0 in
    let length_word : ℕ = get_or ws POOL_LENGTH 0 in
    let at : IsPlace m CLAIM_COUNTER = (omega arith, omega arith) in
    let again : (was : ℕ) → HasMet a CLAIM_COUNTER was → word ≡ was = λ was has. (word-met m ws fs s h a CLAIM_COUNTER was acts has).0 in
    ⊎_elim
    (λ (lt : word < length_word). ⊎_elim
    (λ (none : a.flight.claims ≡ 0). record {
      is_place = at;
      again = again;
      flight = record a.flight { claims = 1 };
      others = set fs (place_of a) (record a.flight { claims = 1 });
      lasting = a.lasting;
      moves = found m ws fs s h a acts none lt;
      pool = record {
        counter = λ e. (refl, (length_word, size_met m ws fs s h a acts, (λ below. refl), (λ le. absurd (omega (arith, lt, le)))));
        other = λ ne. absurd (ne refl);
      };
    })
    (λ (some : a.flight.claims ≢ 0).
    let one : a.flight.claims ≡ 1 = omega (arith, some, (fit_at m ws fs (place_of a) h.fit (inside m ws fs s h a acts)).claims, ap (λ (x : Flight). x.claims) acts.flight) in
    record {
      is_place = at;
      again = again;
      flight = a.flight;
      others = fs;
      lasting = a.lasting;
      moves = looked m ws fs s h a a.lasting acts acts.knows;
      pool = record {
        counter = λ e. (refl, (length_word, size_met m ws fs s h a acts, (λ below. ap (λ n. record a.flight { claims = n }) one), (λ le. absurd (omega (arith, lt, le)))));
        other = λ ne. absurd (ne refl);
      };
    })
    (cases_eq a.flight.claims 0))
    (λ (le : length_word ≤ word). record {
      is_place = at;
      again = again;
      flight = a.flight;
      others = fs;
      lasting = a.lasting;
      moves = looked m ws fs s h a a.lasting acts acts.knows;
      pool = record {
        counter = λ e. (refl, (length_word, size_met m ws fs s h a acts, (λ lt. absurd (omega (arith, lt, le))), (λ past. refl)));
        other = λ ne. absurd (ne refl);
      };
    })
    (cases_lt word length_word)

-- a word of the pool that lasts
loads_steady : (m : Areas) (ws : List ℕ) (fs : List Flight) (s : SpaceState) (h : StandInFlight m ws fs s) (a : Actor) (place : ℕ) → Acts m ws fs s h a → IsPlace m place → place ≢ CLAIM_COUNTER → IsSteady m (view s) h.stands.places.at place → LoadsPool m ws fs s h a place
loads_steady m ws fs s h a place acts at far steady =
    let word : ℕ = get_or ws place 0 in
    let K : Known → Type 0 = λ k. (get_or ws k.place 0 ≡ k.word) × IsLasting m ws fs s h (place_of a) k.place in
    let knows : Knows m ws fs s h (place_of a) (learn place word a.lasting) = learn-all K place word a.lasting (refl, inr steady) (λ k c ne. All-contains K a.lasting k acts.knows c) in
    record {
      is_place = at;
      again = λ was has. (word-met m ws fs s h a place was acts has).0;
      flight = a.flight;
      others = fs;
      lasting = learn place word a.lasting;
      moves = looked m ws fs s h a (learn place word a.lasting) acts knows;
      pool = record { counter = λ e. absurd (far e); other = λ ne. (refl, refl) };
    }

pub loads_pool : (m : Areas) (ws : List ℕ) (fs : List Flight) (s : SpaceState) (h : StandInFlight m ws fs s) (a : Actor) (place : ℕ) → Acts m ws fs s h a → MayLoadPool m place → LoadsPool m ws fs s h a place
loads_pool m ws fs s h a place acts (counter e) = subst (LoadsPool m ws fs s h a) (sym e) (loads_counter m ws fs s h a acts)
loads_pool m ws fs s h a place acts (size e) = loads_steady m ws fs s h a place acts (omega (arith, e), omega (arith, e)) (λ z. omega (arith, e, z)) (pool_size e)
loads_pool m ws fs s h a place acts (entry k lt e) = loads_steady m ws fs s h a place acts (omega (arith, e), omega (arith, e, lt)) (λ z. omega (arith, e, z)) (pool_entry k lt e)

-- ---- a claim

-- what lasts lies beside the claim counter
beside_counter : (m : Areas) (ws : List ℕ) (fs : List Flight) (s : SpaceState) (h : StandInFlight m ws fs s) (a : Actor) (p : ℕ) → Acts m ws fs s h a → IsLasting m ws fs s h (place_of a) p → p ≢ CLAIM_COUNTER
beside_counter m ws fs s h a p acts lasts e = ⊎_elim
    (λ (x : (POOL_LENGTH ≤ p) × (p < all_readers_at m)). let r : ⊥ = omega (arith, x.0, e) in r)
    (λ (x : heap_at m ≤ p). let r : ⊥ = omega (arith, x, e) in r)
    (lasting-area m ws fs s h a p acts lasts)

all_beside : (m : Areas) (ws : List ℕ) (fs : List Flight) (s : SpaceState) (h : StandInFlight m ws fs s) (a : Actor) (known : List Known) → Acts m ws fs s h a → Knows m ws fs s h (place_of a) known → All (λ (k : Known). k.place ≢ CLAIM_COUNTER) known
all_beside m ws fs s h a known acts knows k d lk = beside_counter m ws fs s h a (get_or known k d).place acts (knows k d lk).1

pub claims_pool : (m : Areas) (ws : List ℕ) (fs : List Flight) (s : SpaceState) (h : StandInFlight m ws fs s) (a : Actor) → Acts m ws fs s h a → a.flight.claims ≡ 1 → ClaimsPool m ws fs s h a
claims_pool m ws fs s h a acts may =
    let i : ℕ = place_of a in
    let li = inside m ws fs s h a acts in
    let n : ℕ = get_or ws CLAIM_COUNTER 0 in
    let length_word : ℕ = get_or ws POOL_LENGTH 0 in
    let now : List ℕ = set ws CLAIM_COUNTER (n + 1) in
    let u : Contents = under m ws fs in
    let counted : n ≡ get_or u.heads 1 0 = head-word m ws fs s 1 h (omega arith) in
    let sized : length_word ≡ get_or u.heads 2 0 = head-word m ws fs s 2 h (omega arith) in
    let within : length_word ≤ m.pages = omega (arith, sized, h.fit.within) in
    let one : (flight_at fs i).claims ≡ 1 = ap (λ (x : Flight). x.claims) acts.flight ∙ may in
    let small : n + 1 < 2 ^ 64 = omega (arith, counted, h.fit.within, h.fit.passed, h.fit.areas.1, h.fit.areas.3) in
    let total : CLAIM_COUNTER < total_of m = omega arith in
    ⊎_elim
    (λ (lt : n < length_word).
    let page : ℕ = get_or ws (pool_at m + n) 0 in
    let f : Flight = record a.flight { claimed = page ∷ a.flight.claimed; claims = 0 } in
    let x : ClaimsPage m ws fs i n f = record {
      inside = li;
      may = one;
      counter = refl;
      below = lt;
      after = ap (λ (y : Flight). record y { claimed = page ∷ y.claimed; claims = 0 }) (sym acts.flight);
    } in
    let free : Contains (free_pages u.heads u.pool) page = subst (λ (xs : List ℕ). Contains xs page) (sym (page_taken m ws fs s i n f h x).1) (contains-front page (free_pages (set u.heads CLAIM_COUNTER (n + 1)) u.pool)) in
    let there : page < m.pages = (((free_under m ws fs s h.fit h.stands).free page).0 (Contains-append_right (claimed_in fs) (free_pages u.heads u.pool) page free)).0 in
    let lasting : List Known = learn (pool_at m + n) page a.lasting in
    let K : Known → Type 0 = λ k. (get_or ws k.place 0 ≡ k.word) × IsLasting m ws fs s h i k.place in
    let knows : Knows m ws fs s h i lasting = learn-all K (pool_at m + n) page a.lasting (refl, inr (pool_entry n (omega (arith, lt, within)) refl)) (λ k c ne. All-contains K a.lasting k acts.knows c) in
    record {
      small = small;
      flight = f;
      others = set fs i f;
      lasting = lasting;
      moves = moves-on m ws now fs (set fs i f) s h a f 0 lasting acts (claims n f x) (get_or-set_same fs i f (at_rest 0) li) (λ st. knows-beside_put m ws fs (set fs i f) s h i CLAIM_COUNTER (n + 1) 0 lasting st total knows (all_beside m ws fs s h a lasting acts knows)) (differs-same m a f lasting acts.differs refl (λ p c. contains-behind page p a.flight.claimed c));
      claims = record {
        size = length_word;
        met = size_met m ws fs s h a acts;
        takes = λ below. (page, there, refl, refl);
        misses = λ past. absurd (omega (arith, lt, past));
      };
    })
    (λ (le : length_word ≤ n).
    let f : Flight = record a.flight { claims = 0 } in
    let x : ClaimsNone ws fs i n f = record {
      inside = li;
      may = one;
      counter = refl;
      past = le;
      after = ap (λ (y : Flight). record y { claims = 0 }) (sym acts.flight);
    } in
    record {
      small = small;
      flight = f;
      others = set fs i f;
      lasting = a.lasting;
      moves = moves-on m ws now fs (set fs i f) s h a f 0 a.lasting acts (misses n f x) (get_or-set_same fs i f (at_rest 0) li) (λ st. knows-beside_put m ws fs (set fs i f) s h i CLAIM_COUNTER (n + 1) 0 a.lasting st total acts.knows (all_beside m ws fs s h a a.lasting acts acts.knows)) (differs-same m a f a.lasting acts.differs refl (λ p c. c));
      claims = record {
        size = length_word;
        met = size_met m ws fs s h a acts;
        takes = λ below. absurd (omega (arith, le, below));
        misses = λ past. (refl, refl);
      };
    })
    (cases_lt n length_word)

-- ---- a reader's bit

beside_readers : (m : Areas) (ws : List ℕ) (fs : List Flight) (s : SpaceState) (h : StandInFlight m ws fs s) (a : Actor) (p u d : ℕ) → Acts m ws fs s h a → HasRegion m u d → IsLasting m ws fs s h (place_of a) p → p ≢ readers_at m u d
beside_readers m ws fs s h a p u d acts region lasts e = ⊎_elim
    (λ (x : (POOL_LENGTH ≤ p) × (p < all_readers_at m)). let r : ⊥ = omega (arith, x.1, e) in r)
    (λ (x : heap_at m ≤ p). let r : ⊥ = omega (arith, x, e, region.0, region.1, region.2, region.3) in r)
    (lasting-area m ws fs s h a p acts lasts)

pub sets_reader : (m : Areas) (ws : List ℕ) (fs : List Flight) (s : SpaceState) (h : StandInFlight m ws fs s) (a : Actor) (owner depth : ℕ) → Acts m ws fs s h a → MayRead m a owner depth → SetsReader m ws fs s h a owner depth
sets_reader m ws fs s h a owner depth acts may =
    let i : ℕ = place_of a in
    let li = inside m ws fs s h a acts in
    let p : ℕ = readers_at m owner depth in
    let region = may.0 in
    let r : Reading = record { owner = owner; depth = depth } in
    let f : Flight = record a.flight { reading = None } in
    let w : ℕ = bit_or (get_or ws p 0) (2 ^ (a.thread - 1)) in
    let x : BecomesReader fs i r f = record {
      inside = li;
      pending = ap (λ (y : Flight). y.reading) acts.flight ∙ may.1;
      after = ap (λ (y : Flight). record y { reading = None }) (sym acts.flight);
    } in
    let step : IsStep m ws fs i (set ws p w) (set fs i f) [] 0 = subst (λ t. IsStep m ws fs i (set ws p (bit_or (get_or ws p 0) (2 ^ (t - 1)))) (set fs i f) [] 0) acts.numbered (reads r f x) in
    let within : p < total_of m = omega (arith, region.0, region.1, region.2, region.3) in
    record {
      is_place = (omega arith, within);
      others = set fs i f;
      moves = moves-on m ws (set ws p w) fs (set fs i f) s h a f 0 a.lasting acts step (get_or-set_same fs i f (at_rest 0) li) (λ st. knows-beside_put m ws fs (set fs i f) s h i p w 0 a.lasting st within acts.knows (λ k d lk. beside_readers m ws fs s h a (get_or a.lasting k d).place owner depth acts region (acts.knows k d lk).1)) (differs-same m a f a.lasting acts.differs refl (λ q c. c));
    }
