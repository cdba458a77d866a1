-- Claims of pages.
use Rattle.std.proofs.Common.{◌≡◌, ℕ, ◌+◌, ◌≤◌, ◌<◌, List, [], ◌∷◌, ◌++◌, length, get_or, set, zero, suc, refl, sym, ap, subst, ◌∙◌, arith, inl, inr, length-set, get_or-set_same, get_or-set_other}
use Rattle.std.specs.List.{All, Contains}
use Rattle.std.proofs.lemmas.List.{append_assoc, drop-set-lt}
use Rattle.std.proofs.lemmas.List.Elements.{All-tail}
use Rattle.heap_words.specs.declared.map.Areas.{Areas}
use Rattle.heap_words.specs.declared.TheConstants.{HEAD_WORDS}
use Rattle.heap_words.specs.Map.{pool_at}
use Rattle.heap_words.specs.Contents.{Contents, buffer_of, contents, with_head}
use Rattle.heap_words.proofs.Contents.{contents-get_head, contents-get_pool, contents-set_head}
use Rattle.yak_model.specs.Spaces.{SpaceState}
use Rattle.yak_model.specs.State.{State, view}
use Rattle.yak_model.specs.Placed.{Places}
use Rattle.yak_model.specs.Stands.{PoolStands, StandsAs, claim_counter, free_pages, pool_length, unused_heads}
use Rattle.yak_model.specs.Recorded.{RecordedAs}
use Rattle.region_pages.specs.declared.TheConstants.{CLAIM_COUNTER, POOL_LENGTH}
use Rattle.region_pages.proofs.Claims.{Contains-behind, first_free, none_free}
use Rattle.region_pages.proofs.Shapes.{Shape, shape}
use Rattle.standing_calls.proofs.Logged.{recorded-same}
use Rattle.calls_in_flight.specs.Flight.{Cover, Flight, flight_at}
use Rattle.calls_in_flight.specs.Whole.{claimed_in, claims_in, completed, free_with, heads_with, laid, laid_all, pool_back, read_in, whole}
use Rattle.calls_in_flight.specs.Fits.{FlightFits, FlightsFit, StandInFlight}
use Rattle.calls_in_flight.specs.Stepped.{Puts, Stepped}
use Rattle.calls_in_flight.specs.Shared.{ClaimsNone, ClaimsPage, FindsPage}
use Rattle.calls_in_flight.proofs.Apart.{own-kept, own-more}
use Rattle.calls_in_flight.proofs.Claimed.{before, behind, claimed-at, claimed-put, claimed-same, claims-put}
use Rattle.calls_in_flight.proofs.Flights.{laid_all-bare, laid_all-set}
use Rattle.calls_in_flight.proofs.Grounds.{bare-outside, fit_at, fits-beside, fits-moved, fits-put, free_under, sound_under, under}
use Rattle.calls_in_flight.proofs.Pools.{AreFree, free-moved, free-put, pool-stands}
use Rattle.calls_in_flight.proofs.Quiet.{KeepsClaimed, keeps_same, keeps_set, mine-kept, puts_set, read-same, step-same, whole-same}

-- ---- words that differ by the pool alone

pub record Repooled (m : Areas) (c d : Contents) : Type 0 where
  pub rest : d ≡ record c { heads = d.heads; pool = d.pool }
  pub pool : PoolStands m d.heads d.pool c.table
  pub unused : unused_heads d.heads ≡ unused_heads c.heads

pub stands-repooled : (m : Areas) (c : Contents) (s : State) (l : Places) (heads pool : List ℕ) → StandsAs m c s l → PoolStands m heads pool c.table → unused_heads heads ≡ unused_heads c.heads → (let d : Contents = record c { heads = heads; pool = pool } in StandsAs m d s l)
stands-repooled m c s l heads pool h stand unused = record {
  heap = h.heap;
  open_spaces = h.open_spaces;
  closed = h.closed;
  stacks = h.stacks;
  depths = h.depths;
  made = h.made;
  serials = h.serials;
  threads = h.threads;
  names = h.names;
  limits = record { depths = h.limits.depths; stacks = h.limits.stacks; buffers = h.limits.buffers };
  zero = record { heads = subst (All (λ w. w ≡ 0)) (sym unused) h.zero.heads; blocks = h.zero.blocks };
  pool = stand;
  currents = h.currents;
  sets = h.sets;
  heads_closed = h.heads_closed;
  dense = h.dense;
}

pub recorded-repooled : (m : Areas) (c : Contents) (s : State) (l : Places) (heads pool : List ℕ) → RecordedAs m c s l.at → (let d : Contents = record c { heads = heads; pool = pool } in RecordedAs m d s l.at)
recorded-repooled m c s l heads pool r =
    let d : Contents = record c { heads = heads; pool = pool } in
    recorded-same m c d s l.at (record { filed = record { firsts = refl; sets = refl }; buffers = refl; readers = refl }) r

-- the words stand as before where they differ by the pool alone
pub step-repooled : (m : Areas) (ws now : List ℕ) (fs gs : List Flight) (i : ℕ) (s : SpaceState) (h : StandInFlight m ws fs s) → Puts fs gs i → KeepsClaimed fs gs i → FlightsFit m now gs → Repooled m (whole m ws fs) (whole m now gs) → Stepped m ws now fs gs i s h [] 0
step-repooled m ws now fs gs i s h puts more fit re =
    let c : Contents = whole m ws fs in
    let d : Contents = whole m now gs in
    let l : Places = h.stands.places in
    let stands = stands-repooled m c (view s) l d.heads d.pool h.stands.stands re.pool re.unused in
    let recorded = recorded-repooled m c (view s) l d.heads d.pool h.recorded in
    let e = re.rest in
    record {
      after = s;
      turns = refl;
      later = record {
        fit = fit;
        stands = record {
          whole = h.stands.whole;
          places = l;
          stands = subst (λ (x : Contents). StandsAs m x (view s) l) (sym re.rest) stands;
        };
        recorded = subst (λ (x : Contents). RecordedAs m x (view s) l.at) (sym re.rest) recorded;
      };
      places = record { kept = λ n o is. (o, is, refl, refl, refl) };
      flights = puts;
      mine = λ b low own. mine-kept m c d fs gs i b puts more (ap (λ (x : Contents). x.currents) e) (ap (λ (x : Contents). x.table) e) own;
      own = λ j b lj ne own. own-kept m c d (flight_at fs j) b (ap (λ (x : Contents). x.currents) e) (ap (λ (x : Contents). x.table) e) own;
      buffers = λ j lj ne. ap (λ (x : Contents). buffer_of x (flight_at fs j).thread) e;
      logged = omega (arith, ap (λ (x : Contents). length (buffer_of x (flight_at fs i).thread)) e);
      table = λ z. ap (λ (x : Contents). x.table) e;
    }

pub heads_with-unused : (ps heads pool : List ℕ) → unused_heads (heads_with ps heads pool) ≡ unused_heads heads
heads_with-unused [] heads pool = refl
heads_with-unused (p ∷ ps) heads pool =
    let n : ℕ = length (free_with (p ∷ ps) heads pool) in
    drop-set-lt 3 (set heads CLAIM_COUNTER 0) POOL_LENGTH n (omega arith) ∙ drop-set-lt 3 heads CLAIM_COUNTER 0 (omega arith)

-- ---- calls in flight that cover the same

pub laid_all-same : (fs : List Flight) (i : ℕ) (f : Flight) (ws : List ℕ) → f.covers ≡ (flight_at fs i).covers → laid_all (set fs i f) ws ≡ laid_all fs ws
laid_all-same [] i f ws e = refl
laid_all-same (g ∷ fs) zero f ws e = ap (λ (ks : List Cover). laid ks (laid_all fs ws)) e
laid_all-same (g ∷ fs) (suc i) f ws e = ap (laid g.covers) (laid_all-same fs i f ws e)

-- ---- a page that is found

-- no more claims may come than threads are inside
claims-few : (m : Areas) (ws : List ℕ) (c : Contents) (fs : List Flight) → All (FlightFits m ws c) fs → claims_in fs ≤ length fs
claims-few m ws c [] h = omega arith
claims-few m ws c (f ∷ fs) h = omega (arith, (h 0 f (omega arith)).claims, claims-few m ws c fs (All-tail (FlightFits m ws c) f fs h))

pub head-word : (m : Areas) (ws : List ℕ) (fs : List Flight) (s : SpaceState) (k : ℕ) → StandInFlight m ws fs s → k < HEAD_WORDS → get_or ws k 0 ≡ get_or (under m ws fs).heads k 0
head-word m ws fs s k h lt = sym (laid_all-bare fs ws k (bare-outside m ws fs s k h.fit h.stands (inl lt))) ∙ contents-get_head m (laid_all fs ws) k lt

pub finds-keep : (m : Areas) (ws : List ℕ) (fs : List Flight) (s : SpaceState) (i : ℕ) (f : Flight) (h : StandInFlight m ws fs s) → FindsPage ws fs i f → Stepped m ws ws fs (set fs i f) i s h [] 0
finds-keep m ws fs s i f h finds =
    let F : Flight = flight_at fs i in
    let lt = finds.inside in
    let c : Contents = whole m ws fs in
    let laid_same : laid_all (set fs i f) ws ≡ laid_all fs ws = laid_all-same fs i f ws (ap (λ (x : Flight). x.covers) finds.after) in
    let et : f.thread ≡ F.thread = ap (λ (x : Flight). x.thread) finds.after in
    let one : f.claims ≡ 1 = ap (λ (x : Flight). x.claims) finds.after in
    let same : whole m ws (set fs i f) ≡ whole m ws fs = whole-same m ws ws fs i f lt et (ap (λ (x : Flight). x.claimed) finds.after) (ap (λ (x : Flight). x.reading) finds.after) laid_same in
    let was = fit_at m ws fs i h.fit lt in
    let heads : (under m ws (set fs i f)).heads ≡ (under m ws fs).heads = ap (λ (xs : List ℕ). (contents m xs).heads) laid_same in
    let claims : claims_in (set fs i f) ≡ claims_in fs + 1 = omega (arith, claims-put fs i f lt, one, finds.none) in
    let few = claims-few m ws c fs h.fit.fit in
    let few' : claims_in fs + 1 ≤ length fs + 1 = omega (arith, few) in
    let below : claim_counter (under m ws fs).heads < pool_length (under m ws fs).heads = omega (arith, finds.below, head-word m ws fs s 1 h (omega arith), head-word m ws fs s 2 h (omega arith)) in
    let fit : FlightFits m ws c (record F { claims = 1 }) = record { thread = was.thread; own = was.own; once = was.once; stand = was.stand; reading = was.reading; claims = omega arith } in
    let back : (g : Flight) → FlightFits m ws c g → FlightFits m ws (whole m ws (set fs i f)) g = λ g x. subst (λ (d : Contents). FlightFits m ws d g) (sym same) x in
    step-same m ws ws fs (set fs i f) i s h (puts_set fs i f lt et) (keeps_same fs i f lt (ap (λ (x : Flight). x.claimed) finds.after))
    (fits-put m ws ws fs i f h.fit lt et refl (back f (subst (FlightFits m ws c) (sym finds.after) fit)) (λ j lj ne. back (flight_at fs j) (fit_at m ws fs j h.fit lj)) (rw heads h.fit.within) (rw (heads, claims) (omega (arith, below, few, h.fit.few))))
    same

-- ---- the counter raised

raised : (m : Areas) (ws : List ℕ) (fs : List Flight) (s : SpaceState) (i n : ℕ) (f : Flight) → StandInFlight m ws fs s → f.covers ≡ (flight_at fs i).covers → under m (set ws CLAIM_COUNTER (n + 1)) (set fs i f) ≡ with_head (under m ws fs) CLAIM_COUNTER (n + 1)
raised m ws fs s i n f h e =
    ap (contents m) (laid_all-same fs i f (set ws CLAIM_COUNTER (n + 1)) e ∙ laid_all-set fs ws CLAIM_COUNTER (n + 1) (bare-outside m ws fs s CLAIM_COUNTER h.fit h.stands (inl (omega arith))))
    ∙ contents-set_head m (laid_all fs ws) CLAIM_COUNTER (n + 1) (omega arith)

-- other calls in flight fit afterwards
beside-raised : (m : Areas) (ws : List ℕ) (fs : List Flight) (s : SpaceState) (n j : ℕ) (d : Contents) → StandInFlight m ws fs s → j < length fs → d.currents ≡ (whole m ws fs).currents → d.table ≡ (whole m ws fs).table → FlightFits m (set ws CLAIM_COUNTER n) d (flight_at fs j)
beside-raised m ws fs s n j d h lj ec et =
    let g : Flight = flight_at fs j in
    fits-moved m (set ws CLAIM_COUNTER n) (whole m ws fs) d g (λ a o. own-kept m (whole m ws fs) d g a ec et o) (fits-beside m ws (whole m ws fs) g CLAIM_COUNTER n (bare-outside m ws fs s CLAIM_COUNTER h.fit h.stands (inl (omega arith)) j lj) (fit_at m ws fs j h.fit lj))

-- what the words hold once the counter is raised
abbrev held : Areas → List ℕ → List Flight → List Flight → ℕ → Contents
held m ws fs gs n = completed gs (with_head (under m ws fs) CLAIM_COUNTER (n + 1))

-- the words stand as before where the claimed pages and those left in the pool are the free pages again
raised-keep : (m : Areas) (ws : List ℕ) (fs : List Flight) (s : SpaceState) (i n : ℕ) (f : Flight) (h : StandInFlight m ws fs s) → i < length fs → ((p : ℕ) → Contains (flight_at fs i).claimed p → Contains f.claimed p) → f.covers ≡ (flight_at fs i).covers → f.thread ≡ (flight_at fs i).thread → f.reading ≡ (flight_at fs i).reading → (flight_at fs i).claims ≡ 1 → f.claims ≡ 0 → claim_counter (under m ws fs).heads ≡ n → (let u = under m ws fs in AreFree m (free_with (claimed_in (set fs i f)) (set u.heads CLAIM_COUNTER (n + 1)) u.pool) u.table) → FlightFits m (set ws CLAIM_COUNTER (n + 1)) (held m ws fs (set fs i f) n) f → Stepped m ws (set ws CLAIM_COUNTER (n + 1)) fs (set fs i f) i s h [] 0
raised-keep m ws fs s i n f h lt more covers et er may spent counter new fit =
    let u : Contents = under m ws fs in
    let c : Contents = whole m ws fs in
    let now : List ℕ = set ws CLAIM_COUNTER (n + 1) in
    let gs : List Flight = set fs i f in
    let sh : Shape m u = shape m (laid_all fs ws) (sound_under m ws fs s h.fit h.stands) in
    let e : under m now gs ≡ with_head u CLAIM_COUNTER (n + 1) = raised m ws fs s i n f h covers in
    let readers : read_in gs u.readers ≡ read_in fs u.readers = read-same fs i f u.readers et er in
    let heads : List ℕ = set u.heads CLAIM_COUNTER (n + 1) in
    let count : claim_counter heads ≡ n + 1 = get_or-set_same u.heads 1 (n + 1) 0 (omega (arith, sh.heads)) in
    let size : pool_length heads ≡ pool_length u.heads = get_or-set_other u.heads 1 2 (n + 1) 0 (omega arith) in
    let sum : claims_in gs + 1 ≡ claims_in fs = omega (arith, claims-put fs i f lt, may, spent) in
    let within : pool_length heads ≤ m.pages = omega (arith, size, h.fit.within) in
    let passed : claim_counter heads + claims_in gs ≤ pool_length heads + m.threads = omega (arith, count, size, sum, counter, h.fit.passed) in
    let pool : PoolStands m (heads_with (claimed_in gs) heads u.pool) (pool_back (claimed_in gs) heads u.pool) u.table = pool-stands m (claimed_in gs) heads u.pool u.table (length-set u.heads 1 (n + 1) ∙ sh.heads) within (omega (arith, passed)) new in
    let d : Contents = held m ws fs gs n in
    let is : whole m now gs ≡ d = ap (completed gs) e in
    let re : Repooled m c d = record {
      rest = ap (λ (rs : List (List ℕ)). record u { heads = d.heads; pool = d.pool; readers = rs }) readers;
      pool = pool;
      unused = heads_with-unused (claimed_in gs) heads u.pool ∙ drop-set-lt 3 u.heads 1 (n + 1) (omega arith) ∙ sym (heads_with-unused (claimed_in fs) u.heads u.pool);
    } in
    let whole_fit : (g : Flight) → FlightFits m now d g → FlightFits m now (whole m now gs) g = λ g x. subst (λ (y : Contents). FlightFits m now y g) (sym is) x in
    let heads_is : (under m now gs).heads ≡ heads = ap (λ (x : Contents). x.heads) e in
    step-repooled m ws now fs gs i s h (puts_set fs i f lt et) (keeps_set fs i f lt more)
    (fits-put m ws now fs i f h.fit lt et (length-set ws CLAIM_COUNTER (n + 1)) (whole_fit f fit) (λ j lj ne. whole_fit (flight_at fs j) (beside-raised m ws fs s (n + 1) j d h lj refl refl)) (rw heads_is within) (rw heads_is passed))
    (subst (Repooled m c) (sym is) re)

-- the claimed page and the pages that are left
pub page_taken : (m : Areas) (ws : List ℕ) (fs : List Flight) (s : SpaceState) (i n : ℕ) (f : Flight) → StandInFlight m ws fs s → ClaimsPage m ws fs i n f → (let u = under m ws fs in (claim_counter u.heads ≡ n) × (free_pages u.heads u.pool ≡ get_or ws (pool_at m + n) 0 ∷ free_pages (set u.heads CLAIM_COUNTER (n + 1)) u.pool))
page_taken m ws fs s i n f h claims =
    let u : Contents = under m ws fs in
    let sh : Shape m u = shape m (laid_all fs ws) (sound_under m ws fs s h.fit h.stands) in
    let counter : claim_counter u.heads ≡ n = sym (head-word m ws fs s 1 h (omega arith)) ∙ claims.counter in
    let size : pool_length u.heads ≡ get_or ws 2 0 = sym (head-word m ws fs s 2 h (omega arith)) in
    let below : claim_counter u.heads < pool_length u.heads = omega (arith, counter, size, claims.below) in
    let in_pool : n < m.pages = omega (arith, counter, below, h.fit.within) in
    let heads : List ℕ = set u.heads CLAIM_COUNTER (n + 1) in
    let read : get_or u.pool n 0 ≡ get_or ws (pool_at m + n) 0 = sym (contents-get_pool m (laid_all fs ws) n in_pool) ∙ laid_all-bare fs ws (pool_at m + n) (bare-outside m ws fs s (pool_at m + n) h.fit h.stands (inr (omega arith, omega (arith, in_pool)))) in
    (counter, first_free u.heads u.pool sh.heads below (omega (arith, sh.pool, h.fit.within)) ∙ ap (λ k. get_or u.pool k 0 ∷ free_pages (set u.heads 1 (k + 1)) u.pool) counter ∙ ap (λ x. x ∷ free_pages heads u.pool) read)

pub claims-keep : (m : Areas) (ws : List ℕ) (fs : List Flight) (s : SpaceState) (i n : ℕ) (f : Flight) (h : StandInFlight m ws fs s) → ClaimsPage m ws fs i n f → Stepped m ws (set ws CLAIM_COUNTER (n + 1)) fs (set fs i f) i s h [] 0
claims-keep m ws fs s i n f h claims =
    let F : Flight = flight_at fs i in
    let lt = claims.inside in
    let u : Contents = under m ws fs in
    let c : Contents = whole m ws fs in
    let gs : List Flight = set fs i f in
    let p : ℕ = get_or ws (pool_at m + n) 0 in
    let taken = page_taken m ws fs s i n f h claims in
    let rest : List ℕ = free_pages (set u.heads CLAIM_COUNTER (n + 1)) u.pool in
    let own : List ℕ = F.claimed ++ behind fs i in
    let old : AreFree m ((before fs i ++ own) ++ p ∷ rest) u.table = subst (λ (xs : List ℕ). AreFree m (xs ++ p ∷ rest) u.table) (claimed-at fs i lt) (subst (λ (xs : List ℕ). AreFree m (claimed_in fs ++ xs) u.table) taken.1 (free_under m ws fs s h.fit h.stands)) in
    let front : AreFree m (p ∷ (before fs i ++ (own ++ rest))) u.table = subst (λ (xs : List ℕ). AreFree m (p ∷ xs) u.table) (append_assoc (before fs i) own rest) (free-moved m (before fs i ++ own) rest p u.table old) in
    let moved : AreFree m (before fs i ++ p ∷ (own ++ rest)) u.table = free-put m (before fs i) (own ++ rest) p u.table front in
    let claimed : claimed_in gs ≡ before fs i ++ (p ∷ own) = claimed-put fs i f lt ∙ ap (λ (x : Flight). before fs i ++ (x.claimed ++ behind fs i)) claims.after in
    let new : AreFree m (claimed_in gs ++ rest) u.table = subst (λ (xs : List ℕ). AreFree m (xs ++ rest) u.table) (sym claimed) (subst (λ (xs : List ℕ). AreFree m xs u.table) (sym (append_assoc (before fs i) (p ∷ own) rest)) moved) in
    let d : Contents = held m ws fs gs n in
    let was = fit_at m ws fs i h.fit lt in
    let kept = fits-beside m ws c F CLAIM_COUNTER (n + 1) (bare-outside m ws fs s CLAIM_COUNTER h.fit h.stands (inl (omega arith)) i lt) was in
    let fit : FlightFits m (set ws CLAIM_COUNTER (n + 1)) d (record F { claimed = p ∷ F.claimed; claims = 0 }) = record {
      thread = was.thread;
      own = λ k x lk. own-more m d F.thread F.claimed (p ∷ F.claimed) (get_or F.covers k x).place (λ q a. Contains-behind F.claimed p q a) (own-kept m c d F (get_or F.covers k x).place refl refl (was.own k x lk));
      once = was.once;
      stand = kept.stand;
      reading = was.reading;
      claims = omega arith;
    } in
    raised-keep m ws fs s i n f h lt (λ q a. subst (λ (x : Flight). Contains x.claimed q) (sym claims.after) (Contains-behind F.claimed p q a)) (ap (λ (x : Flight). x.covers) claims.after) (ap (λ (x : Flight). x.thread) claims.after) (ap (λ (x : Flight). x.reading) claims.after) claims.may (ap (λ (x : Flight). x.claims) claims.after) taken.0 new (subst (FlightFits m (set ws CLAIM_COUNTER (n + 1)) d) (sym claims.after) fit)

-- no page was left
pub none-keep : (m : Areas) (ws : List ℕ) (fs : List Flight) (s : SpaceState) (i n : ℕ) (f : Flight) (h : StandInFlight m ws fs s) → ClaimsNone ws fs i n f → Stepped m ws (set ws CLAIM_COUNTER (n + 1)) fs (set fs i f) i s h [] 0
none-keep m ws fs s i n f h none =
    let F : Flight = flight_at fs i in
    let lt = none.inside in
    let u : Contents = under m ws fs in
    let c : Contents = whole m ws fs in
    let gs : List Flight = set fs i f in
    let sh : Shape m u = shape m (laid_all fs ws) (sound_under m ws fs s h.fit h.stands) in
    let heads : List ℕ = set u.heads CLAIM_COUNTER (n + 1) in
    let counter : claim_counter u.heads ≡ n = sym (head-word m ws fs s 1 h (omega arith)) ∙ none.counter in
    let size : pool_length u.heads ≡ get_or ws 2 0 = sym (head-word m ws fs s 2 h (omega arith)) in
    let count : claim_counter heads ≡ n + 1 = get_or-set_same u.heads 1 (n + 1) 0 (omega (arith, sh.heads)) in
    let size' : pool_length heads ≡ pool_length u.heads = get_or-set_other u.heads 1 2 (n + 1) 0 (omega arith) in
    let left : free_pages heads u.pool ≡ free_pages u.heads u.pool = none_free heads u.pool (omega (arith, count, size', size, none.past)) ∙ sym (none_free u.heads u.pool (omega (arith, counter, size, none.past))) in
    let claimed : claimed_in gs ≡ claimed_in fs = claimed-same fs i f lt (ap (λ (x : Flight). x.claimed) none.after) in
    let new : AreFree m (claimed_in gs ++ free_pages heads u.pool) u.table = subst (λ (xs : List ℕ). AreFree m (xs ++ free_pages heads u.pool) u.table) (sym claimed) (subst (λ (xs : List ℕ). AreFree m (claimed_in fs ++ xs) u.table) (sym left) (free_under m ws fs s h.fit h.stands)) in
    let d : Contents = held m ws fs gs n in
    let was = fit_at m ws fs i h.fit lt in
    let kept = fits-beside m ws c F CLAIM_COUNTER (n + 1) (bare-outside m ws fs s CLAIM_COUNTER h.fit h.stands (inl (omega arith)) i lt) was in
    let fit : FlightFits m (set ws CLAIM_COUNTER (n + 1)) d (record F { claims = 0 }) = record {
      thread = was.thread;
      own = λ k x lk. own-kept m c d F (get_or F.covers k x).place refl refl (was.own k x lk);
      once = was.once;
      stand = kept.stand;
      reading = was.reading;
      claims = omega arith;
    } in
    raised-keep m ws fs s i n f h lt (λ q a. subst (λ (x : Flight). Contains x.claimed q) (sym none.after) a) (ap (λ (x : Flight). x.covers) none.after) (ap (λ (x : Flight). x.thread) none.after) (ap (λ (x : Flight). x.reading) none.after) none.may (ap (λ (x : Flight). x.claims) none.after) counter new (subst (FlightFits m (set ws CLAIM_COUNTER (n + 1)) d) (sym none.after) fit)
