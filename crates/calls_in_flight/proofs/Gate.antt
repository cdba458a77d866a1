-- The gate's word, which no call in flight looks at.
use Rattle.std.proofs.Common.{◌≡◌, ℕ, ◌≤◌, List, [], ◌++◌, set, refl, sym, ap, subst, ◌∙◌, arith, inl, length-set, get_or-set_other}
use Rattle.std.proofs.lemmas.List.{drop-set-lt}
use Rattle.std.proofs.lemmas.List.Elements.{All-from_get_or}
use Rattle.heap_words.specs.declared.map.Areas.{Areas}
use Rattle.heap_words.specs.Contents.{Contents, contents, with_head}
use Rattle.heap_words.proofs.Contents.{contents-set_head}
use Rattle.yak_model.specs.Spaces.{SpaceState}
use Rattle.yak_model.specs.Stands.{PoolStands, claim_counter, free_pages, pool_length}
use Rattle.region_pages.proofs.Shapes.{Shape, shape}
use Rattle.calls_in_flight.specs.Flight.{Flight, at_rest, flight_at}
use Rattle.calls_in_flight.specs.Whole.{claimed_in, completed, free_with, heads_with, laid_all, pool_back, whole}
use Rattle.calls_in_flight.specs.Fits.{FlightFits, FlightsFit, StandInFlight}
use Rattle.calls_in_flight.specs.Stepped.{Stepped}
use Rattle.calls_in_flight.proofs.Apart.{own-kept}
use Rattle.calls_in_flight.proofs.Claims.{Repooled, heads_with-unused, step-repooled}
use Rattle.calls_in_flight.proofs.Flights.{laid_all-set}
use Rattle.calls_in_flight.proofs.Grounds.{bare-outside, fit_at, fits-beside, fits-moved, free_under, sound_under, under}
use Rattle.calls_in_flight.proofs.Pools.{AreFree, pool-stands}
use Rattle.calls_in_flight.proofs.Quiet.{puts_still}

-- the words stand as before whatever is stored in the gate's word
pub gate-keep : (m : Areas) (ws : List ℕ) (fs : List Flight) (i v : ℕ) (s : SpaceState) (h : StandInFlight m ws fs s) → Stepped m ws (set ws 0 v) fs fs i s h [] 0
gate-keep m ws fs i v s h =
    let u : Contents = under m ws fs in
    let c : Contents = whole m ws fs in
    let now : List ℕ = set ws 0 v in
    let sh : Shape m u = shape m (laid_all fs ws) (sound_under m ws fs s h.fit h.stands) in
    let bare = bare-outside m ws fs s 0 h.fit h.stands (inl (omega arith)) in
    let heads : List ℕ = set u.heads 0 v in
    let e : under m now fs ≡ with_head u 0 v = ap (contents m) (laid_all-set fs ws 0 v bare) ∙ contents-set_head m (laid_all fs ws) 0 v (omega arith) in
    let claims : claim_counter heads ≡ claim_counter u.heads = get_or-set_other u.heads 0 1 v 0 (omega arith) in
    let size : pool_length heads ≡ pool_length u.heads = get_or-set_other u.heads 0 2 v 0 (omega arith) in
    let free : free_pages heads u.pool ≡ free_pages u.heads u.pool = rw (claims, size) refl in
    let new : AreFree m (free_with (claimed_in fs) heads u.pool) u.table = subst (λ (xs : List ℕ). AreFree m (claimed_in fs ++ xs) u.table) (sym free) (free_under m ws fs s h.fit h.stands) in
    let within : pool_length heads ≤ m.pages = omega (arith, size, h.fit.within) in
    let pool : PoolStands m (heads_with (claimed_in fs) heads u.pool) (pool_back (claimed_in fs) heads u.pool) u.table = pool-stands m (claimed_in fs) heads u.pool u.table (length-set u.heads 0 v ∙ sh.heads) within (omega (arith, claims, size, h.fit.passed)) new in
    let d : Contents = completed fs (with_head u 0 v) in
    let is : whole m now fs ≡ d = ap (completed fs) e in
    let re : Repooled m c d = record {
      rest = refl;
      pool = pool;
      unused = heads_with-unused (claimed_in fs) heads u.pool ∙ drop-set-lt 3 u.heads 0 v (omega arith) ∙ sym (heads_with-unused (claimed_in fs) u.heads u.pool);
    } in
    let heads_is : (under m now fs).heads ≡ heads = ap (λ (x : Contents). x.heads) e in
    let D : Contents = whole m now fs in
    let fit : FlightsFit m now fs = record {
      areas = h.fit.areas;
      long = length-set ws 0 v ∙ h.fit.long;
      fit = All-from_get_or (FlightFits m now D) fs (at_rest 0) (λ q lq. fits-moved m now c D (flight_at fs q) (λ b o. own-kept m c D (flight_at fs q) b (ap (λ (x : Contents). x.currents) is) (ap (λ (x : Contents). x.table) is) o) (fits-beside m ws c (flight_at fs q) 0 v (bare q lq) (fit_at m ws fs q h.fit lq)));
      threads = h.fit.threads;
      few = h.fit.few;
      within = rw heads_is within;
      passed = rw heads_is (omega (arith, claims, size, h.fit.passed));
    } in
    step-repooled m ws now fs fs i s h (puts_still fs i) (λ p x. x) fit (subst (Repooled m c) (sym is) re)
