-- Readers that are to come, and their bits.
use Rattle.std.proofs.Common.{◌≡◌, ℕ, ◌-◌, ◌^◌, ◌<◌, Option, Some, None, List, [], ◌∷◌, length, get_or, set, zero, suc, refl, sym, ap, subst, ◌∙◌, arith, inr, bit_or, length-set}
use Rattle.std.specs.Prelude.{IfSome}
use Rattle.std.proofs.lemmas.Nat.Bits.{bit_at_or, same_from_bits}
use Rattle.heap_words.specs.declared.map.Areas.{Areas}
use Rattle.heap_words.specs.Map.{HasRegion, readers_at}
use Rattle.heap_words.specs.Cells.{row, row_set}
use Rattle.heap_words.specs.Contents.{Contents, contents, readers_of, with_readers}
use Rattle.heap_words.proofs.Contents.{contents-get_readers, contents-set_readers}
use Rattle.yak_model.specs.Spaces.{SpaceState}
use Rattle.calls_in_flight.specs.Flight.{Flight, Reading, flight_at}
use Rattle.calls_in_flight.specs.Whole.{claimed_in, claims_in, completed, laid_all, read_by, read_in, whole}
use Rattle.calls_in_flight.specs.Fits.{FlightFits, StandInFlight}
use Rattle.calls_in_flight.specs.Stepped.{Stepped}
use Rattle.calls_in_flight.specs.Shared.{BecomesReader}
use Rattle.calls_in_flight.proofs.Claimed.{claimed-same, claims-put}
use Rattle.calls_in_flight.proofs.Claims.{laid_all-same}
use Rattle.calls_in_flight.proofs.Flights.{laid_all-bare, laid_all-set}
use Rattle.calls_in_flight.proofs.Grounds.{bare-outside, fit_at, fits-beside, fits-put, under}
use Rattle.calls_in_flight.proofs.Quiet.{keeps_same, puts_set, step-same}

or_swap : (a b c : ℕ) → bit_or (bit_or a b) c ≡ bit_or (bit_or a c) b
or_swap a b c = same_from_bits (bit_or (bit_or a b) c) (bit_or (bit_or a c) b) (λ i. omega (arith, bit_at_or (bit_or a b) c i, bit_at_or a b i, bit_at_or (bit_or a c) b i, bit_at_or a c i))

-- a bit set in one word of a list, and in one word of rows
abbrev bit_in : List ℕ → ℕ → ℕ → List ℕ
bit_in r j b = set r j (bit_or (get_or r j 0) b)

abbrev pub marked : List (List ℕ) → ℕ → ℕ → ℕ → List (List ℕ)
marked rs k j b = row_set rs k j (bit_or (get_or (row rs k) j 0) b)

bits-swap : (r : List ℕ) (j i a b : ℕ) → bit_in (bit_in r j a) i b ≡ bit_in (bit_in r i b) j a
bits-swap [] j i a b = refl
bits-swap (x ∷ r) zero zero a b = ap (λ y. y ∷ r) (or_swap x a b)
bits-swap (x ∷ r) zero (suc i) a b = refl
bits-swap (x ∷ r) (suc j) zero a b = refl
bits-swap (x ∷ r) (suc j) (suc i) a b = ap (λ (ys : List ℕ). x ∷ ys) (bits-swap r j i a b)

-- bits may be set in any order
pub marked-swap : (rs : List (List ℕ)) (k j a l i b : ℕ) → marked (marked rs k j a) l i b ≡ marked (marked rs l i b) k j a
marked-swap [] k j a l i b = refl
marked-swap (r ∷ rs) zero j a zero i b = ap (λ (x : List ℕ). x ∷ rs) (bits-swap r j i a b)
marked-swap (r ∷ rs) zero j a (suc l) i b = refl
marked-swap (r ∷ rs) (suc k) j a zero i b = refl
marked-swap (r ∷ rs) (suc k) j a (suc l) i b = ap (λ (xs : List (List ℕ)). r ∷ xs) (marked-swap rs k j a l i b)

read_by-marked : (t : ℕ) (reading : Option Reading) (rs : List (List ℕ)) (k j b : ℕ) → read_by t reading (marked rs k j b) ≡ marked (read_by t reading rs) k j b
read_by-marked t None rs k j b = refl
read_by-marked t (Some r) rs k j b = marked-swap rs k j b (r.owner - 1) (r.depth - 1) (2 ^ (t - 1))

pub read_in-marked : (fs : List Flight) (rs : List (List ℕ)) (k j b : ℕ) → read_in fs (marked rs k j b) ≡ marked (read_in fs rs) k j b
read_in-marked [] rs k j b = refl
read_in-marked (f ∷ fs) rs k j b = ap (read_by f.thread f.reading) (read_in-marked fs rs k j b) ∙ read_by-marked f.thread f.reading (read_in fs rs) k j b

-- a reader that is to come, taken out of the calls in flight
pub read-taken : (fs : List Flight) (i : ℕ) (f : Flight) (r : Reading) (rs : List (List ℕ)) → i < length fs → (flight_at fs i).reading ≡ Some r → f.reading ≡ None → read_in fs rs ≡ marked (read_in (set fs i f) rs) (r.owner - 1) (r.depth - 1) (2 ^ ((flight_at fs i).thread - 1))
read-taken [] i f r rs lt e none = absurd (omega (arith, lt))
read-taken (g ∷ fs) zero f r rs lt e none = ap (λ (x : Option Reading). read_by g.thread x (read_in fs rs)) e ∙ ap (λ (x : Option Reading). marked (read_by f.thread x (read_in fs rs)) (r.owner - 1) (r.depth - 1) (2 ^ (g.thread - 1))) (sym none)
read-taken (g ∷ fs) (suc i) f r rs lt e none = ap (read_by g.thread g.reading) (read-taken fs i f r rs (omega (arith, lt)) e none) ∙ read_by-marked g.thread g.reading (read_in (set fs i f) rs) (r.owner - 1) (r.depth - 1) (2 ^ ((flight_at fs i).thread - 1))

-- and one put into them
pub read-put : (fs : List Flight) (i : ℕ) (f : Flight) (r : Reading) (rs : List (List ℕ)) → i < length fs → (flight_at fs i).reading ≡ None → f.reading ≡ Some r → f.thread ≡ (flight_at fs i).thread → read_in (set fs i f) rs ≡ marked (read_in fs rs) (r.owner - 1) (r.depth - 1) (2 ^ ((flight_at fs i).thread - 1))
read-put [] i f r rs lt none e et = absurd (omega (arith, lt))
read-put (g ∷ fs) zero f r rs lt none e et = ap (λ (x : Option Reading). read_by f.thread x (read_in fs rs)) e ∙ ap (λ t. marked (read_in fs rs) (r.owner - 1) (r.depth - 1) (2 ^ (t - 1))) et ∙ ap (λ (x : Option Reading). marked (read_by g.thread x (read_in fs rs)) (r.owner - 1) (r.depth - 1) (2 ^ (g.thread - 1))) (sym none)
read-put (g ∷ fs) (suc i) f r rs lt none e et = ap (read_by g.thread g.reading) (read-put fs i f r rs (omega (arith, lt)) none e et) ∙ read_by-marked g.thread g.reading (read_in fs rs) (r.owner - 1) (r.depth - 1) (2 ^ ((flight_at fs i).thread - 1))

-- ---- the bit that is set

pub reads-keep : (m : Areas) (ws : List ℕ) (fs : List Flight) (s : SpaceState) (i : ℕ) (r : Reading) (f : Flight) (h : StandInFlight m ws fs s) → BecomesReader fs i r f → (let a = readers_at m r.owner r.depth in Stepped m ws (set ws a (bit_or (get_or ws a 0) (2 ^ ((flight_at fs i).thread - 1)))) fs (set fs i f) i s h [] 0)
reads-keep m ws fs s i r f h becomes =
    let F : Flight = flight_at fs i in
    let lt = becomes.inside in
    let a : ℕ = readers_at m r.owner r.depth in
    let b : ℕ = 2 ^ (F.thread - 1) in
    let w : ℕ = bit_or (get_or ws a 0) b in
    let now : List ℕ = set ws a w in
    let gs : List Flight = set fs i f in
    let u : Contents = under m ws fs in
    let was = fit_at m ws fs i h.fit lt in
    let hr : HasRegion m r.owner r.depth = subst (λ (x : Option Reading). IfSome x (λ (y : Reading). HasRegion m y.owner y.depth)) becomes.pending was.reading in
    let bare = bare-outside m ws fs s a h.fit h.stands (inr (omega (arith, hr.0, hr.2), omega (arith, hr.0, hr.1, hr.2, hr.3))) in
    let shown : get_or ws a 0 ≡ readers_of u r.owner r.depth = sym (laid_all-bare fs ws a bare) ∙ contents-get_readers m (laid_all fs ws) r.owner r.depth hr in
    let laid_same : laid_all gs now ≡ set (laid_all fs ws) a w = laid_all-same fs i f now (ap (λ (x : Flight). x.covers) becomes.after) ∙ laid_all-set fs ws a w bare in
    let e : under m now gs ≡ record u { readers = marked u.readers (r.owner - 1) (r.depth - 1) b } = ap (contents m) laid_same ∙ contents-set_readers m (laid_all fs ws) r.owner r.depth w hr ∙ ap (λ x. with_readers u r.owner r.depth (bit_or x b)) shown in
    let claimed : claimed_in gs ≡ claimed_in fs = claimed-same fs i f lt (ap (λ (x : Flight). x.claimed) becomes.after) in
    let none : f.reading ≡ None = ap (λ (x : Flight). x.reading) becomes.after in
    let readers : read_in gs (marked u.readers (r.owner - 1) (r.depth - 1) b) ≡ read_in fs u.readers = read_in-marked gs u.readers (r.owner - 1) (r.depth - 1) b ∙ sym (read-taken fs i f r u.readers lt becomes.pending none) in
    let same : whole m now gs ≡ whole m ws fs = ap (completed gs) e ∙ rw (claimed, readers) refl in
    let et : f.thread ≡ F.thread = ap (λ (x : Flight). x.thread) becomes.after in
    let claims : claims_in gs ≡ claims_in fs = omega (arith, claims-put fs i f lt, ap (λ (x : Flight). x.claims) becomes.after) in
    let heads : (under m now gs).heads ≡ u.heads = ap (λ (x : Contents). x.heads) e in
    let kept = fits-beside m ws (whole m ws fs) F a w (bare i lt) was in
    let fit : FlightFits m now (whole m ws fs) (record F { reading = None }) = record { thread = was.thread; own = was.own; once = was.once; stand = kept.stand; reading = tt; claims = was.claims } in
    let back : (g : Flight) → FlightFits m now (whole m ws fs) g → FlightFits m now (whole m now gs) g = λ g x. subst (λ (d : Contents). FlightFits m now d g) (sym same) x in
    step-same m ws now fs gs i s h (puts_set fs i f lt et) (keeps_same fs i f lt (ap (λ (x : Flight). x.claimed) becomes.after))
    (fits-put m ws now fs i f h.fit lt et (length-set ws a w) (back f (subst (FlightFits m now (whole m ws fs)) (sym becomes.after) fit)) (λ j lj ne. back (flight_at fs j) (fits-beside m ws (whole m ws fs) (flight_at fs j) a w (bare j lj) (fit_at m ws fs j h.fit lj))) (rw heads h.fit.within) (rw (heads, claims) h.fit.passed))
    same
