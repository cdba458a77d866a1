-- The pages that the calls in flight have claimed, and the claims that may come.
use Rattle.std.proofs.Common.{◌≡◌, ℕ, ◌+◌, ◌<◌, List, [], ◌∷◌, ◌++◌, length, set, take, drop, zero, suc, refl, sym, ap, subst, ◌∙◌, arith}
use Rattle.std.specs.List.{AllPairs, Contains}
use Rattle.std.proofs.lemmas.List.{append_assoc}
use Rattle.std.proofs.lemmas.List.Elements.{All-contains, Contains-append_left, Contains-append_right}
use Rattle.std.proofs.Math.Logic.{⊎_elim}
use Rattle.region_pages.proofs.Claims.{Contains-cases}
use Rattle.calls_in_flight.specs.Flight.{Flight, flight_at}
use Rattle.calls_in_flight.specs.Whole.{claimed_in, claims_in}
use Rattle.calls_in_flight.proofs.Covers.{pairs-head, pairs-tail}
use Rattle.calls_in_flight.proofs.Pools.{Differ}

-- the claimed pages of the calls before and behind one
abbrev pub before : List Flight → ℕ → List ℕ
before fs i = claimed_in (take i fs)

abbrev pub behind : List Flight → ℕ → List ℕ
behind fs i = claimed_in (drop (suc i) fs)

pub claimed-put : (fs : List Flight) (i : ℕ) (f : Flight) → i < length fs → claimed_in (set fs i f) ≡ before fs i ++ (f.claimed ++ behind fs i)
claimed-put [] i f lt = absurd (omega (arith, lt))
claimed-put (g ∷ fs) zero f lt = refl
claimed-put (g ∷ fs) (suc i) f lt = ap (λ (xs : List ℕ). g.claimed ++ xs) (claimed-put fs i f (omega (arith, lt))) ∙ sym (append_assoc g.claimed (before fs i) (f.claimed ++ behind fs i))

pub claimed-at : (fs : List Flight) (i : ℕ) → i < length fs → claimed_in fs ≡ before fs i ++ ((flight_at fs i).claimed ++ behind fs i)
claimed-at [] i lt = absurd (omega (arith, lt))
claimed-at (g ∷ fs) zero lt = refl
claimed-at (g ∷ fs) (suc i) lt = ap (λ (xs : List ℕ). g.claimed ++ xs) (claimed-at fs i (omega (arith, lt))) ∙ sym (append_assoc g.claimed (before fs i) ((flight_at fs i).claimed ++ behind fs i))

pub claimed-same : (fs : List Flight) (i : ℕ) (f : Flight) → i < length fs → f.claimed ≡ (flight_at fs i).claimed → claimed_in (set fs i f) ≡ claimed_in fs
claimed-same fs i f lt e = claimed-put fs i f lt ∙ ap (λ (xs : List ℕ). before fs i ++ (xs ++ behind fs i)) e ∙ sym (claimed-at fs i lt)

pub claims-put : (fs : List Flight) (i : ℕ) (f : Flight) → i < length fs → claims_in (set fs i f) + (flight_at fs i).claims ≡ claims_in fs + f.claims
claims-put [] i f lt = absurd (omega (arith, lt))
claims-put (g ∷ fs) zero f lt = omega arith
claims-put (g ∷ fs) (suc i) f lt = omega (arith, claims-put fs i f (omega (arith, lt)))

pub claimed_among : (fs : List Flight) (i p : ℕ) → i < length fs → Contains (flight_at fs i).claimed p → Contains (claimed_in fs) p
claimed_among fs i p lt h = subst (λ (xs : List ℕ). Contains xs p) (sym (claimed-at fs i lt)) (Contains-append_right (before fs i) ((flight_at fs i).claimed ++ behind fs i) p (Contains-append_left (flight_at fs i).claimed (behind fs i) p h))

pub append-apart : (xs ys : List ℕ) (p : ℕ) → AllPairs Differ (xs ++ ys) → Contains xs p → Contains ys p → ⊥
append-apart [] ys p once h k = absurd (omega (arith, h.1))
append-apart (x ∷ xs) ys p once h k = ⊎_elim
    (λ (e : x ≡ p). All-contains (Differ x) (xs ++ ys) p (pairs-head Differ x (xs ++ ys) once) (Contains-append_right xs ys p k) e)
    (λ (l : Contains xs p). append-apart xs ys p (pairs-tail Differ x (xs ++ ys) once) l k)
    (Contains-cases xs x p h)

pub once-behind : (xs ys : List ℕ) → AllPairs Differ (xs ++ ys) → AllPairs Differ ys
once-behind [] ys once = once
once-behind (x ∷ xs) ys once = once-behind xs ys (pairs-tail Differ x (xs ++ ys) once)

-- a page is claimed by one call alone
pub claimed-apart : (fs : List Flight) (i j p : ℕ) (rest : List ℕ) → AllPairs Differ (claimed_in fs ++ rest) → i < j → j < length fs → Contains (flight_at fs i).claimed p → Contains (flight_at fs j).claimed p → ⊥
claimed-apart [] i j p rest once lt lj h k = absurd (omega (arith, lj))
claimed-apart (f ∷ fs) zero zero p rest once lt lj h k = absurd (omega (arith, lt))
claimed-apart (f ∷ fs) zero (suc j) p rest once lt lj h k =
    let apart : AllPairs Differ (f.claimed ++ (claimed_in fs ++ rest)) = subst (AllPairs Differ) (append_assoc f.claimed (claimed_in fs) rest) once in
    append-apart f.claimed (claimed_in fs ++ rest) p apart h (Contains-append_left (claimed_in fs) rest p (claimed_among fs j p (omega (arith, lj)) k))
claimed-apart (f ∷ fs) (suc i) zero p rest once lt lj h k = absurd (omega (arith, lt))
claimed-apart (f ∷ fs) (suc i) (suc j) p rest once lt lj h k =
    let apart : AllPairs Differ (f.claimed ++ (claimed_in fs ++ rest)) = subst (AllPairs Differ) (append_assoc f.claimed (claimed_in fs) rest) once in
    claimed-apart fs i j p rest (once-behind f.claimed (claimed_in fs ++ rest) apart) (omega (arith, lt)) (omega (arith, lj)) h k
