-- The covers of all calls in flight over words.
use Rattle.std.proofs.Common.{◌≡◌, ◌≢◌, ℕ, ◌<◌, List, [], ◌∷◌, length, get_or, set, zero, suc, refl, sym, ap, subst, ◌∙◌, arith, length-set, get_or-set_same, get_or-set_other}
use Rattle.std.specs.List.{All}
use Rattle.std.proofs.lemmas.Bool.{cases_eq}
use Rattle.std.proofs.lemmas.List.{set-set, set-get_or}
use Rattle.std.proofs.Math.Logic.{⊎_elim}
use Rattle.calls_in_flight.specs.Flight.{Cover, Flight, IsBare, at_rest, flight_at}
use Rattle.calls_in_flight.specs.Whole.{laid, laid_all}
use Rattle.calls_in_flight.proofs.Covers.{laid-apart, laid-bare, laid-set, length-laid}

-- no call in flight covers the place
abbrev pub IsBareIn : List Flight → ℕ → Type 0
IsBareIn fs a = (j : ℕ) → j < length fs → IsBare (flight_at fs j).covers a

-- no call in flight but one covers the place
abbrev pub IsBareBeside : List Flight → ℕ → ℕ → Type 0
IsBareBeside fs i a = (j : ℕ) → j < length fs → j ≢ i → IsBare (flight_at fs j).covers a

-- the calls in flight with one thread at rest
abbrev pub others : List Flight → ℕ → List Flight
others fs i = set fs i (at_rest (flight_at fs i).thread)

pub bare-others : (fs : List Flight) (i a : ℕ) → IsBareBeside fs i a → IsBareIn (others fs i) a
bare-others fs i a h j lt = ⊎_elim
    (λ (e : j ≡ i).
    let lt' : i < length fs = omega (arith, lt, e, length-set fs i (at_rest (flight_at fs i).thread)) in
    let own : flight_at (others fs i) j ≡ at_rest (flight_at fs i).thread = ap (flight_at (others fs i)) e ∙ get_or-set_same fs i (at_rest (flight_at fs i).thread) (at_rest 0) lt' in
    subst (λ (f : Flight). IsBare f.covers a) (sym own) (λ k d l. absurd (omega (arith, l))))
    (λ (ne : j ≢ i).
    let other : flight_at (others fs i) j ≡ flight_at fs j = get_or-set_other fs i j (at_rest (flight_at fs i).thread) (at_rest 0) ne in
    subst (λ (f : Flight). IsBare f.covers a) (sym other) (h j (omega (arith, lt, length-set fs i (at_rest (flight_at fs i).thread))) ne))
    (cases_eq j i)

bare_rest : (f : Flight) (fs : List Flight) (a : ℕ) → IsBareIn (f ∷ fs) a → IsBareIn fs a
bare_rest f fs a h j lt = h (suc j) (omega (arith, lt))

bare_first : (f : Flight) (fs : List Flight) (a : ℕ) → IsBareIn (f ∷ fs) a → IsBare f.covers a
bare_first f fs a h = h 0 (omega arith)

pub length-laid_all : (fs : List Flight) (ws : List ℕ) → length (laid_all fs ws) ≡ length ws
length-laid_all [] ws = refl
length-laid_all (f ∷ fs) ws = length-laid f.covers (laid_all fs ws) ∙ length-laid_all fs ws

pub laid_all-bare : (fs : List Flight) (ws : List ℕ) (a : ℕ) → IsBareIn fs a → get_or (laid_all fs ws) a 0 ≡ get_or ws a 0
laid_all-bare [] ws a h = refl
laid_all-bare (f ∷ fs) ws a h = laid-bare f.covers (laid_all fs ws) a (bare_first f fs a h) ∙ laid_all-bare fs ws a (bare_rest f fs a h)

pub laid_all-set : (fs : List Flight) (ws : List ℕ) (a w : ℕ) → IsBareIn fs a → laid_all fs (set ws a w) ≡ set (laid_all fs ws) a w
laid_all-set [] ws a w h = refl
laid_all-set (f ∷ fs) ws a w h = ap (laid f.covers) (laid_all-set fs ws a w (bare_rest f fs a h)) ∙ laid-set f.covers (laid_all fs ws) a w (bare_first f fs a h)

-- one call in flight shows its words over all others
pub laid_all-own : (fs : List Flight) (i : ℕ) (r : Flight) (ws : List ℕ) → i < length fs → r.covers ≡ [] → All (λ (k : Cover). IsBareBeside fs i k.place) (flight_at fs i).covers → laid_all fs ws ≡ laid (flight_at fs i).covers (laid_all (set fs i r) ws)
laid_all-own [] i r ws lt none h = absurd (omega (arith, lt))
laid_all-own (f ∷ fs) zero r ws lt none h = ap (λ (ks : List Cover). laid f.covers (laid ks (laid_all fs ws))) (sym none)
laid_all-own (f ∷ fs) (suc i) r ws lt none h =
    let own : List Cover = (flight_at fs i).covers in
    let rest : laid_all fs ws ≡ laid own (laid_all (set fs i r) ws) = laid_all-own fs i r ws (omega (arith, lt)) none (λ k d l j lj ne. h k d l (suc j) (omega (arith, lj)) (λ e. ne (omega (arith, e)))) in
    let apart : All (λ (k : Cover). IsBare f.covers k.place) own = λ k d l. h k d l 0 (omega arith) (λ e. omega (arith, e)) in
    ap (laid f.covers) rest ∙ sym (laid-apart own f.covers (laid_all (set fs i r) ws) apart)

-- the same for a call in flight put in its place
pub laid_all-put : (fs : List Flight) (i : ℕ) (f : Flight) (ws : List ℕ) → i < length fs → All (λ (k : Cover). IsBareBeside fs i k.place) f.covers → laid_all (set fs i f) ws ≡ laid f.covers (laid_all (others fs i) ws)
laid_all-put fs i f ws lt h =
    let r : Flight = at_rest (flight_at fs i).thread in
    let long : length (set fs i f) ≡ length fs = length-set fs i f in
    let own : flight_at (set fs i f) i ≡ f = get_or-set_same fs i f (at_rest 0) lt in
    let beside : (a : ℕ) → IsBareBeside fs i a → IsBareBeside (set fs i f) i a = λ a b j lj ne. subst (λ (g : Flight). IsBare g.covers a) (sym (get_or-set_other fs i j f (at_rest 0) ne)) (b j (omega (arith, lj, long)) ne) in
    let apart : All (λ (k : Cover). IsBareBeside (set fs i f) i k.place) (flight_at (set fs i f) i).covers = subst (λ (g : Flight). All (λ (k : Cover). IsBareBeside (set fs i f) i k.place) g.covers) (sym own) (λ k d l. beside (get_or f.covers k d).place (h k d l)) in
    laid_all-own (set fs i f) i r ws (omega (arith, lt, long)) refl apart ∙ ap (λ (g : Flight). laid g.covers (laid_all (set (set fs i f) i r) ws)) own ∙ ap (λ (gs : List Flight). laid f.covers (laid_all gs ws)) (set-set fs i f r)

-- a call in flight put where it is
pub put_same : (fs : List Flight) (i : ℕ) → set fs i (flight_at fs i) ≡ fs
put_same fs i = set-get_or fs i (at_rest 0)
