-- Covers over words.
use Rattle.std.proofs.Common.{◌≡◌, ◌≢◌, ℕ, ◌<◌, List, [], ◌∷◌, length, get_or, set, zero, suc, refl, sym, ap, ◌∙◌, arith, length-set, get_or-set_same, get_or-set_other}
use Rattle.std.specs.List.{All, AllPairs}
use Rattle.std.proofs.lemmas.Bool.{cases_eq}
use Rattle.std.proofs.lemmas.List.{set-set, set_comm, set-get_or}
use Rattle.std.proofs.lemmas.List.Elements.{All-head, All-tail}
use Rattle.std.proofs.Math.Logic.{⊎_elim}
use Rattle.calls_in_flight.specs.Flight.{Cover, IsBare}
use Rattle.calls_in_flight.specs.Whole.{laid}

pub bare-head : (k : Cover) (ks : List Cover) (a : ℕ) → IsBare (k ∷ ks) a → k.place ≢ a
bare-head k ks a h = All-head (λ (x : Cover). x.place ≢ a) k ks h

pub bare-tail : (k : Cover) (ks : List Cover) (a : ℕ) → IsBare (k ∷ ks) a → IsBare ks a
bare-tail k ks a h = All-tail (λ (x : Cover). x.place ≢ a) k ks h

pub pairs-head : {X : Type 0} (R : X → X → Type 0) (x : X) (xs : List X) → AllPairs R (x ∷ xs) → All (R x) xs
pairs-head R x xs h j d lt = h 0 (suc j) d (omega arith) (omega (arith, lt))

pub pairs-tail : {X : Type 0} (R : X → X → Type 0) (x : X) (xs : List X) → AllPairs R (x ∷ xs) → AllPairs R xs
pairs-tail R x xs h i j d lt lj = h (suc i) (suc j) d (omega (arith, lt)) (omega (arith, lj))

pub length-laid : (ks : List Cover) (ws : List ℕ) → length (laid ks ws) ≡ length ws
length-laid [] ws = refl
length-laid (k ∷ ks) ws = length-set (laid ks ws) k.place k.shown ∙ length-laid ks ws

-- a bare place shows the word that stands there
pub laid-bare : (ks : List Cover) (ws : List ℕ) (a : ℕ) → IsBare ks a → get_or (laid ks ws) a 0 ≡ get_or ws a 0
laid-bare [] ws a h = refl
laid-bare (k ∷ ks) ws a h = get_or-set_other (laid ks ws) k.place a k.shown 0 (λ e. bare-head k ks a h (sym e)) ∙ laid-bare ks ws a (bare-tail k ks a h)

-- a store at a bare place is seen
pub laid-set : (ks : List Cover) (ws : List ℕ) (a w : ℕ) → IsBare ks a → laid ks (set ws a w) ≡ set (laid ks ws) a w
laid-set [] ws a w h = refl
laid-set (k ∷ ks) ws a w h = ap (λ (xs : List ℕ). set xs k.place k.shown) (laid-set ks ws a w (bare-tail k ks a h)) ∙ set_comm (laid ks ws) a k.place w k.shown (λ e. bare-head k ks a h (sym e))

-- a store isn't seen under another one at the same place
pub laid-under : (ks : List Cover) (ws : List ℕ) (a w v : ℕ) → set (laid ks (set ws a w)) a v ≡ set (laid ks ws) a v
laid-under [] ws a w v = set-set ws a w v
laid-under (k ∷ ks) ws a w v = ⊎_elim
    (λ (e : k.place ≡ a).
    let top : (xs : List ℕ) → set (set xs k.place k.shown) a v ≡ set xs a v = λ xs. ap (λ i. set (set xs i k.shown) a v) e ∙ set-set xs a k.shown v in
    top (laid ks (set ws a w)) ∙ laid-under ks ws a w v ∙ sym (top (laid ks ws)))
    (λ (ne : k.place ≢ a). set_comm (laid ks (set ws a w)) k.place a k.shown v ne ∙ ap (λ (xs : List ℕ). set xs k.place k.shown) (laid-under ks ws a w v) ∙ sym (set_comm (laid ks ws) k.place a k.shown v ne))
    (cases_eq k.place a)

-- nor at a covered place
pub laid-covered : (ks : List Cover) (ws : List ℕ) (j a w : ℕ) (d : Cover) → j < length ks → (get_or ks j d).place ≡ a → laid ks (set ws a w) ≡ laid ks ws
laid-covered [] ws j a w d lt e = absurd (omega (arith, lt))
laid-covered (k ∷ ks) ws zero a w d lt e = ap (λ i. set (laid ks (set ws a w)) i k.shown) e ∙ laid-under ks ws a w k.shown ∙ ap (λ i. set (laid ks ws) i k.shown) (sym e)
laid-covered (k ∷ ks) ws (suc j) a w d lt e = ap (λ (xs : List ℕ). set xs k.place k.shown) (laid-covered ks ws j a w d (omega (arith, lt)) e)

-- covers that are apart may change places
pub laid-apart : (ks js : List Cover) (ws : List ℕ) → All (λ (k : Cover). IsBare js k.place) ks → laid ks (laid js ws) ≡ laid js (laid ks ws)
laid-apart [] js ws h = refl
laid-apart (k ∷ ks) js ws h =
    let bare : IsBare js k.place = All-head (λ (x : Cover). IsBare js x.place) k ks h in
    let rest = laid-apart ks js ws (All-tail (λ (x : Cover). IsBare js x.place) k ks h) in
    ap (λ (xs : List ℕ). set xs k.place k.shown) rest ∙ sym (laid-set js (laid ks ws) k.place k.shown bare)

-- the words that stand under covers, put back
abbrev pub lifted : List Cover → List ℕ → List ℕ
lifted [] ws = ws
lifted (k ∷ ks) ws = lifted ks (set ws k.place k.stands)

pub lifted-laid : (ks : List Cover) (ws : List ℕ) → AllPairs (λ (a b : Cover). a.place ≢ b.place) ks → All (λ (k : Cover). get_or ws k.place 0 ≡ k.stands) ks → lifted ks (laid ks ws) ≡ ws
lifted-laid [] ws once stand = refl
lifted-laid (k ∷ ks) ws once stand =
    let R : Cover → Cover → Type 0 = λ a b. a.place ≢ b.place in
    let P : Cover → Type 0 = λ x. get_or ws x.place 0 ≡ x.stands in
    let bare : IsBare ks k.place = λ j d lt e. pairs-head R k ks once j d lt (sym e) in
    let here : get_or (laid ks ws) k.place 0 ≡ k.stands = laid-bare ks ws k.place bare ∙ All-head P k ks stand in
    let back : set (set (laid ks ws) k.place k.shown) k.place k.stands ≡ laid ks ws = set-set (laid ks ws) k.place k.shown k.stands ∙ ap (set (laid ks ws) k.place) (sym here) ∙ set-get_or (laid ks ws) k.place 0 in
    ap (lifted ks) back ∙ lifted-laid ks ws (pairs-tail R k ks once) (All-tail P k ks stand)

-- a cover shows its word
pub laid-shown : (ks : List Cover) (ws : List ℕ) (j : ℕ) (d : Cover) → AllPairs (λ (a b : Cover). a.place ≢ b.place) ks → j < length ks → (get_or ks j d).place < length ws → get_or (laid ks ws) (get_or ks j d).place 0 ≡ (get_or ks j d).shown
laid-shown [] ws j d once lt within = absurd (omega (arith, lt))
laid-shown (k ∷ ks) ws zero d once lt within = get_or-set_same (laid ks ws) k.place k.shown 0 (rw (length-laid ks ws) within)
laid-shown (k ∷ ks) ws (suc j) d once lt within =
    let R : Cover → Cover → Type 0 = λ a b. a.place ≢ b.place in
    let lj : j < length ks = omega (arith, lt) in
    get_or-set_other (laid ks ws) k.place (get_or ks j d).place k.shown 0 (λ e. pairs-head R k ks once j d lj (sym e)) ∙ laid-shown ks ws j d (pairs-tail R k ks once) lj within
