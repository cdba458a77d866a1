-- The open spaces as a list: Control, and the regions of each thread up to its depth.
use Rattle.std.proofs.Common.{◌≡◌, ◌≢◌, ◌⊎◌, ◌==◌, ℕ, zero, suc, ◌+◌, ◌-◌, ◌*◌, ◌≤◌, ◌<◌, cond, List, [], ◌∷◌, ◌++◌, length, get_or, refl, ap, subst, arith, inl, inr, length-append}
use Rattle.std.proofs.Math.Logic.{⊎_elim}
use Rattle.std.specs.List.{All, Contains, sum_by}
use Rattle.std.proofs.lemmas.Bool.{cases_eq, cases_lt}
use Rattle.std.proofs.lemmas.Bool.Decides.{nat_tests}
use Rattle.std.proofs.lemmas.List.Elements.{All-head, All-tail, Contains-append_cases}
use Rattle.std.proofs.lemmas.List.Sums.{sum_by-cons, sum_by-append}
use Rattle.heap_words.specs.declared.map.Areas.{Areas}
use Rattle.heap_words.specs.Map.{max_depth}
use Rattle.epoch_lattice.specs.declared.Space.{Space}
use Rattle.epoch_lattice.specs.declared.Space.TheVariants.{Control, Region}
use Rattle.epoch_lattice.specs.declared.TheConstants.{MAX_DEPTH}
use Rattle.epoch_lattice.specs.Lattice.{space_index}
use Rattle.yak_model.specs.State.{IsOpen}
use Rattle.yak_model.specs.Packed.{IsSpaceOf}
use Rattle.yak_model.proofs.Lists.{contains_cases}

-- the regions of the thread after v up to a depth, and those of the threads after v up to the depths of a list
abbrev pub regions : ℕ → ℕ → List Space
regions v zero = []
regions v (suc d) = Region (suc v) (suc d) ∷ regions v d

abbrev pub regions_of : ℕ → List ℕ → List Space
regions_of v [] = []
regions_of v (d ∷ ds) = regions v d ++ regions_of (suc v) ds

abbrev pub open_spaces : List ℕ → List Space
open_spaces depths = Control ∷ regions_of 0 depths

-- how often a list has the space of a number
abbrev pub hit : ℕ → ℕ → ℕ
hit a b = cond (a == b) 1 0

abbrev pub hits : List Space → ℕ → ℕ
hits xs i = sum_by (λ (x : Space). hit (space_index x) i) xs

pub hit-other : (a b : ℕ) → a ≢ b → hit a b ≡ 0
hit-other a b ne = grind (arith, nat_tests)

pub hit-own : (a b : ℕ) → a ≡ b → hit a b ≡ 1
hit-own a b e = grind (arith, nat_tests)

pub hits-cons : (x : Space) (xs : List Space) (i : ℕ) → hits (x ∷ xs) i ≡ hit (space_index x) i + hits xs i
hits-cons x xs i = sum_by-cons (λ (y : Space). hit (space_index y) i) x xs

hits-append : (xs ys : List Space) (i : ℕ) → hits (xs ++ ys) i ≡ hits xs i + hits ys i
hits-append xs ys i = sum_by-append (λ (y : Space). hit (space_index y) i) xs ys

-- the number of a region
number : (v d : ℕ) → space_index (Region (suc v) (suc d)) ≡ 1 + MAX_DEPTH * v + d
number v d = omega arith

-- of one thread
hits-outside : (v d i : ℕ) → (i < 1 + MAX_DEPTH * v) ⊎ (1 + MAX_DEPTH * v + d ≤ i) → hits (regions v d) i ≡ 0
hits-outside v zero i out = refl
hits-outside v (suc d) i out =
    let rest : hits (regions v d) i ≡ 0 = hits-outside v d i (⊎_elim (λ (lt : i < 1 + MAX_DEPTH * v). inl lt) (λ (le : 1 + MAX_DEPTH * v + suc d ≤ i). inr (omega (arith, le))) out) in
    let here : space_index (Region (suc v) (suc d)) ≢ i = λ e. ⊎_elim (λ (lt : i < 1 + MAX_DEPTH * v). omega (arith, lt, e, number v d)) (λ (le : 1 + MAX_DEPTH * v + suc d ≤ i). omega (arith, le, e, number v d)) out in
    omega (arith, hits-cons (Region (suc v) (suc d)) (regions v d) i, rest, hit-other (space_index (Region (suc v) (suc d))) i here)

hits-within : (v d i : ℕ) → 1 + MAX_DEPTH * v ≤ i → i < 1 + MAX_DEPTH * v + d → hits (regions v d) i ≡ 1
hits-within v zero i from to = absurd (omega arith)
hits-within v (suc d) i from to =
    let own : ℕ = space_index (Region (suc v) (suc d)) in
    let all = hits-cons (Region (suc v) (suc d)) (regions v d) i in
    ⊎_elim
    (λ (e : own ≡ i). omega (arith, all, hit-own own i e, hits-outside v d i (inr (omega (arith, e, number v d)))))
    (λ (ne : own ≢ i). omega (arith, all, hit-other own i ne, hits-within v d i from (omega (arith, to, ne, number v d))))
    (cases_eq own i)

-- of all threads
hits-low : (v : ℕ) (ds : List ℕ) (i : ℕ) → i < 1 + MAX_DEPTH * v → hits (regions_of v ds) i ≡ 0
hits-low v [] i lt = refl
hits-low v (d ∷ ds) i lt = omega (arith, hits-append (regions v d) (regions_of (suc v) ds) i, hits-outside v d i (inl lt), hits-low (suc v) ds i (omega (arith, lt)))

hits-most : (v : ℕ) (ds : List ℕ) (i : ℕ) → All (λ d. d ≤ MAX_DEPTH) ds → hits (regions_of v ds) i ≤ 1
hits-most v [] i deep = omega arith
hits-most v (d ∷ ds) i deep =
    let all = hits-append (regions v d) (regions_of (suc v) ds) i in
    let first : d ≤ MAX_DEPTH = All-head (λ k. k ≤ MAX_DEPTH) d ds deep in
    let rest = hits-most (suc v) ds i (All-tail (λ k. k ≤ MAX_DEPTH) d ds deep) in
    ⊎_elim
    (λ (lt : i < 1 + MAX_DEPTH * v). omega (arith, all, rest, hits-outside v d i (inl lt)))
    (λ (from : 1 + MAX_DEPTH * v ≤ i). ⊎_elim
    (λ (to : i < 1 + MAX_DEPTH * v + d). omega (arith, all, hits-within v d i from to, hits-low (suc v) ds i (omega (arith, to, first))))
    (λ (le : 1 + MAX_DEPTH * v + d ≤ i). omega (arith, all, rest, hits-outside v d i (inr le)))
    (cases_lt i (1 + MAX_DEPTH * v + d)))
    (cases_lt i (1 + MAX_DEPTH * v))

hits-some : (v : ℕ) (ds : List ℕ) (u e : ℕ) → u < length ds → e < get_or ds u 0 → 1 ≤ hits (regions_of v ds) (1 + MAX_DEPTH * (v + u) + e)
hits-some v [] u e lu le = absurd (omega arith)
hits-some v (d ∷ ds) zero e lu le =
    let i : ℕ = 1 + MAX_DEPTH * (v + 0) + e in
    let own : hits (regions v d) i ≡ 1 = hits-within v d i (omega arith) (omega (arith, le)) in
    omega (arith, hits-append (regions v d) (regions_of (suc v) ds) i, own)
hits-some v (d ∷ ds) (suc u) e lu le =
    let i : ℕ = 1 + MAX_DEPTH * (v + suc u) + e in
    let rest = hits-some (suc v) ds u e (omega (arith, lu)) le in
    let same : hits (regions_of (suc v) ds) (1 + MAX_DEPTH * (suc v + u) + e) ≡ hits (regions_of (suc v) ds) i = ap (hits (regions_of (suc v) ds)) (omega arith) in
    omega (arith, hits-append (regions v d) (regions_of (suc v) ds) i, rest, same)

-- each open space is in the list, and no number is in it twice
pub open-listed : (depths : List ℕ) (x : Space) → IsOpen depths x → 1 ≤ hits (open_spaces depths) (space_index x)
open-listed depths Control is = omega (arith, hits-cons Control (regions_of 0 depths) 0, hit-own 0 0 refl)
open-listed depths (Region t d) is =
    let some = hits-some 0 depths (t - 1) (d - 1) (omega (arith, is.0, is.1)) (omega (arith, is.2, is.3)) in
    let same : hits (regions_of 0 depths) (1 + MAX_DEPTH * (0 + (t - 1)) + (d - 1)) ≡ hits (regions_of 0 depths) (space_index (Region t d)) = ap (hits (regions_of 0 depths)) (omega arith) in
    omega (arith, hits-cons Control (regions_of 0 depths) (space_index (Region t d)), some, same)

pub open-once : (depths : List ℕ) (i : ℕ) → All (λ d. d ≤ MAX_DEPTH) depths → hits (open_spaces depths) i ≤ 1
open-once depths i deep =
    let all = hits-cons Control (regions_of 0 depths) i in
    ⊎_elim
    (λ (e : 0 ≡ i). omega (arith, all, hit-own 0 i e, hits-low 0 depths i (omega (arith, e))))
    (λ (ne : 0 ≢ i). omega (arith, all, hit-other 0 i ne, hits-most 0 depths i deep))
    (cases_eq 0 i)

-- how many they are
regions_length : (v d : ℕ) → length (regions v d) ≡ d
regions_length v zero = refl
regions_length v (suc d) = omega (arith, regions_length v d)

pub regions-many : (v : ℕ) (ds : List ℕ) → length (regions_of v ds) ≡ sum_by (λ d. d) ds
regions-many v [] = refl
regions-many v (d ∷ ds) = omega (arith, length-append (regions v d) (regions_of (suc v) ds), regions_length v d, sum_by-cons (λ (k : ℕ). k) d ds, regions-many (suc v) ds)

-- they are spaces of the heap
region_own : (m : Areas) (v d : ℕ) (x : Space) → v < m.threads → d ≤ max_depth m → Contains (regions v d) x → IsSpaceOf m x × (x ≢ Control)
region_own m v zero x lv ld c = absurd (omega (arith, c.1))
region_own m v (suc d) x lv ld c = ⊎_elim
    (λ (e : Region (suc v) (suc d) ≡ x). subst (λ y. IsSpaceOf m y × (y ≢ Control)) e ((omega arith, omega (arith, lv), omega arith, omega (arith, ld)), λ z. cc))
    (λ (b : Contains (regions v d) x). region_own m v d x lv (omega (arith, ld)) b)
    (contains_cases (Region (suc v) (suc d)) (regions v d) x c)

pub regions-own : (m : Areas) (v : ℕ) (ds : List ℕ) (x : Space) → v + length ds ≤ m.threads → All (λ d. d ≤ max_depth m) ds → Contains (regions_of v ds) x → IsSpaceOf m x × (x ≢ Control)
regions-own m v [] x long deep c = absurd (omega (arith, c.1))
regions-own m v (d ∷ ds) x long deep c = ⊎_elim
    (λ (a : Contains (regions v d) x). region_own m v d x (omega (arith, long)) (All-head (λ k. k ≤ max_depth m) d ds deep) a)
    (λ (b : Contains (regions_of (suc v) ds) x). regions-own m (suc v) ds x (omega (arith, long)) (All-tail (λ k. k ≤ max_depth m) d ds deep) b)
    (Contains-append_cases (regions v d) (regions_of (suc v) ds) x c)
