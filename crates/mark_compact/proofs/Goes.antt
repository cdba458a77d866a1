-- Where recorded slots go.
use Rattle.std.proofs.Common.{◌≡◌, ◌≢◌, ◌⊎◌, ℕ, zero, suc, ◌+◌, ◌-◌, ◌≤◌, ◌<◌, ◌&&◌, true, false, not, cond, eqb, ltb, List, [], ◌∷◌, map, refl, sym, ap, subst, ◌∙◌, arith}
use Rattle.std.specs.List.{Contains}
use Rattle.std.proofs.Math.Logic.{⊎_elim}
use Rattle.std.proofs.lemmas.Bool.{and_from, and_parts, cases_eq, cond-false, cond-true, eq-eqb, le-ltb, lt-ltb, ltb-false, ltb-true, ne_eqb, not-true, or_cases, or_left, or_right}
use Rattle.object_layout.specs.declared.TheConstants.{OBJECT_WORDS}
use Rattle.yak_model.specs.Plans.{Move}
use Rattle.yak_model.proofs.Chains.{contains-cases, contains-here, contains-none, contains-there}
use Rattle.relocation.specs.Moves.{fields_at, size_at}
use Rattle.remember_sets.specs.Filed.{moved_slot}
use Rattle.forwarding.specs.Slots.{followed, in_old, moved_run}
use Rattle.forwarding.proofs.Followed.{followed-none, followed-suc}
use Rattle.forwarding.proofs.Gaps.{in_old-none, in_old-suc}

-- ---- lists

pub contains-map : (f : ℕ → ℕ) (l : List ℕ) (a : ℕ) → Contains l a → Contains (map f l) (f a)
contains-map f [] a c = absurd (contains-none a c)
contains-map f (x ∷ l) a c =
    ⊎_elim (λ (e : x ≡ a). subst (Contains (f x ∷ map f l)) (ap f e) (contains-here (f x) (map f l)))
    (λ (d : Contains l a). contains-there (f x) (map f l) (f a) (contains-map f l a d))
    (contains-cases x l a c)

pub map-contains : (f : ℕ → ℕ) (l : List ℕ) (i : ℕ) → Contains (map f l) i → (a : ℕ) × Contains l a × (f a ≡ i)
map-contains f [] i c = absurd (contains-none i c)
map-contains f (x ∷ l) i c =
    ⊎_elim (λ (e : f x ≡ i). (x, contains-here x l, e))
    (λ (d : Contains (map f l) i). (let r = map-contains f l i d in (r.0, contains-there x l r.0 r.1, r.2)))
    (contains-cases (f x) (map f l) i c)

map-map : (f g : ℕ → ℕ) (l : List ℕ) → map g (map f l) ≡ map (λ a. g (f a)) l
map-map f g [] = refl
map-map f g (x ∷ l) = ap (λ (k : List ℕ). g (f x) ∷ k) (map-map f g l)

map-same : (l : List ℕ) → l ≡ map (λ a. a) l
map-same [] = refl
map-same (x ∷ l) = ap (λ (k : List ℕ). x ∷ k) (map-same l)

-- ---- the objects of the first moves

pub in_old-here : (heap : List ℕ) (count : ℕ) (moves : ℕ → Move) (k a : ℕ) → k < count → (moves k).old ≤ a → a < (moves k).old + size_at heap (moves k).new → in_old heap count moves a ≡ true
in_old-here heap zero moves k a lt low high = absurd (omega (arith, lt))
in_old-here heap (suc n) moves k a lt low high =
    in_old-suc heap n moves a ∙ ⊎_elim
    (λ (e : k ≡ n).
    or_right (in_old heap n moves a) (not (ltb a (moves n).old) && ltb a ((moves n).old + size_at heap (moves n).new))
    (subst (λ j. (not (ltb a (moves j).old) && ltb a ((moves j).old + size_at heap (moves j).new)) ≡ true) e (and_from (not (ltb a (moves k).old)) (ltb a ((moves k).old + size_at heap (moves k).new)) (ap not (le-ltb a (moves k).old low)) (lt-ltb a ((moves k).old + size_at heap (moves k).new) high))))
    (λ (ne : k ≡ n → ⊥). or_left (in_old heap n moves a) (not (ltb a (moves n).old) && ltb a ((moves n).old + size_at heap (moves n).new)) (in_old-here heap n moves k a (omega (arith, lt, ne)) low high))
    (cases_eq k n)

pub in_old-tells : (heap : List ℕ) (count : ℕ) (moves : ℕ → Move) (a : ℕ) → in_old heap count moves a ≡ true → (k : ℕ) × (k < count) × ((moves k).old ≤ a) × (a < (moves k).old + size_at heap (moves k).new)
in_old-tells heap zero moves a t = absurd (let q : false ≡ true = sym (in_old-none heap moves a) ∙ t in cc)
in_old-tells heap (suc n) moves a t =
    ⊎_elim (λ (h : in_old heap n moves a ≡ true). (let r = in_old-tells heap n moves a h in (r.0, omega (arith, r.1), r.2, r.3)))
    (λ (h : (not (ltb a (moves n).old) && ltb a ((moves n).old + size_at heap (moves n).new)) ≡ true).
    let p = and_parts (not (ltb a (moves n).old)) (ltb a ((moves n).old + size_at heap (moves n).new)) h in
    (n, omega arith, ltb-false a (moves n).old (not-true (ltb a (moves n).old) p.0), ltb-true a ((moves n).old + size_at heap (moves n).new) p.1))
    (or_cases (in_old heap n moves a) (not (ltb a (moves n).old) && ltb a ((moves n).old + size_at heap (moves n).new)) (sym (in_old-suc heap n moves a) ∙ t))

-- ---- where one slot goes

pub run_goes : ℕ → ℕ → ℕ → ℕ → ℕ
run_goes old new zero a = a
run_goes old new (suc n) a = cond (eqb (run_goes old new n a) (old + n)) (new + n) (run_goes old new n a)

run-map : (old new n : ℕ) (l : List ℕ) → moved_run old new n l ≡ map (run_goes old new n) l
unfolding run_goes
run-map old new zero l = map-same l
run-map old new (suc n) l = ap (moved_slot (old + n) (new + n)) (run-map old new n l) ∙ map-map (run_goes old new n) (λ b. cond (eqb b (old + n)) (new + n) b) l

run-other : (old new n a : ℕ) → ((j : ℕ) → j < n → a ≢ old + j) → run_goes old new n a ≡ a
unfolding run_goes
run-other old new zero a h = refl
run-other old new (suc n) a h =
    let same : run_goes old new n a ≡ a = run-other old new n a (λ j lt. h j (omega (arith, lt))) in
    ap (λ b. cond (eqb b (old + n)) (new + n) b) same ∙ cond-false (eqb a (old + n)) (new + n) a (ne_eqb a (old + n) (h n (omega arith)))

run-at : (old new n j : ℕ) → new ≤ old → j < n → run_goes old new n (old + j) ≡ new + j
unfolding run_goes
run-at old new zero j le lt = absurd (omega (arith, lt))
run-at old new (suc n) j le lt =
    ⊎_elim (λ (e : j ≡ n).
    let same : run_goes old new n (old + j) ≡ old + j = run-other old new n (old + j) (λ i li. omega (arith, li, e)) in
    ap (λ b. cond (eqb b (old + n)) (new + n) b) same ∙ cond-true (eqb (old + j) (old + n)) (new + n) (old + j) (eq-eqb (old + j) (old + n) (ap (λ k. old + k) e)) ∙ ap (λ k. new + k) (sym e))
    (λ (ne : j ≡ n → ⊥).
    let less : j < n = omega (arith, lt, ne) in
    let there : run_goes old new n (old + j) ≡ new + j = run-at old new n j le less in
    ap (λ b. cond (eqb b (old + n)) (new + n) b) there ∙ cond-false (eqb (new + j) (old + n)) (new + n) (new + j) (ne_eqb (new + j) (old + n) (omega (arith, less, le))))
    (cases_eq j n)

-- where the slots of the first moves' objects go
pub goes_to : List ℕ → ℕ → (ℕ → Move) → ℕ → ℕ
goes_to heap zero moves a = a
goes_to heap (suc k) moves a = run_goes ((moves k).old + OBJECT_WORDS) ((moves k).new + OBJECT_WORDS) (fields_at heap (moves k).new) (goes_to heap k moves a)

pub followed-map : (heap : List ℕ) (count : ℕ) (moves : ℕ → Move) (l : List ℕ) → followed heap count moves l ≡ map (goes_to heap count moves) l
unfolding goes_to
followed-map heap zero moves l = followed-none heap moves l ∙ map-same l
followed-map heap (suc k) moves l =
    followed-suc heap k moves l
    ∙ ap (moved_run ((moves k).old + OBJECT_WORDS) ((moves k).new + OBJECT_WORDS) (fields_at heap (moves k).new)) (followed-map heap k moves l)
    ∙ run-map ((moves k).old + OBJECT_WORDS) ((moves k).new + OBJECT_WORDS) (fields_at heap (moves k).new) (map (goes_to heap k moves) l)
    ∙ map-map (goes_to heap k moves) (run_goes ((moves k).old + OBJECT_WORDS) ((moves k).new + OBJECT_WORDS) (fields_at heap (moves k).new)) l

-- how a slide goes
pub record Goes (heap : List ℕ) (count : ℕ) (moves : ℕ → Move) : Type 0 where
  pub behind : (j k : ℕ) → j < k → k < count → (moves j).old + size_at heap (moves j).new ≤ (moves k).old
  pub spread : (j k : ℕ) → j < k → k < count → (moves j).new + size_at heap (moves j).new ≤ (moves k).new
  pub front : (k : ℕ) → k < count → (moves k).new ≤ (moves k).old

goes-less : (heap : List ℕ) (count : ℕ) (moves : ℕ → Move) → Goes heap (suc count) moves → Goes heap count moves
goes-less heap count moves h = record {
  behind = λ j k lt lk. h.behind j k lt (omega (arith, lk));
  spread = λ j k lt lk. h.spread j k lt (omega (arith, lk));
  front = λ k lt. h.front k (omega (arith, lt));
}

pub goes-other : (heap : List ℕ) (count : ℕ) (moves : ℕ → Move) (a : ℕ) → ((k f : ℕ) → k < count → f < fields_at heap (moves k).new → a ≢ (moves k).old + OBJECT_WORDS + f) → goes_to heap count moves a ≡ a
unfolding goes_to
goes-other heap zero moves a h = refl
goes-other heap (suc k) moves a h =
    ap (run_goes ((moves k).old + OBJECT_WORDS) ((moves k).new + OBJECT_WORDS) (fields_at heap (moves k).new)) (goes-other heap k moves a (λ j f lt lf. h j f (omega (arith, lt)) lf))
    ∙ run-other ((moves k).old + OBJECT_WORDS) ((moves k).new + OBJECT_WORDS) (fields_at heap (moves k).new) a (λ f lf. h k f (omega arith) lf)

pub goes-at : (heap : List ℕ) (count : ℕ) (moves : ℕ → Move) (k f : ℕ) → Goes heap count moves → k < count → f < fields_at heap (moves k).new → goes_to heap count moves ((moves k).old + OBJECT_WORDS + f) ≡ (moves k).new + OBJECT_WORDS + f
unfolding goes_to
goes-at heap zero moves k f h lt lf = absurd (omega (arith, lt))
goes-at heap (suc n) moves k f h lt lf =
    ⊎_elim (λ (e : k ≡ n).
    let before : goes_to heap n moves ((moves k).old + OBJECT_WORDS + f) ≡ (moves k).old + OBJECT_WORDS + f = goes-other heap n moves ((moves k).old + OBJECT_WORDS + f) (λ j i lj li z. omega (arith, li, z, h.behind j k (omega (arith, lj, e)) lt)) in
    ap (run_goes ((moves n).old + OBJECT_WORDS) ((moves n).new + OBJECT_WORDS) (fields_at heap (moves n).new)) before
    ∙ subst (λ j. run_goes ((moves j).old + OBJECT_WORDS) ((moves j).new + OBJECT_WORDS) (fields_at heap (moves j).new) ((moves k).old + OBJECT_WORDS + f) ≡ (moves k).new + OBJECT_WORDS + f) e (run-at ((moves k).old + OBJECT_WORDS) ((moves k).new + OBJECT_WORDS) (fields_at heap (moves k).new) f (omega (arith, h.front k lt)) lf))
    (λ (ne : k ≡ n → ⊥).
    let less : k < n = omega (arith, lt, ne) in
    ap (run_goes ((moves n).old + OBJECT_WORDS) ((moves n).new + OBJECT_WORDS) (fields_at heap (moves n).new)) (goes-at heap n moves k f (goes-less heap n moves h) less lf)
    ∙ run-other ((moves n).old + OBJECT_WORDS) ((moves n).new + OBJECT_WORDS) (fields_at heap (moves n).new) ((moves k).new + OBJECT_WORDS + f) (λ j lj z. omega (arith, z, lf, h.spread k n less (omega arith), h.front n (omega arith))))
    (cases_eq k n)
