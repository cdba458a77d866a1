-- Sums over lists: added, exchanged, and compared.
use Rattle.std.proofs.Common.{◌≡◌, ◌≢◌, ℕ, zero, suc, ◌+◌, ◌-◌, ◌≤◌, ◌<◌, Bool, true, false, cond, List, [], ◌∷◌, ◌++◌, map, length, get_or, refl, sym, ap, subst, ◌∙◌, arith}
use Rattle.std.proofs.Math.Logic.{⊎_elim}
use Rattle.std.specs.List.{Contains, range_with_len, remove, sum_by}
use Rattle.std.proofs.lemmas.Bool.{cases_eq, cases_lt}
use Rattle.std.proofs.lemmas.List.{get_or_default}
use Rattle.std.proofs.lemmas.List.Edits.{length-remove, get_or-remove_below, get_or-remove_above}
use Rattle.std.proofs.lemmas.List.Elements.{Contains-append_cases}
use Rattle.std.proofs.lemmas.List.FromFn.{length-range_with_len, get_or-range_with_len}
use Rattle.std.proofs.lemmas.List.Sums.{sum_by-cons, sum_by-remove}
use Rattle.heap_words.specs.Cells.{row}
use Rattle.yak_model.proofs.Lists.{contains_cons}

pub contains_first : {X : Type 0} (x : X) (xs : List X) → Contains (x ∷ xs) x
contains_first x xs = (0, omega arith, refl)

-- two sums in one
pub sum-added : {X : Type 0} (f g : X → ℕ) (xs : List X) → sum_by (λ (x : X). f x + g x) xs ≡ sum_by f xs + sum_by g xs
sum-added f g [] = refl
sum-added {X} f g (x ∷ xs) = omega (arith, sum_by-cons (λ (y : X). f y + g y) x xs, sum_by-cons f x xs, sum_by-cons g x xs, sum-added f g xs)

pub sum-none : {X : Type 0} (xs : List X) → sum_by (λ (x : X). 0) xs ≡ 0
sum-none [] = refl
sum-none {X} (x ∷ xs) = omega (arith, sum_by-cons (λ (y : X). 0) x xs, sum-none xs)

pub sum-ones : {X : Type 0} (xs : List X) → sum_by (λ (x : X). 1) xs ≡ length xs
sum-ones [] = refl
sum-ones {X} (x ∷ xs) = omega (arith, sum_by-cons (λ (y : X). 1) x xs, sum-ones xs)

-- a sum of sums, in the other order
pub sum-swapped : {X Y : Type 0} (f : X → Y → ℕ) (xs : List X) (ys : List Y) → sum_by (λ (x : X). sum_by (f x) ys) xs ≡ sum_by (λ (y : Y). sum_by (λ (x : X). f x y) xs) ys
sum-swapped f [] ys = sym (sum-none ys)
sum-swapped {X} {Y} f (x ∷ xs) ys =
    sum_by-cons (λ (z : X). sum_by (f z) ys) x xs
    ∙ ap (λ (n : ℕ). sum_by (f x) ys + n) (sum-swapped f xs ys)
    ∙ sym (sum-added (f x) (λ (y : Y). sum_by (λ (z : X). f z y) xs) ys)
    ∙ (λ i. sum_by (λ (y : Y). sym (sum_by-cons (λ (z : X). f z y) x xs) i) ys)

pub sum-mapped : {X Y : Type 0} (g : Y → ℕ) (f : X → Y) (xs : List X) → sum_by g (map f xs) ≡ sum_by (λ (x : X). g (f x)) xs
sum-mapped g f [] = refl
sum-mapped {X} g f (x ∷ xs) = sum_by-cons g (f x) (map f xs) ∙ ap (λ n. g (f x) + n) (sum-mapped g f xs) ∙ sym (sum_by-cons (λ (y : X). g (f y)) x xs)

-- a sum by a test is in two parts
parted : (b : Bool) (n : ℕ) → n ≡ cond b n 0 + cond b 0 n
parted true n = omega arith
parted false n = omega arith

pub sum-parted : {X : Type 0} (b : X → Bool) (f : X → ℕ) (xs : List X) → sum_by f xs ≡ sum_by (λ (x : X). cond (b x) (f x) 0) xs + sum_by (λ (x : X). cond (b x) 0 (f x)) xs
sum-parted {X} b f xs = (λ i. sum_by (λ (x : X). parted (b x) (f x) i) xs) ∙ sum-added (λ (x : X). cond (b x) (f x) 0) (λ (x : X). cond (b x) 0 (f x)) xs

-- sums whose terms are the same or less for each element
pub sum-same : {X : Type 0} (f g : X → ℕ) (xs : List X) → ((x : X) → Contains xs x → f x ≡ g x) → sum_by f xs ≡ sum_by g xs
sum-same f g [] h = refl
sum-same {X} f g (x ∷ xs) h =
    let here : f x ≡ g x = h x (contains_first x xs) in
    let rest : sum_by f xs ≡ sum_by g xs = sum-same f g xs (λ y c. h y (contains_cons x xs y c)) in
    omega (arith, sum_by-cons f x xs, sum_by-cons g x xs, here, rest)

pub sum-less : {X : Type 0} (f g : X → ℕ) (xs : List X) → ((x : X) → Contains xs x → f x ≤ g x) → sum_by f xs ≤ sum_by g xs
sum-less f g [] h = omega arith
sum-less {X} f g (x ∷ xs) h =
    let here : f x ≤ g x = h x (contains_first x xs) in
    let rest : sum_by f xs ≤ sum_by g xs = sum-less f g xs (λ y c. h y (contains_cons x xs y c)) in
    omega (arith, sum_by-cons f x xs, sum_by-cons g x xs, here, rest)

-- the same of two lists, place by place
pub sums-less : {X Y : Type 0} (f : X → ℕ) (g : Y → ℕ) (d : X) (e : Y) (xs : List X) (ys : List Y) → length xs ≡ length ys → ((k : ℕ) → k < length xs → f (get_or xs k d) ≤ g (get_or ys k e)) → sum_by f xs ≤ sum_by g ys
sums-less f g d e [] [] long h = omega arith
sums-less f g d e [] (y ∷ ys) long h = absurd (omega arith)
sums-less f g d e (x ∷ xs) [] long h = absurd (omega arith)
sums-less f g d e (x ∷ xs) (y ∷ ys) long h =
    let here : f x ≤ g y = h 0 (omega arith) in
    let rest : sum_by f xs ≤ sum_by g ys = sums-less f g d e xs ys (omega arith) (λ k lt. h (suc k) (omega (arith, lt))) in
    omega (arith, sum_by-cons f x xs, sum_by-cons g y ys, here, rest)

-- ---- lists without repeats
abbrev pub Distinct : {X : Type 0} → List X → Type 0
Distinct [] = Unit {0}
Distinct (x ∷ xs) = (Contains xs x → ⊥) × Distinct xs

pub distinct-append : {X : Type 0} (xs ys : List X) → Distinct xs → Distinct ys → ((x : X) → Contains xs x → Contains ys x → ⊥) → Distinct (xs ++ ys)
distinct-append [] ys dx dy apart = dy
distinct-append {X} (x ∷ xs) ys dx dy apart = (
  λ c. ⊎_elim (λ (a : Contains xs x). dx.0 a) (λ (b : Contains ys x). apart x (contains_first x xs) b) (Contains-append_cases xs ys x c),
  distinct-append xs ys dx.1 dy (λ z a b. apart z (contains_cons x xs z a) b),
)

-- what is left in a list without one of its elements
still : {X : Type 0} (ys : List X) (i : ℕ) (y : X) → i < length ys → Contains ys y → get_or ys i y ≢ y → Contains (remove ys i) y
still ys i y lt c ne =
    let long = length-remove ys i lt in
    ⊎_elim
    (λ (below : c.0 < i). (c.0, omega (arith, long, below, lt), get_or-remove_below ys i y c.0 below lt ∙ c.2))
    (λ (above : i ≤ c.0). ⊎_elim
    (λ (e : c.0 ≡ i). absurd (ne (ap (λ j. get_or ys j y) (sym e) ∙ c.2)))
    (λ (other : c.0 ≢ i).
    let next : c.0 - 1 + 1 ≡ c.0 = omega (arith, above, other) in
    (c.0 - 1, omega (arith, long, above, other, c.1), get_or-remove_above ys i y (c.0 - 1) (omega (arith, above, other)) lt ∙ ap (λ j. get_or ys j y) next ∙ c.2))
    (cases_eq c.0 i))
    (cases_lt c.0 i)

-- the sum over a list without repeats is at most that over a list with all of its elements
pub sum-inside : {X : Type 0} (f : X → ℕ) (xs ys : List X) → Distinct xs → ((x : X) → Contains xs x → Contains ys x) → sum_by f xs ≤ sum_by f ys
sum-inside f [] ys d h = omega arith
sum-inside {X} f (x ∷ xs) ys d h =
    let c : Contains ys x = h x (contains_first x xs) in
    let rest : List X = remove ys c.0 in
    let all : sum_by f rest + f (get_or ys c.0 x) ≡ sum_by f ys = sum_by-remove f ys c.0 x c.1 in
    let same : f (get_or ys c.0 x) ≡ f x = ap f c.2 in
    let less : sum_by f xs ≤ sum_by f rest =
    sum-inside f xs rest d.1 (λ y b. still ys c.0 y c.1 (h y (contains_cons x xs y b)) (λ e. d.0 (subst (Contains xs) (sym e ∙ get_or_default ys c.0 y x c.1 ∙ c.2) b))) in
    omega (arith, sum_by-cons f x xs, all, same, less)

pub sum-alike : {X : Type 0} (f : X → ℕ) (xs ys : List X) → Distinct xs → Distinct ys → ((x : X) → Contains xs x → Contains ys x) → ((x : X) → Contains ys x → Contains xs x) → sum_by f xs ≡ sum_by f ys
sum-alike f xs ys dx dy to from =
    let less = sum-inside f xs ys dx to in
    let more = sum-inside f ys xs dy from in
    omega (arith, less, more)

-- ---- the numbers below another, and the first rows of a table
pub below-number : (n p : ℕ) → Contains (range_with_len 0 n) p → p < n
below-number n p c =
    let short : c.0 < n = omega (arith, c.1, length-range_with_len 0 n) in
    omega (arith, short, c.2, get_or-range_with_len 0 n c.0 p short)

upto : (ℕ → ℕ) → ℕ → ℕ
upto f zero = 0
upto f (suc n) = upto f n + f n

upto-front : (f : ℕ → ℕ) (n : ℕ) → upto f (suc n) ≡ f 0 + upto (λ p. f (suc p)) n
unfolding upto
upto-front f zero = omega arith
upto-front f (suc n) = omega (arith, upto-front f n)

upto-range : (f : ℕ → ℕ) (a n : ℕ) → sum_by f (range_with_len a n) ≡ upto (λ p. f (a + p)) n
unfolding upto
upto-range f a zero = refl
upto-range f a (suc n) =
    let rest : sum_by f (range_with_len (a + 1) n) ≡ upto (λ p. f ((a + 1) + p)) n = upto-range f (a + 1) n in
    let moved : upto (λ p. f ((a + 1) + p)) n ≡ upto (λ p. f (a + suc p)) n = λ i. upto (λ p. f (let e : (a + 1) + p ≡ a + suc p = omega arith in e i)) n in
    let front : upto (λ p. f (a + p)) (suc n) ≡ f (a + 0) + upto (λ p. f (a + suc p)) n = upto-front (λ p. f (a + p)) n in
    let first : f (a + 0) ≡ f a = ap f (omega arith) in
    omega (arith, sum_by-cons f a (range_with_len (a + 1) n), rest, moved, front, first)

upto-rows : (g : List ℕ → ℕ) (table : List (List ℕ)) (n : ℕ) → g [] ≡ 0 → upto (λ p. g (row table p)) n ≤ sum_by g table
unfolding upto
upto-rows g [] zero none = omega arith
upto-rows g [] (suc n) none =
    let before : upto (λ p. g (row [] p)) n ≤ 0 = upto-rows g [] n none in
    let last : g (row [] n) ≡ 0 = none in
    omega (arith, before, last)
upto-rows g (r ∷ rs) zero none = omega arith
upto-rows g (r ∷ rs) (suc n) none =
    let rest : upto (λ p. g (row rs p)) n ≤ sum_by g rs = upto-rows g rs n none in
    let front : upto (λ p. g (row (r ∷ rs) p)) (suc n) ≡ g r + upto (λ p. g (row rs p)) n = upto-front (λ p. g (row (r ∷ rs) p)) n in
    omega (arith, sum_by-cons g r rs, rest, front)

pub sum-rows : (g : List ℕ → ℕ) (table : List (List ℕ)) (n : ℕ) → g [] ≡ 0 → sum_by (λ (p : ℕ). g (row table p)) (range_with_len 0 n) ≤ sum_by g table
sum-rows g table n none =
    let same : sum_by (λ (p : ℕ). g (row table p)) (range_with_len 0 n) ≡ upto (λ p. g (row table p)) n =
    upto-range (λ (p : ℕ). g (row table p)) 0 n ∙ (λ i. upto (λ p. g (row table (let e : 0 + p ≡ p = omega arith in e i))) n) in
    let less = upto-rows g table n none in
    omega (arith, same, less)
