-- Sums over tasks that are dealt out.
use Rattle.std.proofs.Common.{◌≡◌, ℕ, zero, suc, ◌+◌, ◌-◌, ◌*◌, ◌<◌, ◌≤◌, ◌==◌, List, [], ◌∷◌, ◌++◌, Bool, true, false, All, cond, nat_lt, sum_by, subst, refl, ap, sym, ◌∙◌, arith}
use Rattle.std.specs.List.{range_with_len}
use Rattle.std.proofs.lemmas.Bool.Decides.{nat_tests}
use Rattle.std.proofs.lemmas.List.Elements.{All-cons, All-head, All-tail, All-nil}
use Rattle.std.proofs.lemmas.List.Sums.{sum_by-append, sum_by-cons}
use Rattle.task_feed.specs.Dealt.{IsAscending, IsDealt, places}
use Rattle.task_feed.proofs.Rows.{all_below, places_append}

-- ---- sums over a range

pub same_in_range : (f g : ℕ → ℕ) (a n : ℕ) → ((t : ℕ) → a ≤ t → t < a + n → f t ≡ g t) → sum_by f (range_with_len a n) ≡ sum_by g (range_with_len a n)
same_in_range f g a zero same = refl
same_in_range f g a (suc n) same =
    let rest = same_in_range f g (a + 1) n (λ t from to. same t (omega (arith, from)) (omega (arith, to))) in
    let here = same a (omega arith) (omega arith) in
    omega (arith, sum_by-cons f a (range_with_len (a + 1) n), sum_by-cons g a (range_with_len (a + 1) n), rest, here)

pub none_in_range : (f : ℕ → ℕ) (a n : ℕ) → ((t : ℕ) → a ≤ t → t < a + n → f t ≡ 0) → sum_by f (range_with_len a n) ≡ 0
none_in_range f a zero none = refl
none_in_range f a (suc n) none =
    let rest = none_in_range f (a + 1) n (λ t from to. none t (omega (arith, from)) (omega (arith, to))) in
    let here = none a (omega arith) (omega arith) in
    omega (arith, sum_by-cons f a (range_with_len (a + 1) n), rest, here)

both_in_range : (f g : ℕ → ℕ) (a n : ℕ) → sum_by (λ (t : ℕ). f t + g t) (range_with_len a n) ≡ sum_by f (range_with_len a n) + sum_by g (range_with_len a n)
both_in_range f g a zero = refl
both_in_range f g a (suc n) =
    let rest = both_in_range f g (a + 1) n in
    omega (arith, sum_by-cons (λ (t : ℕ). f t + g t) a (range_with_len (a + 1) n), sum_by-cons f a (range_with_len (a + 1) n), sum_by-cons g a (range_with_len (a + 1) n), rest)

at_same : (x : ℕ) (k : ℕ) → cond (x == x) k 0 ≡ k
at_same x k = grind (arith, nat_tests)

at_other : (x t : ℕ) (k : ℕ) → x < t → cond (x == t) k 0 ≡ 0
at_other x t k less = grind (arith, nat_tests)

at_less : (x t : ℕ) (k : ℕ) → t < x → cond (x == t) k 0 ≡ 0
at_less x t k less = grind (arith, nat_tests)

-- the sum of what one number of the range has
pub one_in_range : (f : ℕ → ℕ) (x a n : ℕ) → a ≤ x → x < a + n → sum_by (λ (t : ℕ). cond (x == t) (f t) 0) (range_with_len a n) ≡ f x
one_in_range f x a zero from to = absurd (omega (arith, from, to))
one_in_range f x a (suc n) from to = by (λ up. one_in_range f x (a + 1) n up (omega (arith, to))) (x - a) refl
  where
    c : sum_by (λ (t : ℕ). cond (x == t) (f t) 0) (a ∷ range_with_len (a + 1) n) ≡ cond (x == a) (f a) 0 + sum_by (λ (t : ℕ). cond (x == t) (f t) 0) (range_with_len (a + 1) n)
    c = sum_by-cons (λ (t : ℕ). cond (x == t) (f t) 0) a (range_with_len (a + 1) n)

    by : (a + 1 ≤ x → sum_by (λ (t : ℕ). cond (x == t) (f t) 0) (range_with_len (a + 1) n) ≡ f x) → (d : ℕ) → x - a ≡ d → sum_by (λ (t : ℕ). cond (x == t) (f t) 0) (a ∷ range_with_len (a + 1) n) ≡ f x
    by more zero e =
        let same : a ≡ x = omega (arith, e, from) in
        let rest = none_in_range (λ (t : ℕ). cond (x == t) (f t) 0) (a + 1) n (λ t least most. at_other x t (f t) (omega (arith, least, same))) in
        let here : cond (x == a) (f a) 0 ≡ f x = subst (λ (y : ℕ). cond (x == y) (f y) 0 ≡ f x) (sym same) (at_same x (f x)) in
        omega (arith, c, rest, here)
    by more (suc d) e =
        let rest = more (omega (arith, e)) in
        let here = at_less x a (f a) (omega (arith, e)) in
        omega (arith, c, rest, here)

-- ---- sums by places

added : (x t p k : ℕ) → (cond (x == t) 1 0 + p) * k ≡ cond (x == t) k 0 + p * k
added x t p k = by (x == t)
  where
    by : (b : Bool) → (cond b 1 0 + p) * k ≡ cond b k 0 + p * k
    by true = grind arith
    by false = grind arith

-- a sum over numbers below n goes by the places of each
pub sum_by_places : (f : ℕ → ℕ) (n : ℕ) (row : List ℕ) → All (λ task. task < n) row → sum_by f row ≡ sum_by (λ (t : ℕ). places t row * f t) (range_with_len 0 n)
sum_by_places f n [] below = sym (none_in_range (λ (t : ℕ). 0 * f t) 0 n (λ t from to. omega arith))
sum_by_places f n (x ∷ xs) below =
    let least = All-head (λ (task : ℕ). task < n) x xs below in
    let rest = sum_by_places f n xs (All-tail (λ (task : ℕ). task < n) x xs below) in
    let split = same_in_range (λ (t : ℕ). places t (x ∷ xs) * f t) (λ (t : ℕ). cond (x == t) (f t) 0 + places t xs * f t) 0 n
    (λ t from to. ap (λ (k : ℕ). k * f t) (sum_by-cons (λ (other : ℕ). cond (other == t) 1 0) x xs) ∙ added x t (places t xs) (f t)) in
    let both = both_in_range (λ (t : ℕ). cond (x == t) (f t) 0) (λ (t : ℕ). places t xs * f t) 0 n in
    let one = one_in_range f x 0 n (omega arith) (omega (arith, least)) in
    omega (arith, sum_by-cons f x xs, split, both, one, rest)

-- ---- rows

-- the rows one after another
abbrev pub joined : List (List ℕ) → List ℕ
joined [] = []
joined (row ∷ rows) = row ++ joined rows

pub sum_joined : (f : ℕ → ℕ) (rows : List (List ℕ)) → sum_by f (joined rows) ≡ sum_by (sum_by f) rows
sum_joined f [] = refl
sum_joined f (row ∷ rows) = omega (arith, sum_by-append f row (joined rows), sum_by-cons (sum_by f) row rows, sum_joined f rows)

places_all : (n : ℕ) (rows : List (List ℕ)) (left : List ℕ) → IsDealt n rows left → (task : ℕ) → places task (joined rows ++ left) ≡ cond (nat_lt task n) 1 0
places_all n rows left dealt task =
    let p = sum_joined (λ (other : ℕ). cond (other == task) 1 0) rows in
    omega (arith, places_append task (joined rows) left, p, dealt.once task)

all_within : (n : ℕ) (rows : List (List ℕ)) (left : List ℕ) → IsDealt n rows left → All (λ task. task < n) (joined rows ++ left)
all_within n rows left dealt = all_below (joined rows ++ left) n (λ task. (let p = places_all n rows left dealt task in omega (arith, p)))

one_below : (t n k : ℕ) → t < n → cond (nat_lt t n) 1 0 * k ≡ k
one_below t n k less = by (nat_lt t n) refl
  where
    by : (b : Bool) → nat_lt t n ≡ b → cond b 1 0 * k ≡ k
    by true e = grind arith
    by false e = absurd (grind (arith, nat_tests, e, less))

pub dealt_sum : (f : ℕ → ℕ) (n : ℕ) (rows : List (List ℕ)) (left : List ℕ) → IsDealt n rows left → sum_by (sum_by f) rows + sum_by f left ≡ sum_by f (range_with_len 0 n)
dealt_sum f n rows left dealt =
    let all = joined rows ++ left in
    let by_places = sum_by_places f n all (all_within n rows left dealt) in
    let once = same_in_range (λ (t : ℕ). places t all * f t) f 0 n
    (λ t from to. ap (λ (k : ℕ). k * f t) (places_all n rows left dealt t) ∙ one_below t n (f t) (omega (arith, to))) in
    omega (arith, sum_joined f rows, sum_by-append f (joined rows) left, by_places, once)

left_all : (P : ℕ → Type 0) (xs ys : List ℕ) → All P (xs ++ ys) → All P xs
left_all P [] ys h = All-nil P
left_all P (x ∷ xs) ys h = All-cons P x xs (All-head P x (xs ++ ys) h) (left_all P xs ys (All-tail P x (xs ++ ys) h))

right_all : (P : ℕ → Type 0) (xs ys : List ℕ) → All P (xs ++ ys) → All P ys
right_all P [] ys h = h
right_all P (x ∷ xs) ys h = right_all P xs ys (All-tail P x (xs ++ ys) h)

each_row : (P : ℕ → Type 0) (rows : List (List ℕ)) → All P (joined rows) → All (All P) rows
each_row P [] h = All-nil (All P)
each_row P (row ∷ rows) h = All-cons (All P) row rows (left_all P row (joined rows) h) (each_row P rows (right_all P row (joined rows) h))

pub dealt_within : (n : ℕ) (rows : List (List ℕ)) (left : List ℕ) → IsDealt n rows left → All (All (λ task. task < n)) rows
dealt_within n rows left dealt = each_row (λ (task : ℕ). task < n) rows (left_all (λ (task : ℕ). task < n) (joined rows) left (all_within n rows left dealt))

-- ---- a row by itself

later : (x : ℕ) (xs : List ℕ) → IsAscending (x ∷ xs) → All (λ task. x < task) xs
later x xs is k d below = is 0 (suc k) d (omega arith) (omega (arith, below))

rest_ascends : (x : ℕ) (xs : List ℕ) → IsAscending (x ∷ xs) → IsAscending xs
rest_ascends x xs is i j d less below = is (suc i) (suc j) d (omega (arith, less)) (omega (arith, below))

-- numbers above a task have no place for it
none_above : (task : ℕ) (row : List ℕ) → All (λ other. task < other) row → places task row ≡ 0
none_above task [] above = refl
none_above task (x ∷ xs) above =
    let c = sum_by-cons (λ (other : ℕ). cond (other == task) 1 0) x xs in
    let here = at_less x task 1 (All-head (λ (other : ℕ). task < other) x xs above) in
    let rest = none_above task xs (All-tail (λ (other : ℕ). task < other) x xs above) in
    omega (arith, c, here, rest)

once_at_most : (task : ℕ) (row : List ℕ) → IsAscending row → places task row ≤ 1
once_at_most task [] is = omega arith
once_at_most task (x ∷ xs) is = by (x == task) refl (once_at_most task xs (rest_ascends x xs is))
  where
    c : places task (x ∷ xs) ≡ cond (x == task) 1 0 + places task xs
    c = sum_by-cons (λ (other : ℕ). cond (other == task) 1 0) x xs

    by : (b : Bool) → (x == task) ≡ b → places task xs ≤ 1 → places task (x ∷ xs) ≤ 1
    by true e rest =
        let same : x ≡ task = grind (arith, nat_tests, e) in
        let none = none_above task xs (subst (λ (t : ℕ). All (λ (other : ℕ). t < other) xs) same (later x xs is)) in
        let one = ap (λ (b : Bool). cond {A = ℕ} b 1 0) e in
        omega (arith, c, none, one)
    by false e rest =
        let one = ap (λ (b : Bool). cond {A = ℕ} b 1 0) e in
        omega (arith, c, rest, one)

at_most : (p k : ℕ) → p ≤ 1 → p * k ≤ k
at_most zero k le = omega arith
at_most (suc zero) k le = omega arith
at_most (suc (suc p)) k le = absurd (omega (arith, le))

less_in_range : (f g : ℕ → ℕ) (a n : ℕ) → ((t : ℕ) → f t ≤ g t) → sum_by f (range_with_len a n) ≤ sum_by g (range_with_len a n)
less_in_range f g a zero less = omega arith
less_in_range f g a (suc n) less =
    omega (arith, sum_by-cons f a (range_with_len (a + 1) n), sum_by-cons g a (range_with_len (a + 1) n), less a, less_in_range f g (a + 1) n less)

-- What is added up over an ascending row of tasks is at most what is added up over all tasks.
pub row_sum_within : (f : ℕ → ℕ) (n : ℕ) (row : List ℕ) → IsAscending row → All (λ task. task < n) row → sum_by f row ≤ sum_by f (range_with_len 0 n)
row_sum_within f n row is below =
    let by_places = sum_by_places f n row below in
    let less = less_in_range (λ (t : ℕ). places t row * f t) f 0 n (λ t. at_most (places t row) (f t) (once_at_most t row is)) in
    omega (arith, by_places, less)
