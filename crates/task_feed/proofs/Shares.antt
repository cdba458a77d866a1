-- Fixed shares deal the tasks out.
use Rattle.std.proofs.Common.{◌≡◌, ℕ, zero, suc, ◌+◌, ◌%◌, ◌<◌, ◌≤◌, ◌==◌, List, [], ◌∷◌, ◌++◌, Bool, true, false, All, AllPairs, cond, filter, map, nat_lt, sum_by, get_or, refl, ap, sym, ◌∙◌, ◌≢◌, ◌⊎◌, inl, inr, ⊎_elim, true≢false, arith}
use Rattle.std.specs.List.{range_with_len}
use Rattle.std.proofs.lemmas.Nat.{mod_below}
use Rattle.std.proofs.lemmas.Bool.Decides.{eqb_tells, nat_tests}
use lib.Dec.{eqb}
use Rattle.std.proofs.lemmas.List.Elements.{All-cons, All-filter, All-map, All-nil, filter-append}
use Rattle.std.proofs.lemmas.List.FromFn.{map-range_with_len_more}
use Rattle.std.proofs.lemmas.List.Kept.{AllPairs-cons, AllPairs-filter}
use Rattle.std.proofs.lemmas.List.Sums.{sum_by-cons}
use Rattle.task_feed.specs.Dealt.{IsAscending, IsDealt, places}
use Rattle.task_feed.specs.Shares.{fixed_shares, share_of}
use Rattle.task_feed.proofs.Sums.{none_in_range, one_in_range, same_in_range}

-- ---- a range is ascending

above : (least a n : ℕ) → least < a → All (λ task. least < task) (range_with_len a n)
above least a zero less = All-nil (λ (task : ℕ). least < task)
above least a (suc n) less = All-cons (λ (task : ℕ). least < task) a (range_with_len (a + 1) n) less (above least (a + 1) n (omega (arith, less)))

no_pairs : AllPairs (λ (task later : ℕ). task < later) []
no_pairs i j d less below = absurd (omega (arith, below))

range_ascends : (a n : ℕ) → IsAscending (range_with_len a n)
range_ascends a zero = no_pairs
range_ascends a (suc n) = AllPairs-cons (λ (task later : ℕ). task < later) a (range_with_len (a + 1) n) (above a (a + 1) n (omega arith)) (range_ascends (a + 1) n)

-- ---- places

step : (b d : Bool) (m p f : ℕ) → f ≡ cond d p 0 → (m ≡ 0) ⊎ (b ≡ d) → cond b (m + f) f ≡ cond d (m + p) 0
step true true m p f is may = omega (arith, is)
step true false m p f is may = ⊎_elim (λ (e : m ≡ 0). omega (arith, is, e)) (λ (e : true ≡ false). absurd (true≢false e)) may
step false true m p f is may = ⊎_elim (λ (e : m ≡ 0). omega (arith, is, e)) (λ (e : false ≡ true). absurd (true≢false (sym e))) may
step false false m p f is may = is

-- a filter keeps the places of what passes
places_filter : (p : ℕ → Bool) (task : ℕ) (row : List ℕ) → places task (filter p row) ≡ cond (p task) (places task row) 0
places_filter p task [] = by (p task)
  where
    by : (b : Bool) → ◌≡◌ {A = ℕ} 0 (cond b 0 0)
    by true = refl
    by false = refl
places_filter p task (x ∷ xs) =
    first_is (p x)
    ∙ step (p x) (p task) (cond (x == task) 1 0) (places task xs) (places task (filter p xs)) (places_filter p task xs)
    (⊎_elim (λ (e : (eqb x task ≡ true) × (x ≡ task)). inr (ap p e.1)) (λ (e : (eqb x task ≡ false) × (x ≢ task)). inl (ap (λ (b : Bool). cond b 1 0) e.0)) (eqb_tells x task))
    ∙ ap (λ (k : ℕ). cond (p task) k 0) (sym (c xs))
  where
    c : (ys : List ℕ) → places task (x ∷ ys) ≡ cond (x == task) 1 0 + places task ys
    c ys = sum_by-cons (λ (other : ℕ). cond (other == task) 1 0) x ys

    first_is : (b : Bool) → places task (cond b (x ∷ filter p xs) (filter p xs)) ≡ cond b (cond (x == task) 1 0 + places task (filter p xs)) (places task (filter p xs))
    first_is true = c (filter p xs)
    first_is false = refl

turned : (t task : ℕ) → cond {A = ℕ} (t == task) 1 0 ≡ cond (task == t) 1 0
turned t task = grind (arith, nat_tests)

differs : (t task : ℕ) → t < task → cond {A = ℕ} (t == task) 1 0 ≡ 0
differs t task less = grind (arith, nat_tests)

ltb_tells : (a b : ℕ) → ((nat_lt a b ≡ true) × (a < b)) ⊎ ((nat_lt a b ≡ false) × (b ≤ a))
ltb_tells a b = by (nat_lt a b) refl
  where
    by : (t : Bool) → nat_lt a b ≡ t → ((nat_lt a b ≡ true) × (a < b)) ⊎ ((nat_lt a b ≡ false) × (b ≤ a))
    by true e = inl (e, grind (arith, nat_tests, e))
    by false e = inr (e, grind (arith, nat_tests, e))

places_range : (task n : ℕ) → places task (range_with_len 0 n) ≡ cond (nat_lt task n) 1 0
places_range task n = ⊎_elim inside outside (ltb_tells task n)
  where
    inside : (nat_lt task n ≡ true) × (task < n) → places task (range_with_len 0 n) ≡ cond (nat_lt task n) 1 0
    inside e =
        same_in_range (λ (t : ℕ). cond (t == task) 1 0) (λ (t : ℕ). cond (task == t) 1 0) 0 n (λ t from to. turned t task)
        ∙ one_in_range (λ (t : ℕ). 1) task 0 n (omega arith) (omega (arith, e.1))
        ∙ ap (λ (b : Bool). cond b 1 0) (sym e.0)

    outside : (nat_lt task n ≡ false) × (n ≤ task) → places task (range_with_len 0 n) ≡ cond (nat_lt task n) 1 0
    outside e =
        none_in_range (λ (t : ℕ). cond (t == task) 1 0) 0 n (λ t from to. differs t task (omega (arith, to, e.1)))
        ∙ ap (λ (b : Bool). cond b 1 0) (sym e.0)

sum_map : (f : List ℕ → ℕ) (g : ℕ → List ℕ) (xs : List ℕ) → sum_by f (map g xs) ≡ sum_by (λ (x : ℕ). f (g x)) xs
sum_map f g [] = refl
sum_map f g (x ∷ xs) = omega (arith, sum_by-cons f (g x) (map g xs), sum_by-cons (λ (y : ℕ). f (g y)) x xs, sum_map f g xs)

share_ascends : (n workers worker : ℕ) → IsAscending (share_of n workers worker)
share_ascends n workers worker = AllPairs-filter (λ (task later : ℕ). task < later) (λ (task : ℕ). task % workers == worker) (range_with_len 0 n) (range_ascends 0 n)

all_ascend : (n workers : ℕ) (ks : List ℕ) → All (λ (k : ℕ). IsAscending (share_of n workers k)) ks
all_ascend n workers ks i d below = share_ascends n workers (get_or ks i d)

pub shares_dealt : (n workers : ℕ) → 0 < workers → IsDealt n (fixed_shares n workers) []
shares_dealt n workers some_worker = record {
  once = λ task. once task;
  ascending = All-map IsAscending (share_of n workers) (range_with_len 0 workers) (all_ascend n workers (range_with_len 0 workers));
}
  where
    once : (task : ℕ) → sum_by (places task) (fixed_shares n workers) + 0 ≡ cond (nat_lt task n) 1 0
    once task =
        let m = sum_map (places task) (share_of n workers) (range_with_len 0 workers) in
        let each = same_in_range (λ (k : ℕ). places task (share_of n workers k)) (λ (k : ℕ). cond (task % workers == k) (places task (range_with_len 0 n)) 0) 0 workers
        (λ k from to. places_filter (λ (t : ℕ). t % workers == k) task (range_with_len 0 n)) in
        let one = one_in_range (λ (k : ℕ). places task (range_with_len 0 n)) (task % workers) 0 workers (omega arith) (omega (arith, mod_below task workers some_worker)) in
        omega (arith, m, each, one, places_range task n)

range_more : (n : ℕ) → range_with_len 0 (n + 1) ≡ range_with_len 0 n ++ n ∷ []
range_more n = sym (map_same (range_with_len 0 (n + 1))) ∙ map-range_with_len_more (λ (t : ℕ). t) 0 n n (omega arith) ∙ ap (λ (l : List ℕ). l ++ n ∷ []) (map_same (range_with_len 0 n))
  where
    map_same : (l : List ℕ) → map (λ (t : ℕ). t) l ≡ l
    map_same [] = refl
    map_same (x ∷ xs) = ap (λ (l : List ℕ). x ∷ l) (map_same xs)

-- With a task more, a share has it behind the others where it is the worker's.
pub share_more : (n workers worker : ℕ) → share_of (n + 1) workers worker ≡ share_of n workers worker ++ cond (n % workers == worker) (n ∷ []) []
share_more n workers worker =
    ap (filter (λ (task : ℕ). task % workers == worker)) (range_more n)
    ∙ filter-append (λ (task : ℕ). task % workers == worker) (range_with_len 0 n) (n ∷ [])

below : (most a n : ℕ) → a + n ≤ most → All (λ task. task < most) (range_with_len a n)
below most a zero le = All-nil (λ (task : ℕ). task < most)
below most a (suc n) le = All-cons (λ (task : ℕ). task < most) a (range_with_len (a + 1) n) (omega (arith, le)) (below most (a + 1) n (omega (arith, le)))

-- The share of the first so many tasks is in ascending order, and of tasks alone.
pub share_in_order : (next tasks workers worker : ℕ) → next ≤ tasks → IsAscending (share_of next workers worker) × All (λ task. task < tasks) (share_of next workers worker)
share_in_order next tasks workers worker le = (
  share_ascends next workers worker,
  All-filter (λ (task : ℕ). task % workers == worker) (λ (task : ℕ). task < tasks) (range_with_len 0 next) (below tasks 0 next (omega (arith, le))),
)
