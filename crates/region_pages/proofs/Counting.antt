-- Counts over the page table.
use Rattle.std.proofs.Common.{◌≡◌, ◌≢◌, ◌↔◌, ◌==◌, ℕ, zero, suc, ◌+◌, ◌-◌, ◌≤◌, ◌<◌, Bool, true, false, cond, List, [], ◌∷◌, length, get_or, map, take, sum_by, slice_index, nat_lt, nat_eq, refl, sym, ap, ◌∙◌, subst, arith, inl, inr, ◌⊎◌, ⊎_elim, length-take, length-drop, Option, Some}
use Rattle.std.specs.List.{AllPairs, Contains, filter, range_with_len}
use Rattle.std.specs.Set.{is_member}
use Rattle.std.proofs.lemmas.Bool.{cases_eq}
use Rattle.std.proofs.lemmas.Bool.Decides.{nat_tests, Decides-eqb, same_from_decides}
use Rattle.std.proofs.lemmas.Cmp.{nat_eq_equiv}
use Rattle.std.proofs.lemmas.List.{get_or_default}
use Rattle.std.proofs.lemmas.List.FromFn.{length-range_with_len, get_or-range_with_len, fill_by_all}
use Rattle.std.proofs.lemmas.List.Kept.{AllPairs-filter}
use Rattle.std.proofs.lemmas.List.Sums.{sum_by-cons, length-filter}
use Rattle.std.proofs.lemmas.Map.Made.{length-from_same_keys, is_member-Decides, IsDistinct-from_AllPairs}
use Rattle.object_layout.specs.declared.names.Name.{Name}
use Rattle.heap_words.specs.declared.map.Areas.{Areas}
use Rattle.heap_words.specs.Cells.{row}
use Rattle.epoch_lattice.specs.declared.Space.{Space}
use Rattle.epoch_lattice.specs.declared.Space.TheVariants.{Control}
use Rattle.epoch_lattice.specs.Lattice.{space_index}
use Rattle.yak_model.specs.State.{Thing}
use Rattle.yak_model.specs.Placed.{Places, HeapStands, names_of, words_by, size_by, space_word}
use Rattle.yak_model.specs.Stands.{claim_counter, pool_length, free_pages, PoolStands, pages_of, words_in, words_taken}
use Rattle.region_pages.specs.Counts.{free_in, regions_in, used_by, used_of}
use Rattle.region_pages.specs.Freeing.{free_below}
use Rattle.region_pages.proofs.Claims.{Contains-front, Contains-behind, Contains-cases}

-- the number of free pages by the counter
pub length-free : (heads pool : List ℕ) → pool_length heads ≤ length pool → length (free_pages heads pool) ≡ pool_length heads - claim_counter heads
length-free heads pool fits = omega (arith, length-drop {A = ℕ} (claim_counter heads) (take (pool_length heads) pool), length-take {A = ℕ} (pool_length heads) pool)

-- members of a filtered list
filtered : (xs : List ℕ) (y q : ℕ) (b : Bool) → Contains (cond b (y ∷ xs) xs) q → ((b ≡ true) × (y ≡ q)) ⊎ Contains xs q
filtered xs y q true h = ⊎_elim (λ (e : y ≡ q). inl (refl, e)) (λ (c : Contains xs q). inr c) (Contains-cases xs y q h)
filtered xs y q false h = inr h

filtered_rest : (xs : List ℕ) (y q : ℕ) (b : Bool) → Contains xs q → Contains (cond b (y ∷ xs) xs) q
filtered_rest xs y q true h = Contains-behind xs y q h
filtered_rest xs y q false h = h

filtered_front : (xs : List ℕ) (y : ℕ) (b : Bool) → b ≡ true → Contains (cond b (y ∷ xs) xs) y
filtered_front xs y true h = Contains-front xs y
filtered_front xs y false h = absurd (cc)

-- the members of a range that pass a test
passing : (p : ℕ → Bool) (n a q : ℕ) → Contains (filter p (range_with_len a n)) q → (a ≤ q) × (q < a + n) × (p q ≡ true)
passing p zero a q h = absurd (omega (arith, h.1))
passing p (suc n) a q h =
    ⊎_elim (λ (w : (p a ≡ true) × (a ≡ q)). (omega (arith, w.1), omega (arith, w.1), ap p (sym w.1) ∙ w.0))
    (λ (c : Contains (filter p (range_with_len (a + 1) n)) q). let r = passing p n (a + 1) q c in (omega (arith, r.0), omega (arith, r.1), r.2))
    (filtered (filter p (range_with_len (a + 1) n)) a q (p a) h)

passes : (p : ℕ → Bool) (n a q : ℕ) → a ≤ q → q < a + n → p q ≡ true → Contains (filter p (range_with_len a n)) q
passes p zero a q from to good = absurd (omega arith)
passes p (suc n) a q from to good =
    let rest : List ℕ = filter p (range_with_len (a + 1) n) in
    ⊎_elim (λ (e : a ≡ q). subst (λ (y : ℕ). Contains (cond (p a) (a ∷ rest) rest) y) e (filtered_front rest a (p a) (ap p e ∙ good)))
    (λ (ne : a ≢ q). filtered_rest rest a q (p a) (passes p n (a + 1) q (omega arith) (omega arith) good))
    (cases_eq a q)

-- the free ones of the first pages: which they are, and each once
pub below_contains : (table : List (List ℕ)) (n q : ℕ) → Contains (free_below table n) q ↔ ((q < n) × (space_word table q ≡ 0))
below_contains table n q = (
  λ (h : Contains (free_below table n) q). let r = passing (λ (p : ℕ). space_word table p == 0) n 0 q h in (omega (arith, r.1), (Decides-eqb (space_word table q) 0).0 r.2),
  λ (h : (q < n) × (space_word table q ≡ 0)). passes (λ (p : ℕ). space_word table p == 0) n 0 q (omega arith) (omega (arith, h.0)) ((Decides-eqb (space_word table q) 0).1 h.1),
)

range_once : (n : ℕ) → AllPairs (λ (a b : ℕ). a ≢ b) (range_with_len 0 n)
range_once n i j d lt within =
    let short : j < n = omega (arith, length-range_with_len 0 n) in
    λ e. omega (arith, e, get_or-range_with_len 0 n i d (omega arith), get_or-range_with_len 0 n j d short)

pub below_once : (table : List (List ℕ)) (n : ℕ) → AllPairs (λ (a b : ℕ). a ≢ b) (free_below table n)
below_once table n = AllPairs-filter (λ (a b : ℕ). a ≢ b) (λ (p : ℕ). space_word table p == 0) (range_with_len 0 n) (range_once n)

-- a sum over the table as one over the numbers of its pages
sum_by-map : {X Y : Type 0} (g : Y → ℕ) (f : X → Y) → (xs : List X) → sum_by g (map f xs) ≡ sum_by (λ (x : X). g (f x)) xs
sum_by-map g f [] = refl
sum_by-map {X} g f (x ∷ xs) = sum_by-cons g (f x) (map f xs) ∙ ap (λ n. g (f x) + n) (sum_by-map g f xs) ∙ sym (sum_by-cons (λ (y : X). g (f y)) x xs)

pub length-below : (table : List (List ℕ)) (n : ℕ) → length table ≡ n → length (free_below table n) ≡ free_in table
length-below table n rows =
    let whole : table ≡ map (row table) (range_with_len 0 n) = fill_by_all (row table) table n [] rows (λ k lt. refl) in
    length-filter (λ (p : ℕ). space_word table p == 0) (range_with_len 0 n)
    ∙ sym (sum_by-map (λ (r : List ℕ). cond (slice_index r 0 == 0) 1 0) (row table) (range_with_len 0 n))
    ∙ ap free_in (sym whole)

-- the pool has as many free pages as the page table
pub free_is : (m : Areas) (heads pool : List ℕ) (table : List (List ℕ)) → length table ≡ m.pages → PoolStands m heads pool table → length (free_pages heads pool) ≡ free_in table
free_is m heads pool table rows stands =
    let xs : List ℕ = free_pages heads pool in
    let ys : List ℕ = free_below table m.pages in
    let same : (q : ℕ) → is_member nat_eq xs q ≡ is_member nat_eq ys q = λ q.
    let dx = is_member-Decides Decides-eqb xs q in
    let dy = is_member-Decides Decides-eqb ys q in
    same_from_decides {P = Contains xs q} (is_member nat_eq xs q) (is_member nat_eq ys q) dx (λ e. (stands.free q).1 ((below_contains table m.pages q).0 (dy.0 e)), λ h. dy.1 ((below_contains table m.pages q).1 ((stands.free q).0 h))) in
    length-from_same_keys nat_eq_equiv xs ys (IsDistinct-from_AllPairs Decides-eqb xs stands.once) (IsDistinct-from_AllPairs Decides-eqb ys (below_once table m.pages)) same
    ∙ length-below table m.pages rows

-- each page is free, or belongs to a region or to Control
one_of : (w : ℕ) → cond (w == 0) 1 0 + cond (nat_lt 1 w) 1 0 + cond (w == 1) 1 0 ≡ 1
one_of w = grind (arith, nat_tests)

pub parts : (table : List (List ℕ)) → free_in table + regions_in table + pages_of table Control ≡ length table
parts [] = refl
parts (r ∷ rs) =
    let a = sum_by-cons (λ (x : List ℕ). cond (slice_index x 0 == 0) 1 0) r rs in
    let b = sum_by-cons (λ (x : List ℕ). cond (nat_lt 1 (slice_index x 0)) 1 0) r rs in
    let d = sum_by-cons (λ (x : List ℕ). cond (slice_index x 0 == 1) 1 0) r rs in
    omega (arith, a, b, d, one_of (slice_index r 0), parts rs)

-- two sums whose terms are the same place by place
sums_agree : {X Y : Type 0} (f : X → ℕ) (g : Y → ℕ) (d : X) (e : Y) → (xs : List X) (ys : List Y) → length xs ≡ length ys → ((k : ℕ) → k < length xs → f (get_or xs k d) ≡ g (get_or ys k e)) → sum_by f xs ≡ sum_by g ys
sums_agree f g d e [] [] long same = refl
sums_agree f g d e [] (y ∷ ys) long same = absurd (omega arith)
sums_agree f g d e (x ∷ xs) [] long same = absurd (omega arith)
sums_agree f g d e (x ∷ xs) (y ∷ ys) long same =
    let rest = sums_agree f g d e xs ys (omega arith) (λ k lt. same (suc k) (omega arith)) in
    let first : f x ≡ g y = same 0 (omega arith) in
    sum_by-cons f x xs ∙ ap (λ n. n + sum_by f xs) first ∙ ap (λ n. g y + n) rest ∙ sym (sum_by-cons g y ys)

sum_none : {X : Type 0} → (xs : List X) → sum_by (λ (x : X). 0) xs ≡ 0
sum_none [] = refl
sum_none {X} (x ∷ xs) = omega (arith, sum_by-cons (λ (y : X). 0) x xs, sum_none xs)

sum_cond : {X : Type 0} (f : X → ℕ) (b : Bool) (xs : List X) → sum_by (λ (x : X). cond b (f x) 0) xs ≡ cond b (sum_by f xs) 0
sum_cond f true xs = refl
sum_cond f false xs = sum_none xs

-- the words of a present object, counted where the page's space is
same_test : (a b s v : ℕ) → s ≡ a + 1 → cond (a == b) v 0 ≡ cond (s == b + 1) v 0
same_test a b s v e = grind (arith, nat_tests)

words_at : (x : Space) (o : Option Thing) (thing : Thing) (s : ℕ) → o ≡ Some thing → s ≡ space_index thing.home + 1 → words_in x o ≡ cond (s == space_index x + 1) (words_by o) 0
words_at x o thing s is e =
    ap (words_in x) is ∙ same_test (space_index thing.home) (space_index x) s (words_by (Some thing)) e ∙ ap (λ (y : Option Thing). cond (s == space_index x + 1) (words_by y) 0) (sym is)

-- the words in use are those of the objects
page_used : (m : Areas) (table : List (List ℕ)) (heap : List ℕ) (objects : Name → Option Thing) (l : Places) (work : Name → ℕ) (x : Space) (p : ℕ) → HeapStands m table heap objects l work → p < m.pages → used_by x (row table p) ≡ sum_by (λ (n : Name). words_in x (objects n)) (names_of l p)
page_used m table heap objects l work x p h lt =
    let ns : List Name = names_of l p in
    let d : Name = record { thread = 0; serial = 0 } in
    let b : Bool = space_word table p == space_index x + 1 in
    let in_pages : p < length l.pages = omega (arith, h.count) in
    let each : (k : ℕ) → k < length ns → cond b (size_by objects (get_or ns k d)) 0 ≡ words_in x (objects (get_or ns k d)) = λ k le.
    let n : Name = get_or ns k d in
    let w = h.whole n p k (record { page = in_pages; place = le; name = get_or_default ns k n d le }) in
    sym (words_at x (objects n) w.0 (space_word table p) w.1 w.2) in
    ap (λ (u : ℕ). cond b u 0) (h.marks p lt)
    ∙ sym (sum_cond (size_by objects) b ns)
    ∙ sums_agree (λ (n : Name). cond b (size_by objects n) 0) (λ (n : Name). words_in x (objects n)) d d ns ns refl each

pub used_is : (m : Areas) (table : List (List ℕ)) (heap : List ℕ) (objects : Name → Option Thing) (l : Places) (work : Name → ℕ) (x : Space) → length table ≡ m.pages → HeapStands m table heap objects l work → used_of table x ≡ words_taken l.pages objects x
used_is m table heap objects l work x rows h =
    sums_agree (used_by x) (λ (ns : List Name). sum_by (λ (n : Name). words_in x (objects n)) ns) [] [] table l.pages (rows ∙ sym h.count) (λ p lt. page_used m table heap objects l work x p h (omega arith))
