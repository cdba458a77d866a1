-- The pool made anew, and the pages of a region given back.
use Rattle.std.proofs.Common.{◌≡◌, ◌≢◌, ◌↔◌, ◌==◌, ℕ, zero, suc, ◌+◌, ◌≤◌, ◌<◌, Bool, true, false, cond, List, [], ◌∷◌, ◌++◌, length, get_or, set, map, take, drop, slice_index, refl, sym, ap, ◌∙◌, subst, arith, ⊎_elim, length-take, length-set}
use Rattle.std.specs.List.{AllPairs, Contains, filter, range_with_len}
use Rattle.std.proofs.lemmas.Bool.{cases_lt}
use Rattle.std.proofs.lemmas.Bool.Decides.{Decides-eqb}
use Rattle.std.proofs.lemmas.List.{append_assoc, append-nil, drop_more, drop_all, take_at, take_all, set_at, set-get_or, map_more, map-id, length_push, length-map, get_or-append-add, get_or-set_same, get_or-set_other}
use Rattle.std.proofs.lemmas.Slice.{drop-append-drop}
use Rattle.std.proofs.lemmas.List.Elements.{filter-append}
use Rattle.std.proofs.lemmas.List.FromFn.{length-range_with_len, map-range_with_len_more}
use Rattle.std.proofs.lemmas.List.Sums.{length-filter, count_by-le-length}
use Rattle.heap_words.specs.declared.map.Areas.{Areas}
use Rattle.heap_words.specs.declared.TheConstants.{HEAD_WORDS}
use Rattle.heap_words.specs.Cells.{row}
use Rattle.heap_words.specs.Contents.{Contents, with_head}
use Rattle.yak_model.specs.Placed.{space_word}
use Rattle.yak_model.specs.Stands.{claim_counter, pool_length, free_pages, PoolStands}
use Rattle.region_pages.specs.Freeing.{free_below, pool_with, freed, freed_table}
use Rattle.region_pages.proofs.Counting.{below_contains, below_once}

pub is_false : (b : Bool) → (b ≡ true → ⊥) → b ≡ false
is_false true h = absurd (h refl)
is_false false h = refl

-- one more page looked at
range_more : (n : ℕ) → range_with_len 0 (n + 1) ≡ range_with_len 0 n ++ n ∷ []
range_more n = sym (map-id (range_with_len 0 (n + 1))) ∙ map-range_with_len_more (λ (x : ℕ). x) 0 n n (omega arith) ∙ ap (λ (xs : List ℕ). xs ++ n ∷ []) (map-id (range_with_len 0 n))

below_more : (table : List (List ℕ)) (n : ℕ) → free_below table (n + 1) ≡ free_below table n ++ cond (space_word table n == 0) (n ∷ []) []
below_more table n =
    let p : ℕ → Bool = λ q. space_word table q == 0 in
    ap (filter p) (range_more n) ∙ filter-append p (range_with_len 0 n) (n ∷ [])

pub below_more_free : (table : List (List ℕ)) (n : ℕ) → space_word table n ≡ 0 → free_below table (n + 1) ≡ free_below table n ++ n ∷ []
below_more_free table n free = below_more table n ∙ ap (λ (b : Bool). free_below table n ++ cond b (n ∷ []) []) ((Decides-eqb (space_word table n) 0).1 free)

pub below_more_taken : (table : List (List ℕ)) (n : ℕ) → space_word table n ≢ 0 → free_below table (n + 1) ≡ free_below table n
below_more_taken table n taken = below_more table n ∙ ap (λ (b : Bool). free_below table n ++ cond b (n ∷ []) []) (is_false (space_word table n == 0) (λ e. taken ((Decides-eqb (space_word table n) 0).0 e))) ∙ append-nil (free_below table n)

pub length-below_le : (table : List (List ℕ)) (n : ℕ) → length (free_below table n) ≤ n
length-below_le table n =
    let p : ℕ → Bool = λ q. space_word table q == 0 in
    omega (arith, length-filter p (range_with_len 0 n), count_by-le-length p (range_with_len 0 n), length-range_with_len 0 n)

-- one more page in the pool
pub pool_more : (pages pool : List ℕ) (v : ℕ) → length pages < length pool → set (pool_with pages pool) (length pages) v ≡ pool_with (pages ++ v ∷ []) pool
pool_more pages pool v lt =
    let k : ℕ = length pages in
    let rest : List ℕ = drop (k + 1) pool in
    ap (λ (ys : List ℕ). set (pages ++ ys) k v) (drop_more pool k 0 lt)
    ∙ set_at pages (get_or pool k 0) rest v k refl
    ∙ sym (append_assoc pages (v ∷ []) rest)
    ∙ ap (λ (j : ℕ). (pages ++ v ∷ []) ++ drop j pool) (sym (length_push pages v))

-- a pool over which a longer one is written
pub pool_over : (some all pool : List ℕ) → length some ≤ length all → pool_with all (pool_with some pool) ≡ pool_with all pool
pool_over some all pool le = ap (λ (xs : List ℕ). all ++ xs) (drop-append-drop (length some) pool some (length all) le refl)

-- the pool after it is made anew
pub rebuilt_free : (heads pages pool : List ℕ) → length heads ≡ HEAD_WORDS → free_pages (set (set heads 1 0) 2 (length pages)) (pool_with pages pool) ≡ pages
rebuilt_free heads pages pool long =
    let h : List ℕ = set heads 1 0 in
    let in_heads : 2 < length h = omega (arith, length-set {A = ℕ} heads 1 0) in
    let in_first : 1 < length heads = omega arith in
    let size : pool_length (set h 2 (length pages)) ≡ length pages = get_or-set_same h 2 (length pages) 0 in_heads in
    let counter : claim_counter (set h 2 (length pages)) ≡ 0 = get_or-set_other h 2 1 (length pages) 0 (omega arith) ∙ get_or-set_same heads 1 0 0 in_first in
    ap (λ (k : ℕ). drop k (take (pool_length (set h 2 (length pages))) (pool_with pages pool))) counter
    ∙ ap (λ (n : ℕ). take n (pool_with pages pool)) size
    ∙ take_at pages (drop (length pages) pool) (length pages) refl

pub rebuilt_stands : (m : Areas) (heads pool : List ℕ) (table : List (List ℕ)) → length heads ≡ HEAD_WORDS → PoolStands m (set (set heads 1 0) 2 (length (free_below table m.pages))) (pool_with (free_below table m.pages) pool) table
rebuilt_stands m heads pool table long =
    let pages : List ℕ = free_below table m.pages in
    let h : List ℕ = set heads 1 0 in
    let in_heads : 2 < length h = omega (arith, length-set {A = ℕ} heads 1 0) in
    let in_first : 1 < length heads = omega arith in
    let size : pool_length (set h 2 (length pages)) ≡ length pages = get_or-set_same h 2 (length pages) 0 in_heads in
    let counter : claim_counter (set h 2 (length pages)) ≡ 0 = get_or-set_other h 2 1 (length pages) 0 (omega arith) ∙ get_or-set_same heads 1 0 0 in_first in
    let free = rebuilt_free heads pages pool long in
    record {
      within = omega (arith, size, length-below_le table m.pages);
      passed = omega (arith, counter);
      free = λ p. subst (λ (xs : List ℕ). Contains xs p ↔ ((p < m.pages) × (space_word table p ≡ 0))) (sym free) (below_contains table m.pages p);
      once = subst (AllPairs (λ (a b : ℕ). a ≢ b)) (sym free) (below_once table m.pages);
    }

-- the contents with a pool of the free ones of the first pages
abbrev pub rebuilt_at : ℕ → Contents → Contents
rebuilt_at n c =
    let filled = record c { pool = pool_with (free_below c.table n) c.pool } in
    with_head (with_head filled 1 0) 2 (length (free_below c.table n))

-- a table of which the first entries were looked at
abbrev pub freed_to : ℕ → List (List ℕ) → ℕ → List (List ℕ)
freed_to word table i = map (freed word) (take i table) ++ drop i table

pub freed_to_row : (word : ℕ) (table : List (List ℕ)) (i : ℕ) → i < length table → row (freed_to word table i) i ≡ row table i
freed_to_row word table i lt =
    let front : List (List ℕ) = map (freed word) (take i table) in
    let long : length front ≡ i = omega (arith, length-map (take i table) (freed word), length-take {A = List ℕ} i table) in
    ap (λ (t : List (List ℕ)). row (front ++ t) i) (drop_more table i [] lt)
    ∙ ap (λ (k : ℕ). get_or (front ++ (row table i ∷ drop (i + 1) table)) k []) (omega (arith, long))
    ∙ get_or-append-add front (row table i ∷ drop (i + 1) table) 0 []

pub freed_to_more : (word : ℕ) (table : List (List ℕ)) (i : ℕ) → i < length table → set (freed_to word table i) i (freed word (row table i)) ≡ freed_to word table (i + 1)
freed_to_more word table i lt =
    let front : List (List ℕ) = map (freed word) (take i table) in
    let rest : List (List ℕ) = drop (i + 1) table in
    let long : length front ≡ i = omega (arith, length-map (take i table) (freed word), length-take {A = List ℕ} i table) in
    ap (λ (t : List (List ℕ)). set (front ++ t) i (freed word (row table i))) (drop_more table i [] lt)
    ∙ set_at front (row table i) rest (freed word (row table i)) i long
    ∙ sym (append_assoc front (freed word (row table i) ∷ []) rest)
    ∙ ap (λ (t : List (List ℕ)). t ++ rest) (sym (map_more (freed word) table i [] lt))

pub freed_same : (word : ℕ) (r : List ℕ) → slice_index r 0 ≢ word → freed word r ≡ r
freed_same word r ne = ap (λ (b : Bool). cond b (0 ∷ 0 ∷ []) r) (is_false (slice_index r 0 == word) (λ e. ne ((Decides-eqb (slice_index r 0) word).0 e)))

pub freed_zero : (word : ℕ) (r : List ℕ) → slice_index r 0 ≡ word → freed word r ≡ 0 ∷ 0 ∷ []
freed_zero word r e = ap (λ (b : Bool). cond b (0 ∷ 0 ∷ []) r) ((Decides-eqb (slice_index r 0) word).1 e)

-- an entry that stays is as if it was written
pub freed_to_kept : (word : ℕ) (table : List (List ℕ)) (i : ℕ) → i < length table → space_word table i ≢ word → freed_to word table i ≡ freed_to word table (i + 1)
freed_to_kept word table i lt ne =
    sym (set-get_or (freed_to word table i) i [])
    ∙ ap (λ (r : List ℕ). set (freed_to word table i) i r) (freed_to_row word table i lt ∙ sym (freed_same word (row table i) ne))
    ∙ freed_to_more word table i lt

pub freed_to_all : (word : ℕ) (table : List (List ℕ)) (i : ℕ) → length table ≤ i → freed_to word table i ≡ freed_table word table
freed_to_all word table i past =
    ap (λ (t : List (List ℕ)). map (freed word) (take i table) ++ t) (drop_all i table past) ∙ append-nil (map (freed word) (take i table)) ∙ ap (map (freed word)) (take_all i table past)

-- where all entries behind a place are free, no more need be looked at
pub freed_to_free : (word : ℕ) (table : List (List ℕ)) (j i : ℕ) → 0 < word → length table ≤ i + j → ((p : ℕ) → i ≤ p → p < length table → space_word table p ≡ 0) → freed_to word table i ≡ freed_table word table
freed_to_free word table zero i some long free = freed_to_all word table i (omega arith)
freed_to_free word table (suc j) i some long free = ⊎_elim
    (λ (lt : i < length table). freed_to_kept word table i lt (λ e. omega (arith, e, free i (omega arith) lt, some)) ∙ freed_to_free word table j (i + 1) some (omega arith) (λ p from. free p (omega arith)))
    (λ (past : length table ≤ i). freed_to_all word table i past)
    (cases_lt i (length table))
