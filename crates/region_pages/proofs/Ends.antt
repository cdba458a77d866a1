-- Up to which page there are pages in use.
use Rattle.std.proofs.Common.{◌≡◌, ◌≢◌, ◌==◌, ℕ, zero, suc, ◌+◌, ◌-◌, ◌≤◌, ◌<◌, Bool, cond, List, length, sym, ap, ◌∙◌, arith, ⊎_elim}
use Rattle.std.proofs.lemmas.Bool.{cases_eq, cases_lt}
use Rattle.std.proofs.lemmas.Bool.Decides.{Decides-eqb}
use Rattle.std.proofs.lemmas.List.{length_push}
use Rattle.yak_model.specs.Placed.{space_word}
use Rattle.region_pages.specs.Counts.{free_in}
use Rattle.region_pages.specs.Ends.{used_end}
use Rattle.region_pages.specs.Freeing.{free_below}
use Rattle.region_pages.proofs.Counting.{length-below}
use Rattle.region_pages.proofs.Freed.{below_more_free, below_more_taken, is_false}

one_more : (n : ℕ) → n + 1 ≡ suc n
one_more n = omega arith

-- one more page
pub end_more_free : (table : List (List ℕ)) (n : ℕ) → space_word table n ≡ 0 → used_end table (n + 1) ≡ used_end table n
end_more_free table n free =
    ap (used_end table) (one_more n) ∙ ap (λ (b : Bool). cond b (used_end table n) (suc n)) ((Decides-eqb (space_word table n) 0).1 free)

pub end_more_taken : (table : List (List ℕ)) (n : ℕ) → space_word table n ≢ 0 → used_end table (n + 1) ≡ n + 1
end_more_taken table n taken =
    ap (used_end table) (one_more n) ∙ ap (λ (b : Bool). cond b (used_end table n) (suc n)) (is_false (space_word table n == 0) (λ e. taken ((Decides-eqb (space_word table n) 0).0 e))) ∙ sym (one_more n)

-- it lies within the pages, and all pages from it on are free
pub end_le : (table : List (List ℕ)) (n : ℕ) → used_end table n ≤ n
end_le table zero = omega arith
end_le table (suc n) =
    let more : used_end table (suc n) ≡ used_end table (n + 1) = ap (used_end table) (sym (one_more n)) in
    ⊎_elim (λ (e : space_word table n ≡ 0). omega (arith, more, end_more_free table n e, end_le table n))
    (λ (ne : space_word table n ≢ 0). omega (arith, more, end_more_taken table n ne))
    (cases_eq (space_word table n) 0)

pub end_free : (table : List (List ℕ)) (n p : ℕ) → used_end table n ≤ p → p < n → space_word table p ≡ 0
end_free table zero p from lt = absurd (omega arith)
end_free table (suc n) p from lt =
    let more : used_end table (suc n) ≡ used_end table (n + 1) = ap (used_end table) (sym (one_more n)) in
    ⊎_elim (λ (e : space_word table n ≡ 0). ⊎_elim (λ (q : p ≡ n). ap (space_word table) q ∙ e) (λ (ne : p ≢ n). end_free table n p (omega (arith, more, end_more_free table n e)) (omega arith)) (cases_eq p n))
    (λ (ne : space_word table n ≢ 0). absurd (omega (arith, more, end_more_taken table n ne)))
    (cases_eq (space_word table n) 0)

pub end_within : (table : List (List ℕ)) (n p : ℕ) → p < n → space_word table p ≢ 0 → p < used_end table n
end_within table n p lt taken = ⊎_elim (λ (h : p < used_end table n). h) (λ (e : used_end table n ≤ p). absurd (taken (end_free table n p e lt))) (cases_lt p (used_end table n))

-- it is at most a number from which on all pages are free
pub end_least : (table : List (List ℕ)) (n k : ℕ) → ((p : ℕ) → k ≤ p → p < n → space_word table p ≡ 0) → used_end table n ≤ k
end_least table zero k free = omega arith
end_least table (suc n) k free =
    let more : used_end table (suc n) ≡ used_end table (n + 1) = ap (used_end table) (sym (one_more n)) in
    ⊎_elim (λ (e : space_word table n ≡ 0). omega (arith, more, end_more_free table n e, end_least table n k (λ p from lt. free p from (omega arith))))
    (λ (ne : space_word table n ≢ 0). ⊎_elim (λ (gt : n < k). omega (arith, more, end_more_taken table n ne)) (λ (le : k ≤ n). absurd (ne (free n le (omega arith)))) (cases_lt n k))
    (cases_eq (space_word table n) 0)

-- where all pages from one on are free, it is that of the pages before
pub end_rest : (table : List (List ℕ)) (j k : ℕ) → ((p : ℕ) → k ≤ p → p < k + j → space_word table p ≡ 0) → used_end table (k + j) ≡ used_end table k
end_rest table zero k free = let same : k + 0 ≡ k = omega arith in ap (used_end table) same
end_rest table (suc j) k free =
    let same : k + suc j ≡ k + j + 1 = omega arith in
    ap (used_end table) same
    ∙ end_more_free table (k + j) (free (k + j) (omega arith) (omega arith))
    ∙ end_rest table j k (λ p from lt. free p from (omega arith))

next : (k j : ℕ) → k + suc j ≡ k + j + 1
next k j = omega arith

-- where pages in use are counted down to 0, the pages from there on are free
below_few : (table : List (List ℕ)) (n : ℕ) → length (free_below table (n + 1)) ≤ length (free_below table n) + 1
below_few table n =
    ⊎_elim (λ (e : space_word table n ≡ 0). omega (arith, ap (λ (xs : List ℕ). length xs) (below_more_free table n e), length_push (free_below table n) n))
    (λ (ne : space_word table n ≢ 0). omega (arith, ap (λ (xs : List ℕ). length xs) (below_more_taken table n ne)))
    (cases_eq (space_word table n) 0)

below_grows : (table : List (List ℕ)) (j k : ℕ) → length (free_below table (k + j)) ≤ length (free_below table k) + j
below_grows table zero k = omega (arith, ap (λ (i : ℕ). length (free_below table i)) (let e : k + 0 ≡ k = omega arith in e))
below_grows table (suc j) k =
    let same : length (free_below table (k + suc j)) ≡ length (free_below table (k + j + 1)) = ap (λ (i : ℕ). length (free_below table i)) (next k j) in
    omega (arith, same, below_few table (k + j), below_grows table j k)

pub rest_free : (table : List (List ℕ)) (j k p : ℕ) → length (free_below table k) + j ≤ length (free_below table (k + j)) → k ≤ p → p < k + j → space_word table p ≡ 0
rest_free table zero k p many from lt = absurd (omega arith)
rest_free table (suc j) k p many from lt =
    let same : length (free_below table (k + suc j)) ≡ length (free_below table (k + j + 1)) = ap (λ (i : ℕ). length (free_below table i)) (next k j) in
    ⊎_elim (λ (e : space_word table (k + j) ≡ 0).
    let more : length (free_below table (k + j + 1)) ≡ length (free_below table (k + j)) + 1 = ap (λ (xs : List ℕ). length xs) (below_more_free table (k + j) e) ∙ length_push (free_below table (k + j)) (k + j) in
    ⊎_elim (λ (q : p ≡ k + j). ap (space_word table) q ∙ e) (λ (ne : p ≢ k + j). rest_free table j k p (omega (arith, many, same, more)) from (omega arith)) (cases_eq p (k + j)))
    (λ (ne : space_word table (k + j) ≢ 0).
    let more : length (free_below table (k + j + 1)) ≡ length (free_below table (k + j)) = ap (λ (xs : List ℕ). length xs) (below_more_taken table (k + j) ne) in
    absurd (omega (arith, many, same, more, below_grows table j k)))
    (cases_eq (space_word table (k + j)) 0)

-- pages in use are left only before the last page
pub still_left : (table : List (List ℕ)) (n k used left : ℕ) → length table ≡ n → used + free_in table ≡ n → k ≤ n → left + k ≡ used + length (free_below table k) → 0 < left → k < n
still_left table n k used left rows exact most count some = ⊎_elim
    (λ (e : k ≡ n). absurd (omega (arith, ap (λ (i : ℕ). length (free_below table i)) e, length-below table n rows)))
    (λ (ne : k ≢ n). omega (arith, ne, most))
    (cases_eq k n)

-- where none is left, all pages from there on are free
pub none_left : (table : List (List ℕ)) (n k used left p : ℕ) → length table ≡ n → n ≤ used + free_in table → k ≤ n → left + k ≡ used + length (free_below table k) → left ≡ 0 → k ≤ p → p < n → space_word table p ≡ 0
none_left table n k used left p rows most within count none from lt =
    let whole : k + (n - k) ≡ n = omega arith in
    let same : length (free_below table (k + (n - k))) ≡ length (free_below table n) = ap (λ (i : ℕ). length (free_below table i)) whole in
    rest_free table (n - k) k p (omega (arith, same, length-below table n rows)) from (omega arith)

-- more pages have no fewer free ones among them
pub below_grow : (table : List (List ℕ)) (j k : ℕ) → length (free_below table k) ≤ length (free_below table (k + j))
below_grow table zero k = omega (arith, ap (λ (i : ℕ). length (free_below table i)) (let e : k + 0 ≡ k = omega arith in e))
below_grow table (suc j) k =
    let same : length (free_below table (k + suc j)) ≡ length (free_below table (k + j + 1)) = ap (λ (i : ℕ). length (free_below table i)) (next k j) in
    ⊎_elim (λ (e : space_word table (k + j) ≡ 0). omega (arith, same, below_grow table j k, ap (λ (xs : List ℕ). length xs) (below_more_free table (k + j) e), length_push (free_below table (k + j)) (k + j)))
    (λ (ne : space_word table (k + j) ≢ 0). omega (arith, same, below_grow table j k, ap (λ (xs : List ℕ). length xs) (below_more_taken table (k + j) ne)))
    (cases_eq (space_word table (k + j)) 0)
