-- Words in lists, and lists of counts.
use Rattle.std.specs.Prelude.{◌≡◌, ◌≢◌, ◌⊎◌, ℕ, ◌+◌, ◌<◌, ◌≤◌, Bool, false, cond, List, [], ◌∷◌, ◌++◌, length, slice_index_or, None, Some}
use Rattle.std.specs.FinMap as finite
use Rattle.std.specs.List.{list_any, sum_by}
use Rattle.std.specs.Ordering.{eq_by_cmp, is_lt}
use Rattle.yak_model.specs.Texts.{WordCounts, word_cmp}

-- whether a word stands in a list
abbrev pub has_word : List (List ℕ) → List ℕ → Bool
has_word words word = list_any (eq_by_cmp word_cmp word) words

-- ---- counts of words that may stand in a list more than once

-- whether the list has a count of the word
abbrev pub has_count : List (List ℕ × ℕ) → List ℕ → Bool
has_count list word = list_any (λ (e : List ℕ × ℕ). eq_by_cmp word_cmp word e.0) list

-- the sum of the word's counts
abbrev pub sum_for : List (List ℕ × ℕ) → List ℕ → ℕ
sum_for list word = sum_by (λ (e : List ℕ × ℕ). cond (eq_by_cmp word_cmp word e.0) e.1 0) list

-- The counts of the list, added up for each word, are those of the map.
abbrev pub AreParts : WordCounts → List (List ℕ × ℕ) → Type 0
AreParts counts list = (word : List ℕ) → finite.get counts word ≡ cond (has_count list word) (Some (sum_for list word)) None

-- No word is above a later one.
abbrev pub Ascends : List (List ℕ × ℕ) → Type 0
Ascends list =
    (i j : ℕ) (d : List ℕ × ℕ) → i ≤ j → j < length list → is_lt (word_cmp (slice_index_or list j d).0 (slice_index_or list i d).0) ≡ false

-- The count was added to the last of the list, which is of the same word, or put behind a list whose last isn't.
abbrev pub AddsLast : List ℕ × ℕ → List (List ℕ × ℕ) → List (List ℕ × ℕ) → Type 0
AddsLast counted sums after =
    ((front : List (List ℕ × ℕ)) × (n : ℕ) × (sums ≡ front ++ (counted.0, n) ∷ []) × (after ≡ front ++ (counted.0, n + counted.1) ∷ []))
    ⊎ (((front : List (List ℕ × ℕ)) (n : ℕ) → sums ≢ front ++ (counted.0, n) ∷ []) × (after ≡ sums ++ counted ∷ []))
