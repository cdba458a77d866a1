-- The counts of words: of none, of one more, and of two lists.
use Rattle.std.proofs.Common.{◌≡◌, ℕ, ◌+◌, ◌≤◌, cond, true, false, Bool, ◌||◌, List, [], ◌∷◌, ◌++◌, map, length, Option, None, Some, All, unwrap_or, refl, sym, ap, ◌∙◌, arith, zero-add, add-zero}
use Rattle.std.specs.FinMap as finite
use Rattle.std.specs.FinMap.{find}
use Rattle.std.specs.List.{list_any}
use Rattle.std.specs.Ordering.{eq_by_cmp}
use Rattle.std.proofs.lemmas.Bool.Decides.{nat_tests}
use Rattle.std.proofs.lemmas.Cmp.{nat_list_cmp_total, eq_by_cmp_equiv}
use Rattle.std.proofs.lemmas.List.Elements.{All-nil, All-cons}
use Rattle.std.proofs.lemmas.List.Folds.{list_any-append}
use Rattle.std.proofs.lemmas.List.Sums.{sum_by-append}
use Rattle.object_layout.specs.declared.TheConstants.{WORD_LIMIT}
use Rattle.yak_model.specs.Texts.{WordCounts, places_of, word_cmp, word_counts}
use Rattle.heap_tables.proofs.Walked.{same_by_test}
use Rattle.group_jobs.specs.Counts.{has_word}
use Rattle.group_jobs.specs.LongWords.{is_long}
use Rattle.group_jobs.proofs.Sorting.{same_word}

find-map : (g : List ℕ → ℕ) (words : List (List ℕ)) (word : List ℕ) → find word_cmp word (map (λ w. (w, g w)) words) ≡ cond (has_word words word) (Some (g word)) None
find-map g [] word = refl
find-map g (first ∷ words) word =
    elim (eq_by_cmp word_cmp word first) as (λ b. eq_by_cmp word_cmp word first ≡ b → cond b (Some (g first)) (find word_cmp word (map (λ w. (w, g w)) words)) ≡ cond (b || has_word words word) (Some (g word)) None) [
      | true ↦ λ tie. ap (λ w. Some (g w)) (sym (same_by_test word first tie))
      | false ↦ λ _. find-map g words word
    ] refl

-- what a list tells of a word: the number of its places, if it has one
abbrev pub told_of : List (List ℕ) → List ℕ → Option ℕ
told_of words word = cond (has_word words word) (Some (places_of words word)) None

pub get-word_counts : (words : List (List ℕ)) (word : List ℕ) → finite.get (word_counts words) word ≡ told_of words word
get-word_counts words word = finite.get-from_entries nat_list_cmp_total (map (λ w. (w, places_of words w)) words) word ∙ find-map (places_of words) words word

-- A map that tells of each word what a list tells is the list's.
pub same_counts : (counts : WordCounts) (words : List (List ℕ)) → ((word : List ℕ) → finite.get counts word ≡ told_of words word) → counts ≡ word_counts words
same_counts counts words is = finite.same_map nat_list_cmp_total same_word counts (word_counts words) (λ word. is word ∙ sym (get-word_counts words word))

pub places_of-append : (words others : List (List ℕ)) (word : List ℕ) → places_of (words ++ others) word ≡ places_of words word + places_of others word
places_of-append words others word = sum_by-append (λ other. cond (eq_by_cmp word_cmp other word) 1 0) words others

pub has_word-append : (words others : List (List ℕ)) (word : List ℕ) → has_word (words ++ others) word ≡ (has_word words word || has_word others word)
has_word-append words others word = list_any-append (eq_by_cmp word_cmp word) words others

turned_test : (word other : List ℕ) → eq_by_cmp word_cmp word other ≡ eq_by_cmp word_cmp other word
turned_test = (eq_by_cmp_equiv nat_list_cmp_total).symm

-- whether a word is the only one of a list
pub one_place : (word other : List ℕ) → places_of (word ∷ []) other ≡ cond (eq_by_cmp word_cmp other word) 1 0
one_place word other = zero-add (cond (eq_by_cmp word_cmp word other) 1 0) ∙ ap (λ (b : Bool). cond {A = ℕ} b 1 0) (turned_test word other)

-- A word that doesn't stand in a list has no place there.
pub no_place : (words : List (List ℕ)) (word : List ℕ) → has_word words word ≡ false → places_of words word ≡ 0
no_place [] word none = refl
no_place (first ∷ words) word none =
    elim (eq_by_cmp word_cmp word first) as (λ b. eq_by_cmp word_cmp word first ≡ b → (b || has_word words word) ≡ false → places_of (first ∷ words) word ≡ 0) [
      | true ↦ λ _ is. cc
      | false ↦ λ other rest.
          places_of-append (first ∷ []) words word ∙ ap (λ n. n + places_of words word) (one_place first word ∙ ap (λ (b : Bool). cond {A = ℕ} b 1 0) other) ∙ zero-add (places_of words word) ∙ no_place words word rest
    ] refl none

-- The count of a word in a list's map, which is 0 where the word isn't there.
pub count-word_counts : (words : List (List ℕ)) (word : List ℕ) → unwrap_or (finite.get (word_counts words) word) 0 ≡ places_of words word
count-word_counts words word = ap (λ o. unwrap_or o 0) (get-word_counts words word) ∙ elim (has_word words word) as (λ b. has_word words word ≡ b → unwrap_or (cond b (Some (places_of words word)) None) 0 ≡ places_of words word) [
  | true ↦ λ _. refl
  | false ↦ λ none. sym (no_place words word none)
] refl

or_true : (b : Bool) → (b || true) ≡ true
or_true true = refl
or_true false = refl

or_false : (b : Bool) → b ≡ (b || false)
or_false true = refl
or_false false = refl

-- One more word raises its count by one.
pub word_counts-push : (words : List (List ℕ)) (word : List ℕ) → finite.insert (word_counts words) word (places_of words word + 1) ≡ word_counts (words ++ word ∷ [])
word_counts-push words word = same_counts _ (words ++ word ∷ []) (λ other.
    finite.get-insert nat_list_cmp_total (word_counts words) word (places_of words word + 1) other ∙ pushed other ∙ sym (told other))
  where
    told : (other : List ℕ) → told_of (words ++ word ∷ []) other ≡ cond (has_word words other || (eq_by_cmp word_cmp other word || false)) (Some (places_of words other + cond (eq_by_cmp word_cmp other word) 1 0)) None
    told other = λ i. cond (has_word-append words (word ∷ []) other i) (Some ((places_of-append words (word ∷ []) other ∙ ap (λ n. places_of words other + n) (one_place word other)) i)) None

    pushed : (other : List ℕ) → cond (eq_by_cmp word_cmp other word) (Some (places_of words word + 1)) (finite.get (word_counts words) other) ≡ cond (has_word words other || (eq_by_cmp word_cmp other word || false)) (Some (places_of words other + cond (eq_by_cmp word_cmp other word) 1 0)) None
    pushed other = elim (eq_by_cmp word_cmp other word) as (λ b. eq_by_cmp word_cmp other word ≡ b → cond b (Some (places_of words word + 1)) (finite.get (word_counts words) other) ≡ cond (has_word words other || (b || false)) (Some (places_of words other + cond b 1 0)) None) [
      | true ↦ λ tie. ap (λ w. Some (places_of words w + 1)) (sym (same_by_test other word tie)) ∙ sym (ap (λ b. cond b (Some (places_of words other + 1)) None) (or_true (has_word words other)))
      | false ↦ λ _. get-word_counts words other ∙ (λ i. cond (or_false (has_word words other) i) (Some (sym (add-zero (places_of words other)) i)) None)
    ] refl

-- the count of a word in two maps together
abbrev pub joined_count : Option ℕ → Option ℕ → Option ℕ
joined_count None other = other
joined_count (Some m) None = Some m
joined_count (Some m) (Some n) = Some (m + n)

pub joined_told : (words others : List (List ℕ)) (word : List ℕ) → joined_count (told_of words word) (told_of others word) ≡ told_of (words ++ others) word
joined_told words others word = by_cases ∙ sym (λ i. cond (has_word-append words others word i) (Some (places_of-append words others word i)) None)
  where
    by_cases : joined_count (told_of words word) (told_of others word) ≡ cond (has_word words word || has_word others word) (Some (places_of words word + places_of others word)) None
    by_cases = elim (has_word words word) as (λ a. has_word words word ≡ a → joined_count (cond a (Some (places_of words word)) None) (told_of others word) ≡ cond (a || has_word others word) (Some (places_of words word + places_of others word)) None) [
      | true ↦ λ _. elim (has_word others word) as (λ b. has_word others word ≡ b → joined_count (Some (places_of words word)) (cond b (Some (places_of others word)) None) ≡ Some (places_of words word + places_of others word)) [
        | true ↦ λ _. refl
        | false ↦ λ none. ap Some (sym (add-zero (places_of words word)) ∙ ap (λ k. places_of words word + k) (sym (no_place others word none)))
      ] refl
      | false ↦ λ none. ap (λ k. cond (has_word others word) (Some k) None) (sym (zero-add (places_of others word)) ∙ ap (λ k. k + places_of others word) (sym (no_place words word none)))
    ] refl

-- A map that tells of each word what two lists tell together is that of the lists, one after the other.
pub joined_counts : (after : WordCounts) (words others : List (List ℕ)) → ((word : List ℕ) → finite.get after word ≡ joined_count (finite.get (word_counts words) word) (finite.get (word_counts others) word)) → after ≡ word_counts (words ++ others)
joined_counts after words others is = same_counts after (words ++ others) (λ word.
    is word ∙ (λ i. joined_count (get-word_counts words word i) (get-word_counts others word i)) ∙ joined_told words others word)

-- None of the words is long where no test finds one.
pub none_long : (words : List (List ℕ)) → list_any is_long words ≡ false → All (λ word. length word ≤ WORD_LIMIT) words
none_long [] none = All-nil (λ word. length word ≤ WORD_LIMIT)
none_long (word ∷ words) none =
    elim (is_long word) as (λ b. is_long word ≡ b → (b || list_any is_long words) ≡ false → All (λ w. length w ≤ WORD_LIMIT) (word ∷ words)) [
      | true ↦ λ _ is. cc
      | false ↦ λ short rest. All-cons (λ w. length w ≤ WORD_LIMIT) word words (grind (arith, nat_tests)) (none_long words rest)
    ] refl none
