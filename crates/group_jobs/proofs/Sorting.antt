-- Entries in ascending order of their words.
use Rattle.std.proofs.Common.{◌≡◌, ◌≢◌, ℕ, zero, suc, ◌<◌, ◌≤◌, ◌⊎◌, inl, inr, cond, true, false, Bool, ◌||◌, ◌&&◌, T, List, [], ◌∷◌, map, length, get_or, Option, None, Some, is_some, All, AllPairs, is_eq, refl, sym, ap, subst, ◌∙◌, arith}
use Rattle.std.specs.FinMap as finite
use Rattle.std.specs.FinMap.{find, is_sorted, slice_cmp-IsAntisymmetric, nat_cmp-IsAntisymmetric, IsAntisymmetric, entries_sorted, get-entries}
use Rattle.std.specs.FinMap.Entries.{below_all, same_entries, is_some-find}
use Rattle.std.specs.declared.cmp.Ordering.TheVariants.{Less, Equal, Greater}
use Rattle.std.specs.Ordering.{eq_by_cmp, is_lt, ordering_reverse}
use Rattle.std.specs.Cmp.{Equal-is}
use Rattle.std.specs.List.{swap}
use Rattle.std.specs.List.Sorted.{IsPermutation, IsSortedByKey}
use Rattle.std.proofs.lemmas.Bool.{cases_eq, cases_lt}
use Rattle.std.proofs.lemmas.Cmp.{nat_list_cmp_total, tied_itself}
use Rattle.std.proofs.lemmas.List.Edits.{Swapped, swapped_from_swap, length-swap}
use Rattle.std.proofs.lemmas.List.Elements.{All-head, All-tail}
use Rattle.std.proofs.lemmas.List.Sorted.{IsPermutation-keeps, IsPermutation-map, All-permutation, list_any-IsPermutation, sorted_far, ranks_by}
use Rattle.yak_model.specs.Texts.{WordCounts, word_cmp}
use Rattle.group_jobs.specs.Counts.{has_word}
use Rattle.heap_tables.specs.Entries.{AreEntries}

abbrev Pair : Type 0
Pair = List ℕ × ℕ

-- Two words that tie are one.
pub same_word : IsAntisymmetric word_cmp
same_word = slice_cmp-IsAntisymmetric nat_cmp-IsAntisymmetric

abbrev AreApart : List Pair → Type 0
AreApart entries = AllPairs (λ one other. one.0 ≢ other.0) entries

-- Entries at different places have different words.
apart_at : (entries : List Pair) → AreApart entries → (i j : ℕ) (d : Pair) → (i ≡ j → ⊥) → i < length entries → j < length entries → (get_or entries i d).0 ≢ (get_or entries j d).0
apart_at entries apart i j d other lt_i lt_j = elim (cases_lt i j) [
  | inl below ↦ apart i j d below lt_j
  | inr above ↦ λ same. apart j i d (omega arith) lt_i (sym same)
]

-- where an entry stood before those at a and b were exchanged
abbrev IsSource : (a b k m : ℕ) → Type 0
IsSource a b k m = ((k ≡ a) × (m ≡ b)) ⊎ (((k ≡ b) × (m ≡ a)) ⊎ ((k ≡ a → ⊥) × (k ≡ b → ⊥) × (m ≡ k)))

sources_differ : (a b i j m n : ℕ) → IsSource a b i m → IsSource a b j n → (i ≡ j → ⊥) → m ≡ n → ⊥
sources_differ a b i j m n (inl p) (inl q) other same = other (p.0 ∙ sym q.0)
sources_differ a b i j m n (inl p) (inr (inl q)) other same = other (p.0 ∙ sym q.1 ∙ sym same ∙ p.1 ∙ sym q.0)
sources_differ a b i j m n (inl p) (inr (inr q)) other same = q.1 (sym q.2 ∙ sym same ∙ p.1)
sources_differ a b i j m n (inr (inl p)) (inl q) other same = other (p.0 ∙ sym q.1 ∙ sym same ∙ p.1 ∙ sym q.0)
sources_differ a b i j m n (inr (inl p)) (inr (inl q)) other same = other (p.0 ∙ sym q.0)
sources_differ a b i j m n (inr (inl p)) (inr (inr q)) other same = q.0 (sym q.2 ∙ sym same ∙ p.1)
sources_differ a b i j m n (inr (inr p)) (inl q) other same = p.1 (sym p.2 ∙ same ∙ q.1)
sources_differ a b i j m n (inr (inr p)) (inr (inl q)) other same = p.0 (sym p.2 ∙ same ∙ q.1)
sources_differ a b i j m n (inr (inr p)) (inr (inr q)) other same = other (sym p.2 ∙ same ∙ q.2)

-- The entry stood at another place, or at the same.
abbrev CameFrom : List Pair → (a b k : ℕ) → Pair → Type 0
CameFrom entries a b k d = (m : ℕ) × (m < length entries) × IsSource a b k m × (get_or (swap entries a b) k d ≡ get_or entries m d)

came_from : (entries : List Pair) (a b k : ℕ) (d : Pair) → a < length entries → b < length entries → k < length entries → CameFrom entries a b k d
came_from entries a b k d lt_a lt_b lt =
    let is : Swapped (λ i. get_or entries i d) (λ i. get_or (swap entries a b) i d) a b = swapped_from_swap entries (swap entries a b) a b d lt_a lt_b refl in
    elim (cases_eq k a) [
      | inl here ↦ (b, lt_b, inl (here, refl), ap (λ i. get_or (swap entries a b) i d) here ∙ is.0)
      | inr no_a ↦ elim (cases_eq k b) [
        | inl here ↦ (a, lt_a, inr (inl (here, refl)), ap (λ i. get_or (swap entries a b) i d) here ∙ is.1)
        | inr no_b ↦ (k, lt, inr (inr (no_a, no_b, refl)), is.2 k no_a no_b)
      ]
    ]

apart_swapped : (entries : List Pair) (a b : ℕ) → a < length entries → b < length entries → AreApart entries → AreApart (swap entries a b)
apart_swapped entries a b lt_a lt_b apart = λ i j d below within.
    let size : length (swap entries a b) ≡ length entries = length-swap entries a b in
    let one : CameFrom entries a b i d = came_from entries a b i d lt_a lt_b (omega arith) in
    let other : CameFrom entries a b j d = came_from entries a b j d lt_a lt_b (omega arith) in
    λ same. apart_at entries apart one.0 other.0 d (sources_differ a b i j one.0 other.0 one.2 other.2 (λ e. omega arith)) one.1 other.1 (ap (λ e. e.0) (sym one.3) ∙ same ∙ ap (λ e. e.0) other.3)

apart_moved : (entries after : List Pair) → IsPermutation entries after → AreApart entries → AreApart after
apart_moved entries after moved apart = IsPermutation-keeps entries AreApart apart apart_swapped after moved

-- No word is above a later one, and no two are the same.
pub record Rise (entries : List Pair) : Type 0 where
  pub far : (i j : ℕ) (d : Pair) → i ≤ j → j < length entries → is_lt (word_cmp (get_or entries j d).0 (get_or entries i d).0) ≡ false
  pub apart : AreApart entries

rise_tail : (entry : Pair) (entries : List Pair) → Rise (entry ∷ entries) → Rise entries
rise_tail entry entries rise = record {
  far = λ i j d le lt. rise.far (suc i) (suc j) d (omega arith) (omega arith);
  apart = λ i j d lt within. rise.apart (suc i) (suc j) d (omega arith) (omega arith);
}

less_from : (x y : List ℕ) → is_lt (word_cmp y x) ≡ false → x ≢ y → word_cmp x y ≡ Less
less_from x y above other = elim (word_cmp x y) as (λ r. word_cmp x y ≡ r → r ≡ Less) [
  | Less ↦ λ is. refl
  | Equal ↦ λ is. absurd (other (same_word x y is))
  | Greater ↦ λ is.
      let back : word_cmp y x ≡ Less = nat_list_cmp_total.antisymm y x ∙ ap ordering_reverse is in
      let less : is_lt (word_cmp y x) ≡ true = ap is_lt back in
      cc
] refl

both_hold : (a b : Bool) → T a → T b → T (a && b)
both_hold true b p q = q
both_hold false b p q = p

below_from : (x : List ℕ) (entries : List Pair) → ((j : ℕ) (d : Pair) → j < length entries → word_cmp x (get_or entries j d).0 ≡ Less) → T (below_all word_cmp x entries)
below_from x [] below = tt
below_from x (entry ∷ entries) below =
    both_hold _ _ (subst (λ r. T (is_lt r)) (sym (below 0 entry (omega arith))) tt) (below_from x entries (λ j d lt. below (suc j) d (omega arith)))

sorted_from : (entries : List Pair) → Rise entries → T (is_sorted word_cmp entries)
sorted_from [] rise = tt
sorted_from (entry ∷ entries) rise =
    both_hold _ _
    (below_from entry.0 entries (λ j d lt. less_from entry.0 (get_or entries j d).0 (rise.far 0 (suc j) d (omega arith) (omega arith)) (rise.apart 0 (suc j) d (omega arith) (omega arith))))
    (sorted_from entries (rise_tail entry entries rise))

find_right : (counts : WordCounts) (entries : List Pair) → All (λ entry. finite.get counts entry.0 ≡ Some entry.1) entries → (word : List ℕ)
    → find word_cmp word entries ≡ cond (has_word (map (λ entry. entry.0) entries) word) (finite.get counts word) None
find_right counts [] right word = refl
find_right counts (entry ∷ entries) right word =
    let head : finite.get counts entry.0 ≡ Some entry.1 = All-head (λ e. finite.get counts e.0 ≡ Some e.1) entry entries right in
    let rest = find_right counts entries (All-tail (λ e. finite.get counts e.0 ≡ Some e.1) entry entries right) word in
    elim (eq_by_cmp word_cmp word entry.0) as (λ b. eq_by_cmp word_cmp word entry.0 ≡ b → cond b (Some entry.1) (find word_cmp word entries) ≡ cond (b || has_word (map (λ e. e.0) entries) word) (finite.get counts word) None) [
      | true ↦ λ tie. sym head ∙ ap (finite.get counts) (sym (same_word word entry.0 ((Equal-is (word_cmp word entry.0)).0 tie)))
      | false ↦ λ _. rest
    ] refl

one_or_none : (o : Option ℕ) → cond (is_some o) o None ≡ o
one_or_none None = refl
one_or_none (Some n) = refl

map_passes : (word : List ℕ) (entries : List Pair) → is_some (find word_cmp word entries) ≡ has_word (map (λ entry. entry.0) entries) word
map_passes word entries = is_some-find word_cmp word entries

tied_self : (word : List ℕ) → eq_by_cmp word_cmp word word ≡ true
tied_self word = ap is_eq (tied_itself nat_list_cmp_total word)

-- An entry is the first of its word, where each word is told once.
find_at : (entries : List Pair) → AreApart entries → (k : ℕ) (d : Pair) → k < length entries → find word_cmp (get_or entries k d).0 entries ≡ Some (get_or entries k d).1
find_at [] apart k d lt = absurd (omega arith)
find_at (entry ∷ entries) apart zero d lt = ap (λ b. cond b (Some entry.1) (find word_cmp entry.0 entries)) (tied_self entry.0)
find_at (entry ∷ entries) apart (suc k) d lt =
    let word : List ℕ = (get_or entries k d).0 in
    let rest = find_at entries (λ i j e below within. apart (suc i) (suc j) e (omega arith) (omega arith)) k d (omega arith) in
    elim (eq_by_cmp word_cmp word entry.0) as (λ b. eq_by_cmp word_cmp word entry.0 ≡ b → cond b (Some entry.1) (find word_cmp word entries) ≡ Some (get_or entries k d).1) [
      | true ↦ λ tie. absurd (apart 0 (suc k) d (omega arith) lt (sym (same_word word entry.0 ((Equal-is (word_cmp word entry.0)).0 tie))))
      | false ↦ λ _. rest
    ] refl

-- The entries of a map, put into ascending order, are its entries in order.
pub sorted_entries : (counts : WordCounts) (before after : List Pair) → IsPermutation before after → IsSortedByKey (λ entry. entry.0) word_cmp after → AreEntries counts before → after ≡ finite.entries counts
sorted_entries counts before after moved up are =
    let right : All (λ entry. finite.get counts entry.0 ≡ Some entry.1) after =
    All-permutation (λ entry. finite.get counts entry.0 ≡ Some entry.1) before after moved (λ k d lt. sym (are.found (get_or before k d).0) ∙ find_at before are.once k d lt) in
    let told : (word : List ℕ) → has_word (map (λ entry. entry.0) after) word ≡ is_some (finite.get counts word) = λ word.
    sym (list_any-IsPermutation (eq_by_cmp word_cmp word) _ _ (IsPermutation-map (λ entry. entry.0) before after moved)) ∙ sym (map_passes word before) ∙ ap is_some (are.found word) in
    let rise : Rise after = record {
      far = sorted_far (λ one other. is_lt (word_cmp one.0 other.0)) (ranks_by nat_list_cmp_total (λ entry. entry.0)) after up;
      apart = apart_moved before after moved are.once;
    } in
    same_entries word_cmp nat_list_cmp_total same_word after (finite.entries counts) (sorted_from after rise) (entries_sorted counts) (λ word.
    find_right counts after right word ∙ ap (λ b. cond b (finite.get counts word) None) (told word) ∙ one_or_none (finite.get counts word) ∙ get-entries counts word)
