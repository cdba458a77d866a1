-- The words of bytes that are cut where words are parted.
use Rattle.std.proofs.Common.{◌≡◌, ℕ, ◌+◌, ◌-◌, ◌<◌, cond, true, false, Bool, List, [], ◌∷◌, ◌++◌, length, get_or, take, refl, sym, ap, ◌∙◌, arith, append_assoc, filter}
use Rattle.std.specs.List.{slice_split, onto_first}
use Rattle.std.proofs.lemmas.List.{append-nil, take_all, take_more}
use Rattle.std.proofs.lemmas.List.Splits.{slice_split-cons_yes, slice_split-cons_no}
use Rattle.yak_model.specs.Texts.{parts_words, is_word, words_of}

-- There is always a first part.
some_parts : {X : Type 0} (p : X → Bool) (xs : List X) → 0 < length (slice_split p xs)
some_parts p [] = omega arith
some_parts p (x ∷ xs) = elim (p x) as (λ b. p x ≡ b → 0 < length (slice_split p (x ∷ xs))) [
  | true ↦ λ is. rw (slice_split-cons_yes p x xs is) (omega arith)
  | false ↦ λ is. rw (slice_split-cons_no p x xs is) (onto (slice_split p xs))
] refl
  where
    onto : (parts : List (List _)) → 0 < length (onto_first x parts)
    onto [] = omega arith
    onto (part ∷ parts) = omega arith

onto_first-append : {X : Type 0} (x : X) (parts others : List (List X)) → 0 < length parts → onto_first x (parts ++ others) ≡ onto_first x parts ++ others
onto_first-append x [] others some = absurd (omega arith)
onto_first-append x (part ∷ parts) others some = refl

-- a list that is cut where one element is cut away
pub parts_past : {X : Type 0} (p : X → Bool) (xs : List X) (y : X) (ys : List X) → p y ≡ true → slice_split p (xs ++ y ∷ ys) ≡ slice_split p xs ++ slice_split p ys
parts_past p [] y ys is = slice_split-cons_yes p y ys is
parts_past p (x ∷ xs) y ys is = elim (p x) as (λ b. p x ≡ b → slice_split p (x ∷ (xs ++ y ∷ ys)) ≡ slice_split p (x ∷ xs) ++ slice_split p ys) [
  | true ↦ λ here. rw (slice_split-cons_yes p x (xs ++ y ∷ ys) here, slice_split-cons_yes p x xs here) (ap (λ parts. [] ∷ parts) (parts_past p xs y ys is))
  | false ↦ λ other. rw (slice_split-cons_no p x (xs ++ y ∷ ys) other, slice_split-cons_no p x xs other) (ap (onto_first x) (parts_past p xs y ys is) ∙ onto_first-append x (slice_split p xs) (slice_split p ys) (some_parts p xs))
] refl

filter_joined : {X : Type 0} (p : X → Bool) (xs ys : List X) → filter p (xs ++ ys) ≡ filter p xs ++ filter p ys
filter_joined p [] ys = refl
filter_joined p (x ∷ xs) ys = elim (p x) as (λ b. cond b (x ∷ filter p (xs ++ ys)) (filter p (xs ++ ys)) ≡ cond b (x ∷ filter p xs) (filter p xs) ++ filter p ys) [
  | true ↦ ap (λ rest. x ∷ rest) (filter_joined p xs ys)
  | false ↦ filter_joined p xs ys
]

-- The words before a byte that parts words, and those after it.
pub words_past : (xs : List ℕ) (y : ℕ) (ys : List ℕ) → parts_words y ≡ true → words_of (xs ++ y ∷ ys) ≡ words_of xs ++ words_of ys
words_past xs y ys is = ap (filter is_word) (parts_past parts_words xs y ys is) ∙ filter_joined is_word (slice_split parts_words xs) (slice_split parts_words ys)

-- The words of bytes that end with a byte that parts words, and those of what follows.
pub words_behind : (piece rest : List ℕ) → 0 < length piece → parts_words (get_or piece (length piece - 1) 0) ≡ true → words_of (piece ++ rest) ≡ words_of piece ++ words_of rest
words_behind piece rest some is =
    let last : ℕ = get_or piece (length piece - 1) 0 in
    let front : List ℕ = take (length piece - 1) piece in
    let length_is : length piece - 1 + 1 ≡ length piece = omega arith in
    let cut : piece ≡ front ++ last ∷ [] = sym (take_all (length piece) piece (omega arith)) ∙ ap (λ n. take n piece) (sym length_is) ∙ take_more piece (length piece - 1) 0 (omega arith) in
    let alone : words_of piece ≡ words_of front = ap words_of cut ∙ words_past front last [] is ∙ append-nil (words_of front) in
    let joined : piece ++ rest ≡ front ++ last ∷ rest = ap (λ bytes. bytes ++ rest) cut ∙ append_assoc front (last ∷ []) rest in
    ap words_of joined ∙ words_past front last rest is ∙ ap (λ words. words ++ words_of rest) (sym alone)
