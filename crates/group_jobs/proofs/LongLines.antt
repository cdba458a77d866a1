-- The first line with a long word.
use Rattle.std.proofs.Common.{◌≡◌, ℕ, suc, ◌+◌, cond, not, ◌||◌, true, false, Bool, List, [], ◌∷◌, ◌++◌, length, Option, None, Some, is_some, nat_lt, refl, sym, ap, ◌∙◌, arith}
use Rattle.std.specs.List.{slice_split, join_with_byte, flat_map, list_any, position, position_or_len}
use Rattle.std.specs.Option.{option_map}
use Rattle.std.proofs.lemmas.Bool.Decides.{nat_tests}
use Rattle.std.proofs.lemmas.List.{append-nil}
use Rattle.std.proofs.lemmas.List.Folds.{list_any-append}
use Rattle.std.proofs.lemmas.List.Splits.{join_with_byte-slice_split}
use Rattle.yak_model.specs.Texts.{words_of}
use Rattle.group_jobs.specs.Tasks.{is_feed}
use Rattle.group_jobs.specs.LongWords.{is_long, has_long_word, long_word_line}
use Rattle.group_jobs.proofs.Parting.{words_past}

words_joined : (lines : List (List ℕ)) → words_of (join_with_byte 10 lines) ≡ flat_map words_of lines
words_joined [] = refl
words_joined (line ∷ []) = sym (append-nil (words_of line))
words_joined (line ∷ next ∷ more) = words_past line 10 (join_with_byte 10 (next ∷ more)) refl ∙ ap (λ words. words_of line ++ words) (words_joined (next ∷ more))

-- The words of a text are those of its lines.
pub words_of_lines : (bytes : List ℕ) → words_of bytes ≡ flat_map words_of (slice_split is_feed bytes)
words_of_lines bytes = ap words_of (sym (join_with_byte-slice_split 10 bytes)) ∙ words_joined (slice_split is_feed bytes)

any_of_lines : (lines : List (List ℕ)) → list_any has_long_word lines ≡ list_any is_long (flat_map words_of lines)
any_of_lines [] = refl
any_of_lines (line ∷ lines) = ap (λ b. has_long_word line || b) (any_of_lines lines) ∙ sym (list_any-append is_long (words_of line) (flat_map words_of lines))

is_some-cond : (b : Bool) (n : ℕ) → is_some (cond b (Some n) None) ≡ b
is_some-cond true n = refl
is_some-cond false n = refl

within-any : {X : Type 0} (p : X → Bool) (xs : List X) → nat_lt (position_or_len p xs) (length xs) ≡ list_any p xs
within-any p [] = refl
within-any p (x ∷ xs) = elim (p x) as (λ b. nat_lt (cond (not b) (1 + position_or_len p xs) 0) (length (x ∷ xs)) ≡ (b || list_any p xs)) [
  | true ↦ first (length xs)
  | false ↦ sooner (position_or_len p xs) (length xs) ∙ within-any p xs
]
  where
    sooner : (m n : ℕ) → nat_lt (1 + m) (suc n) ≡ nat_lt m n
    sooner m n = grind (arith, nat_tests)

    first : (n : ℕ) → nat_lt 0 (suc n) ≡ true
    first n = grind (arith, nat_tests)

is_some-position : {X : Type 0} (p : X → Bool) (xs : List X) → is_some (position p xs) ≡ list_any p xs
is_some-position p xs = is_some-cond (nat_lt (position_or_len p xs) (length xs)) (position_or_len p xs) ∙ within-any p xs

-- Before the first line with a long word stand so many lines.
abbrev IsPlace : List ℕ → Option ℕ → Type 0
IsPlace bytes place = place ≡ position has_long_word (slice_split is_feed bytes)

-- Some line has a long word exactly where the text has one.
pub some_long : (bytes : List ℕ) (place : Option ℕ) → IsPlace bytes place → is_some place ≡ list_any is_long (words_of bytes)
some_long bytes place found =
    ap is_some found ∙ is_some-position has_long_word (slice_split is_feed bytes) ∙ any_of_lines (slice_split is_feed bytes) ∙ ap (list_any is_long) (sym (words_of_lines bytes))

pub line_of_place : (bytes : List ℕ) (place result : Option ℕ) → IsPlace bytes place → result ≡ option_map (λ before. before + 1) place → result ≡ long_word_line bytes
line_of_place bytes place result found is = is ∙ ap (option_map (λ before. before + 1)) found
