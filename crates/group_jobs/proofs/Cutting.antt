-- Cutting bytes at the first byte that parts words.
use Rattle.std.proofs.Common.{◌≡◌, ℕ, ◌+◌, ◌<◌, ◌≤◌, add-one, true, false, List, [], ◌∷◌, ◌++◌, length, get_or, take, drop, All, refl, sym, ap, ◌∙◌, arith}
use Rattle.std.proofs.lemmas.List.{take-append-drop, take_all}
use Rattle.std.proofs.lemmas.List.Elements.{All-more}
use Rattle.std.proofs.lemmas.List.Splits.{slice_split_at, slice_split_none}
use Rattle.std.proofs.Math.Seq.{drop-cons}
use Rattle.std.specs.Prelude.{filter}
use Rattle.yak_model.specs.Texts.{parts_words, is_word, words_of}
use Rattle.group_jobs.specs.Pieces.{pieces}

-- no byte parts words
abbrev pub PartsNowhere : List ℕ → Type 0
PartsNowhere bytes = All (λ byte. parts_words byte ≡ false) bytes

pub no_part_more : (bytes : List ℕ) (i : ℕ) → i < length bytes → PartsNowhere (take i bytes) → parts_words (get_or bytes i 0) ≡ false → PartsNowhere (take (i + 1) bytes)
no_part_more bytes i lt none other = All-more (λ byte. parts_words byte ≡ false) bytes i 0 lt none other

pub cut_at : (bytes : List ℕ) (i : ℕ) → i < length bytes → PartsNowhere (take i bytes) → parts_words (get_or bytes i 0) ≡ true → pieces bytes ≡ take i bytes ∷ pieces (drop (i + 1) bytes)
unfolding pieces
cut_at bytes i lt none is =
    let rest : drop i bytes ≡ get_or bytes i 0 ∷ drop (i + 1) bytes = rw add-one (drop-cons bytes i 0 lt) in
    let whole : bytes ≡ take i bytes ++ (get_or bytes i 0 ∷ drop (i + 1) bytes) = rw (← rest) (sym (take-append-drop i bytes)) in
    ap pieces whole ∙ slice_split_at parts_words (take i bytes) (get_or bytes i 0) (drop (i + 1) bytes) none is

pub cut_none : (bytes : List ℕ) (i : ℕ) → length bytes ≤ i → PartsNowhere (take i bytes) → pieces bytes ≡ bytes ∷ []
unfolding pieces
cut_none bytes i le none = slice_split_none parts_words bytes (rw (take_all i bytes le) at none)

-- the last piece, where it is a word
pub last_word : (rest : List ℕ) (all : List (List ℕ)) → pieces rest ≡ rest ∷ [] → (length rest ≡ 0 → ⊥) → words_of rest ≡ all → all ≡ rest ∷ words_of []
unfolding pieces
last_word [] all cut some is = absurd (some refl)
last_word (byte ∷ rest) all cut some is = sym is ∙ ap (filter is_word) cut

-- a piece that is a word
pub word_first : (rest word after : List ℕ) → pieces rest ≡ word ∷ pieces after → (length word ≡ 0 → ⊥) → words_of rest ≡ word ∷ words_of after
unfolding pieces
word_first rest [] after cut some = absurd (some refl)
word_first rest (byte ∷ word) after cut some = ap (filter is_word) cut

-- a piece that is none
pub word_later : (rest word after : List ℕ) → pieces rest ≡ word ∷ pieces after → length word ≡ 0 → words_of rest ≡ words_of after
unfolding pieces
word_later rest [] after cut none = ap (filter is_word) cut
word_later rest (byte ∷ word) after cut none = absurd (omega arith)
