-- The words of a text, and how often each of them stands there.
use Rattle.std.specs.Prelude.{ℕ, ◌==◌, ◌||◌, Bool, true, false, List, [], ◌∷◌, filter, map, count_by}
use Rattle.std.specs.List.{slice_split}
use Rattle.std.specs.declared.cmp.Ordering.{Ordering}
use Rattle.std.specs.Ordering.{eq_by_cmp, nat_cmp}
use Rattle.std.specs.Cmp.Lexicographic.{slice_cmp}
use Rattle.std.specs.FinMap as finite

-- what parts words: a space, a tab, a line feed or a carriage return
abbrev pub parts_words : ℕ → Bool
parts_words byte = byte == 32 || byte == 9 || byte == 10 || byte == 13

-- a piece of at least one byte
abbrev pub is_word : List ℕ → Bool
is_word [] = false
is_word (byte ∷ bytes) = true

-- the longest runs of bytes that part no words, in the order of the text
abbrev pub words_of : List ℕ → List (List ℕ)
words_of bytes = filter is_word (slice_split parts_words bytes)

-- the order of words, by their bytes
abbrev pub word_cmp : List ℕ → List ℕ → Ordering
word_cmp = slice_cmp nat_cmp

-- at how many places of a list a word stands
abbrev pub places_of : List (List ℕ) → List ℕ → ℕ
places_of words word = count_by (λ other. eq_by_cmp word_cmp other word) words

-- a finite map from words to counts
abbrev pub WordCounts : Type 0
WordCounts = finite.FinMap word_cmp ℕ

-- the words of a list, each with the number of places at which it stands
abbrev pub word_counts : List (List ℕ) → WordCounts
word_counts words = finite.from_entries (map (λ word. (word, places_of words word)) words)

-- the same as a list, in ascending order of the words
abbrev pub counts_of : List (List ℕ) → List (List ℕ × ℕ)
counts_of words = finite.entries (word_counts words)

-- the words of a list, each once, in ascending order
abbrev pub different : List (List ℕ) → List (List ℕ)
different words = finite.keys (word_counts words)
