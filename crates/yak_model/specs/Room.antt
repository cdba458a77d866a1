-- The words that a count takes in the heap, at most and at least.
use Rattle.std.specs.Prelude.{ℕ, ◌+◌, ◌*◌, List, [], ◌∷◌, length}
use Rattle.std.specs.List.{sum_by}
use Rattle.object_layout.specs.declared.TheConstants.{OBJECT_WORDS}
use Rattle.yak_model.specs.declared.TheConstants.{BUCKETS, ENTRY_FIELDS, ROOT_FIELDS}
use Rattle.yak_model.specs.Tables.{groups}
use Rattle.yak_model.specs.Texts.{different}

-- the words of the root object
abbrev pub root_words : ℕ
root_words = OBJECT_WORDS + ROOT_FIELDS

-- the words of a table without entries
abbrev pub table_words : ℕ
table_words = OBJECT_WORDS + BUCKETS

-- the words of an entry
abbrev pub entry_words : ℕ
entry_words = OBJECT_WORDS + ENTRY_FIELDS

-- the words of a word's key
abbrev pub key_words : List ℕ → ℕ
key_words word = OBJECT_WORDS + (1 + groups (length word))

-- the most words that a count takes: a table for each worker and for each task that has a word, and for each word of the
-- text a key and two entries, that of its task's table and that of its worker's
abbrev pub most_room : ℕ → ℕ → List (List ℕ) → ℕ
most_room workers busy_tasks words =
    root_words + table_words * (workers + busy_tasks) + sum_by (λ word. key_words word + 2 * entry_words) words

-- the least words that the tables of a count take: one table, with a key and an entry for each different word
abbrev pub tables_room : List (List ℕ) → ℕ
tables_room [] = 0
tables_room (word ∷ words) = table_words + sum_by (λ w. key_words w + entry_words) (different (word ∷ words))

-- the least words that a count takes
abbrev pub least_room : List (List ℕ) → ℕ
least_room words = root_words + tables_room words
