-- The entries of a table of counts, as a list of words and counts.
use Rattle.std.specs.Prelude.{◌≡◌, ◌≢◌, ℕ, List, AllPairs, map}
use Rattle.std.specs.FinMap as finite
use Rattle.yak_model.specs.declared.TheConstants.{BUCKETS}
use Rattle.yak_model.specs.Tables.{Link}
use Rattle.yak_model.specs.Texts.{WordCounts, word_cmp}
use Rattle.heap_tables.specs.Merges.{walk}

-- the word and the count of an entry
abbrev pub entry_of : Link → List ℕ × ℕ
entry_of link = (link.word, link.count)

-- the words and counts of all entries, in the order of the walk
abbrev pub entries_of : (ℕ → List Link) → List (List ℕ × ℕ)
entries_of buckets = map entry_of (walk buckets BUCKETS)

-- The entries, in some order, tell of each word of a map once, with its count, and of no other word.
pub record AreEntries (counts : WordCounts) (entries : List (List ℕ × ℕ)) : Type 0 where
  pub once : AllPairs (λ one other. one.0 ≢ other.0) entries
  pub found : (word : List ℕ) → finite.find word_cmp word entries ≡ finite.get counts word
