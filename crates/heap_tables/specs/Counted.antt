-- The counts of a table after the count of a word was raised.
use Rattle.std.specs.Prelude.{◌≡◌, ℕ, ◌+◌, ◌^◌, ◌<◌, ◌≤◌, List, length, IsSome, Option, None, Some}
use Rattle.std.specs.FinMap as finite
use Rattle.object_layout.specs.declared.TheConstants.{MAX_INT}
use Rattle.object_layout.specs.declared.names.Name.{Name}
use Rattle.yak_model.specs.declared.datum.Datum.TheVariants as datum
use Rattle.yak_model.specs.Private.{KnownObjects}
use Rattle.yak_model.specs.declared.TheConstants.{BUCKETS}
use Rattle.yak_model.specs.Standing.{Standing}
use Rattle.heap_tables.specs.Runs.{slot_in}
use Rattle.yak_model.specs.Tables.{bucket_of}
use Rattle.yak_model.specs.Tables.{IsCountTable}
use Rattle.yak_model.specs.Texts.{WordCounts}
use Rattle.heap_tables.specs.Adds.{AddsWord, Grows, KeepsOthers, StayAfter, StayNowhere}

abbrev pub or_zero : Option ℕ → ℕ
or_zero None = 0
or_zero (Some n) = n

-- the count of a word, or 0 if it is not there
abbrev pub count_of : WordCounts → List ℕ → ℕ
count_of counts word = or_zero (finite.get counts word)

abbrev pub raised : WordCounts → List ℕ → ℕ → WordCounts
raised counts word n = finite.insert counts word (count_of counts word + n)

-- A slot refers to a table of these counts in a known map, and the count of the word may rise by n.
pub record MayCount (s : Standing) (known : KnownObjects) (table : ℕ) (word : List ℕ) (n : ℕ) (name : Name) (counts : WordCounts) : Type 0 where
  pub slot : slot_in s table ≡ datum.Object name
  pub is_table : IsCountTable known name counts
  pub short : length (is_table.buckets (bucket_of word)) < 2 ^ 32
  pub sum : count_of counts word + n ≤ MAX_INT

abbrev pub HasCountTable : Standing → (KnownObjects → Type 0) → ℕ → List ℕ → ℕ → Type 0
HasCountTable s knows table word n = (known : KnownObjects) × (name : Name) × (counts : WordCounts) × knows known × MayCount s known table word n name counts

-- A slot refers to a table of these counts in a known map, and the bucket of the word has not too many words.
pub record MayLook (s : Standing) (known : KnownObjects) (table : ℕ) (word : List ℕ) (name : Name) (counts : WordCounts) : Type 0 where
  pub slot : slot_in s table ≡ datum.Object name
  pub is_table : IsCountTable known name counts
  pub short : length (is_table.buckets (bucket_of word)) < 2 ^ 32

abbrev pub HasTableLook : Standing → (KnownObjects → Type 0) → ℕ → List ℕ → Type 0
HasTableLook s knows table word = (known : KnownObjects) × (name : Name) × (counts : WordCounts) × knows known × MayLook s known table word name counts

-- Nothing was made for a word that is counted, and a key and an entry for another.
abbrev pub MakesUncounted : Standing → Standing → WordCounts → List ℕ → Type 0
MakesUncounted s after counts word =
    (IsSome (finite.get counts word) → after.own.made ≡ s.own.made) × (finite.get counts word ≡ None → after.own.made ≡ s.own.made + 2)

-- A known map has the table with the word's count raised by n, in the word's entry or in a new one at the front of its
-- bucket, and other objects as they were. A new entry and its key are the thread's newest objects.
abbrev pub IsCounted : (s after : Standing) (known : KnownObjects) (table : ℕ) (word : List ℕ) (n : ℕ) (name : Name) (counts : WordCounts) → MayCount s known table word n name counts → (KnownObjects → Type 0) → Type 0
IsCounted s after known table word n name counts may knows =
    MakesUncounted s after counts word
    × ((later : KnownObjects) × knows later × (table : IsCountTable later name (raised counts word n)) × KeepsOthers known name ((may.is_table).buckets (bucket_of word)) later × StayNowhere known (may.is_table).buckets table.buckets × AddsWord word n (may.is_table).buckets table.buckets × ((b : ℕ) → b < BUCKETS → StayAfter s ((may.is_table).buckets b) (table.buckets b)))

-- The word is not counted, and a known map has the table with the same counts, and all other objects as they were.
abbrev pub IsUncounted : (s : Standing) (known : KnownObjects) (table : ℕ) (word : List ℕ) (n : ℕ) (name : Name) (counts : WordCounts) → MayCount s known table word n name counts → (KnownObjects → Type 0) → Type 0
IsUncounted s known table word n name counts may knows =
    (finite.get counts word ≡ None) × ((later : KnownObjects) × knows later × (after : IsCountTable later name counts) × Grows known later × (after.buckets ≡ (may.is_table).buckets))
