-- The walk through a table, from a place on.
use Rattle.std.specs.Prelude.{◌≡◌, ℕ, ◌+◌, ◌^◌, ◌<◌, ◌≤◌, ◌⊎◌, List, [], ◌∷◌, cond, drop, eqb, length, take, Option, None, Some}
use Rattle.std.specs.FinMap as finite
use Rattle.object_layout.specs.declared.names.Name.{Name}
use Rattle.yak_model.specs.declared.TheConstants.{BUCKETS}
use Rattle.yak_model.specs.declared.datum.Datum.TheVariants as datum
use Rattle.yak_model.specs.Private.{KnownObjects}
use Rattle.yak_model.specs.Standing.{Standing}
use Rattle.yak_model.specs.Tables.{IsCountTable, Link}
use Rattle.yak_model.specs.Texts.{WordCounts}
use Rattle.heap_tables.specs.declared.TheConstants.{KEY_BYTES}
use Rattle.heap_tables.specs.Reads.{IsCopied}
use Rattle.heap_tables.specs.Runs.{slot_in}
use Rattle.heap_tables.specs.Walks.{IsApart, IsAtChain}
use Rattle.yak_model.specs.declared.datum.Datum.{Datum}
use Rattle.heap_tables.specs.declared.cursors.Cursor.{Cursor}

-- a word of the walk, its count, and the place after it
pub record Visited : Type 0 where
  pub word : List ℕ
  pub count : ℕ
  pub next : Cursor

-- An entry stands at the place p of bucket b, which is at the cursor or past it.
abbrev pub IsPast : (ℕ → List Link) → Cursor → ℕ → ℕ → Type 0
IsPast buckets at b p = (b < BUCKETS) × (p < length (buckets b)) × ((at.bucket < b) ⊎ ((at.bucket ≡ b) × (at.place ≤ p)))

-- The word and the count are those of the first entry at the cursor or past it, and the next place is the one after it.
pub record IsNext (buckets : ℕ → List Link) (at : Cursor) (word : List ℕ) (count : ℕ) (next : Cursor) : Type 0 where
  pub place : ℕ
  pub link : Link
  pub rest : List Link
  pub past : IsPast buckets at next.bucket place
  pub first : (b p : ℕ) → IsPast buckets at b p → (next.bucket < b) ⊎ ((next.bucket ≡ b) × (place ≤ p))
  pub there : drop place (buckets next.bucket) ≡ link ∷ rest
  pub words : word ≡ link.word
  pub counts : count ≡ link.count
  pub after : next.place ≡ place + 1

-- There is no entry at the cursor or past it.
abbrev pub IsEnd : (ℕ → List Link) → Cursor → Type 0
IsEnd buckets at = (b p : ℕ) → IsPast buckets at b p → ⊥

-- the first place of a bucket that is at the cursor or past it, if the bucket isn't before it
abbrev pub start_in : Cursor → ℕ → ℕ
start_in at b = cond (eqb b at.bucket) at.place 0

-- A slot refers to a table one of whose chains isn't too long for a place in it.
abbrev pub HasFew : Standing → (KnownObjects → Type 0) → ℕ → ℕ → Type 0
HasFew s knows table b =
    (known : KnownObjects) × (name : Name) × (values : List Datum) × (links : List Link) × knows known × IsAtChain s known table b name values links × IsApart name links × (length links < 2 ^ 32)

-- What is found in one bucket.
abbrev pub IsVisited : Cursor → ℕ → List Link → Option (ℕ × ℕ × Cursor) → List ℕ → Type 0
IsVisited at b links None buffer = drop (start_in at b) links ≡ []
IsVisited at b links (Some said) buffer =
    (link : Link) × (rest : List Link) × (drop (start_in at b) links ≡ link ∷ rest) × IsCopied link.word said.0 buffer × (said.1 ≡ link.count) × (said.2 ≡ record { bucket = b; place = start_in at b + 1 })

-- What is found in all buckets.
abbrev pub IsFound : (ℕ → List Link) → Cursor → Option (ℕ × ℕ × Cursor) → List ℕ → Type 0
IsFound buckets at None buffer = IsEnd buckets at
IsFound buckets at (Some said) buffer = (said.0 ≤ KEY_BYTES) × IsNext buckets at (take said.0 buffer) said.1 said.2

-- A slot refers to a table of these counts in a known map. No bucket has too many words.
pub record MayWalk (s : Standing) (known : KnownObjects) (table : ℕ) (name : Name) (counts : WordCounts) : Type 0 where
  pub slot : slot_in s table ≡ datum.Object name
  pub is_table : IsCountTable known name counts
  pub few : (b : ℕ) → b < BUCKETS → length (is_table.buckets b) < 2 ^ 32

abbrev pub HasTableWalk : Standing → (KnownObjects → Type 0) → ℕ → Type 0
HasTableWalk s knows table = (known : KnownObjects) × (name : Name) × (counts : WordCounts) × knows known × MayWalk s known table name counts

-- What the walk through a table of these counts gives from a place on: its next word with its count, or nothing at its end.
abbrev pub IsNextEntry : WordCounts → (ℕ → List Link) → Cursor → Option Visited → Type 0
IsNextEntry counts buckets at None = IsEnd buckets at
IsNextEntry counts buckets at (Some entry) =
    IsNext buckets at entry.word entry.count entry.next × (finite.get counts entry.word ≡ Some entry.count)
