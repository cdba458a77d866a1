-- The key of a word: an object with its number of bytes and its groups of seven bytes.
use Rattle.std.specs.Prelude.{◌≡◌, ℕ, ◌+◌, ◌<◌, List, length, slice_index_or}
use Rattle.std.specs.FinMap as finite
use Rattle.object_layout.specs.declared.names.Name.{Name}
use Rattle.yak_model.specs.declared.datum.Datum.{Datum}
use Rattle.yak_model.specs.declared.datum.Datum.TheVariants as datum
use Rattle.yak_model.specs.Graph.{Fields}
use Rattle.yak_model.specs.Private.{KnownObjects}
use Rattle.yak_model.specs.Standing.{Standing}
use Rattle.heap_tables.specs.Runs.{slot_in}
use Rattle.yak_model.specs.Tables.{IsKey, group, groups}

-- A slot refers to the key of a word.
abbrev pub IsKeyInSlot : Standing → KnownObjects → ℕ → Name → List ℕ → Type 0
IsKeyInSlot s known i name word = (slot_in s i ≡ datum.Object name) × IsKey known name word

abbrev pub HasKey : Standing → (KnownObjects → Type 0) → ℕ → Type 0
HasKey s knows i = (known : KnownObjects) × (name : Name) × (word : List ℕ) × knows known × IsKeyInSlot s known i name word

-- The known objects with an object that is the word's key as far as some of its groups go.
pub record IsKeyBegun (known : KnownObjects) (name : Name) (word : List ℕ) (n : ℕ) (knows : KnownObjects → Type 0) : Type 0 where
  pub values : List Datum
  pub size : length values ≡ groups (length word) + 1
  pub first : slice_index_or values 0 datum.Null ≡ datum.Int (length word)
  pub rest : (i : ℕ) → i < n → slice_index_or values (i + 1) datum.Null ≡ datum.Int (group word i)
  pub known_now : knows (finite.insert known name (Fields values))
