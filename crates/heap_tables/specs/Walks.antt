-- One step of a walk along a chain, whose place stands in the table.
use Rattle.std.specs.Prelude.{◌≡◌, ◌≢◌, ℕ, ◌+◌, ◌^◌, ◌<◌, Bool, true, false, List, [], ◌∷◌, ◌++◌, length, slice_index_or}
use Rattle.object_layout.specs.declared.names.Name.{Name}
use Rattle.yak_model.specs.declared.datum.Datum.{Datum}
use Rattle.yak_model.specs.declared.datum.Datum.TheVariants as datum
use Rattle.yak_model.specs.Graph.{Thread}
use Rattle.yak_model.specs.Private.{KnownObjects}
use Rattle.yak_model.specs.Standing.{Standing}
use Rattle.heap_tables.specs.Runs.{IsInSlot, slot_in, pushed, with_field}
use Rattle.yak_model.specs.Tables.{Link, IsChain, IsEntry, LacksWord}
use Rattle.heap_tables.specs.declared.chains.Look.{Look}
use Rattle.heap_tables.specs.declared.chains.Look.TheVariants as look

-- A slot refers to an entry.
abbrev pub IsEntryInSlot : Standing → KnownObjects → ℕ → Datum → Link → Type 0
IsEntryInSlot s known i next link = (slot_in s i ≡ datum.Object link.entry) × IsEntry known next link

-- A slot has the first of a chain.
abbrev pub HasLinks : Standing → (KnownObjects → Type 0) → ℕ → Type 0
HasLinks s knows i = (known : KnownObjects) × (links : List Link) × knows known × IsChain known (slot_in s i) links

-- What a look at the first entry of a chain leaves: the next one on top, if the word is another.
abbrev pub Looked : Thread → KnownObjects → List ℕ → List Link → Look → Thread → Type 0
Looked own known word [] said after = (said ≡ look.End) × (after ≡ own)
Looked own known word (link ∷ links) said after =
    (link.word ≡ word → (said ≡ look.Found) × (after ≡ own))
    × (link.word ≢ word → (said ≡ look.Further) × ((next : Datum) × IsEntry known next link × IsChain known next links × (after ≡ pushed own next)))

-- What is told of the rest of a chain, where a walk along it stops.
abbrev pub Stops : List ℕ → Look → List Link → Type 0
Stops word look.End rest = rest ≡ []
Stops word look.Found rest = (link : Link) × (after : List Link) × (rest ≡ link ∷ after) × (link.word ≡ word)
Stops word look.Further rest = Unit {0}

-- So many entries of the chain that a slot has were passed, each of which left the next one on the stack.
pub record IsClimbed (own : Thread) (known : KnownObjects) (word : List ℕ) (links : List Link) (at : ℕ) (said : Look) (n : ℕ) (after : Thread) : Type 0 where
  pub passed : List Link
  pub rest : List Link
  pub pushes : List Datum
  pub parts : links ≡ passed ++ rest
  pub count : length passed ≡ n
  pub lacks : LacksWord word passed
  pub size : length pushes ≡ n
  pub stack : after ≡ record own { stack = own.stack ++ pushes }
  pub chain : IsChain known (slice_index_or after.stack (at + n) datum.Null) rest
  pub stops : Stops word said rest

-- The field of the object in a slot is the first of a chain.
abbrev pub IsAtChain : Standing → KnownObjects → ℕ → ℕ → Name → List Datum → List Link → Type 0
IsAtChain s known table b name values links =
    IsInSlot s known table name values × (b < length values) × IsChain known (slice_index_or values b datum.Null) links

-- The object is no part of the chain.
abbrev pub IsApart : Name → List Link → Type 0
IsApart name [] = Unit {0}
IsApart name (link ∷ links) = (link.entry ≢ name) × (link.key ≢ name) × IsApart name links

-- the known objects with the place of a walk in a field of the table
abbrev pub with_place : KnownObjects → Name → List Datum → ℕ → Datum → KnownObjects
with_place known name values b place = with_field known name values b place

abbrev pub HasWalk : Standing → (KnownObjects → Type 0) → ℕ → ℕ → Type 0
HasWalk s knows table b =
    (known : KnownObjects) × (name : Name) × (values : List Datum) × (links : List Link) × knows known × IsAtChain s known table b name values links × IsApart name links × (length links < 2 ^ 63)

-- the part of a chain that was passed, the place, and what follows
pub record IsPlace (known : KnownObjects) (name : Name) (values : List Datum) (b : ℕ) (word : List ℕ) (links : List Link) (knows : KnownObjects → Type 0) (passed rest : List Link) : Type 0 where
  pub place : Datum
  pub parts : links ≡ passed ++ rest
  pub lacks : LacksWord word passed
  pub chain : IsChain (with_place known name values b place) place rest
  pub known_now : knows (with_place known name values b place)

-- What it leaves to look at the next entries of a chain.
pub record IsPassed (known : KnownObjects) (name : Name) (values : List Datum) (b : ℕ) (word : List ℕ) (links : List Link) (said : Look) (knows : KnownObjects → Type 0) : Type 0 where
  pub passed : List Link
  pub rest : List Link
  pub place : IsPlace known name values b word links knows passed rest
  pub stops : Stops word said rest
  pub some : said ≡ look.Further → 0 < length passed

-- What a walk along a chain leaves.
abbrev pub Walked : Standing → KnownObjects → Name → List Datum → ℕ → List ℕ → List Link → Bool → Thread → (KnownObjects → Type 0) → Type 0
Walked s known name values b word links said own knows =
    (said ≡ true → (passed : List Link) × (link : Link) × (rest : List Link) × (link.word ≡ word) × (own ≡ pushed s.own (datum.Object link.entry)) × IsPlace known name values b word links knows passed (link ∷ rest))
    × (said ≡ false → (own ≡ s.own) × IsPlace known name values b word links knows links [])

-- What a search leaves: the front of the chain, and the word's entry on top if there is one.
abbrev pub Found : Thread → Datum → List ℕ → List Link → Bool → Thread → Type 0
Found own front word links said after =
    (said ≡ true → (passed : List Link) × (link : Link) × (rest : List Link) × (links ≡ passed ++ link ∷ rest) × (link.word ≡ word) × LacksWord word passed × (after ≡ pushed (pushed own front) (datum.Object link.entry)))
    × (said ≡ false → LacksWord word links × (after ≡ pushed own front))
