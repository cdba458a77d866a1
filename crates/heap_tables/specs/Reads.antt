-- What is read of the entries of a table.
use Rattle.std.specs.Prelude.{◌≡◌, ℕ, ◌^◌, ◌<◌, ◌≤◌, List, [], ◌∷◌, length, take, Option, None, Some}
use Rattle.object_layout.specs.declared.names.Name.{Name}
use Rattle.yak_model.specs.declared.datum.Datum.{Datum}
use Rattle.yak_model.specs.Private.{KnownObjects}
use Rattle.yak_model.specs.Standing.{Standing}
use Rattle.yak_model.specs.Tables.{IsChain, Link}
use Rattle.heap_tables.specs.declared.TheConstants.{KEY_BYTES}
use Rattle.heap_tables.specs.Keys.{IsKeyInSlot}
use Rattle.heap_tables.specs.Runs.{slot_in}
use Rattle.heap_tables.specs.Walks.{IsApart, IsAtChain, IsEntryInSlot}

-- The keys of the links' words fit pages.
abbrev pub AreShort : List Link → Type 0
AreShort [] = Unit {0}
AreShort (link ∷ links) = (length link.word ≤ KEY_BYTES) × AreShort links

-- A slot refers to the key of such a word, which has a byte at a place, or to its entry.
abbrev pub HasShortKey : Standing → (KnownObjects → Type 0) → ℕ → Type 0
HasShortKey s knows i =
    (known : KnownObjects) × (name : Name) × (word : List ℕ) × knows known × IsKeyInSlot s known i name word × (length word ≤ KEY_BYTES)

abbrev pub HasKeyByte : Standing → (KnownObjects → Type 0) → ℕ → ℕ → Type 0
HasKeyByte s knows i n =
    (known : KnownObjects) × (name : Name) × (word : List ℕ) × knows known × IsKeyInSlot s known i name word × (length word ≤ KEY_BYTES) × (n < length word)

abbrev pub HasShortEntry : Standing → (KnownObjects → Type 0) → ℕ → Type 0
HasShortEntry s knows i =
    (known : KnownObjects) × (next : Datum) × (link : Link) × knows known × IsEntryInSlot s known i next link × (length link.word ≤ KEY_BYTES)

-- A slot has the first of a chain of such words.
abbrev pub HasShortLinks : Standing → (KnownObjects → Type 0) → ℕ → Type 0
HasShortLinks s knows i = (known : KnownObjects) × (links : List Link) × knows known × IsChain known (slot_in s i) links × AreShort links

-- A slot refers to a table one of whose chains has such words alone.
abbrev pub HasShortWalk : Standing → (KnownObjects → Type 0) → ℕ → ℕ → Type 0
HasShortWalk s knows table b =
    (known : KnownObjects) × (name : Name) × (values : List Datum) × (links : List Link) × knows known × IsAtChain s known table b name values links × IsApart name links × (length links < 2 ^ 63) × AreShort links

-- The word stands at the front of the buffer.
abbrev pub IsCopied : List ℕ → ℕ → List ℕ → Type 0
IsCopied word size buffer = (size ≡ length word) × (take size buffer ≡ word)

-- What is read of the first of the links: the length of its word, which is in the buffer, and its count.
abbrev pub Took : List Link → Option (ℕ × ℕ) → List ℕ → Type 0
Took [] said buffer = said ≡ None
Took (link ∷ links) said buffer = (size : ℕ) × (said ≡ Some (size, link.count)) × IsCopied link.word size buffer
