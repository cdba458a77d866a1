-- The first entries of a chain, laid out on a caller's stack.
use Rattle.std.specs.Prelude.{◌≡◌, ℕ, ◌+◌, ◌^◌, ◌<◌, ◌≤◌, zero, suc, Bool, true, false, List, [], ◌∷◌, ◌++◌, drop, length, slice_index_or, Option, None, Some}
use Rattle.object_layout.specs.declared.names.Name.{Name}
use Rattle.yak_model.specs.declared.datum.Datum.{Datum}
use Rattle.yak_model.specs.declared.datum.Datum.TheVariants as datum
use Rattle.yak_model.specs.Graph.{Thread}
use Rattle.yak_model.specs.Private.{KnownObjects}
use Rattle.yak_model.specs.Standing.{Standing}
use Rattle.yak_model.specs.Tables.{IsChain, LacksWord, Link, bucket_of}
use Rattle.heap_tables.specs.Adds.{IsAddedTo, MayAdd}
use Rattle.heap_tables.specs.Merges.{IsEntryAt, IsMerge, IsMerged, Merge, done_at, news}
use Rattle.heap_tables.specs.Runs.{IsInSlot, pushed, slot_in}
use Rattle.heap_tables.specs.Seeks.{first_of}
use Rattle.heap_tables.specs.Walks.{IsApart, IsEntryInSlot}

-- the references to the first n entries of a chain, and to what follows them
abbrev pub firsts : List Link → ℕ → List Datum
firsts [] zero = datum.Null ∷ []
firsts [] (suc n) = datum.Null ∷ firsts [] n
firsts (link ∷ links) zero = datum.Object link.entry ∷ []
firsts (link ∷ links) (suc n) = datum.Object link.entry ∷ firsts links n

-- the thread with those on its stack
abbrev pub laid_out : Thread → List Link → ℕ → Thread
laid_out own links n = record own { stack = own.stack ++ firsts links n }

-- The first n entries of the chain are laid out on a thread's stack.
abbrev pub IsLaid : Thread → List Link → ℕ → Thread → Type 0
IsLaid own links n after = (n ≤ length links) × (after ≡ laid_out own links n)

-- Such entries of a known chain are laid out, from a slot on.
abbrev pub HasLaid : Standing → (KnownObjects → Type 0) → ℕ → ℕ → Type 0
HasLaid s knows at n =
    (known : KnownObjects) × (own : Thread) × (links : List Link) × knows known × IsChain known (first_of links) links × IsLaid own links n s.own × (length own.stack ≡ at)

-- A slot refers to an entry of a known map.
abbrev pub HasEntry : Standing → (KnownObjects → Type 0) → ℕ → Type 0
HasEntry s knows i = (known : KnownObjects) × (next : Datum) × (link : Link) × knows known × IsEntryInSlot s known i next link

-- What it leaves to lay out the next entry of a chain, if there is one.
abbrev pub LaysNext : Thread → List Link → Bool → Thread → Type 0
LaysNext own links true after = (link : Link) × (rest : List Link) × (links ≡ link ∷ rest) × (after ≡ pushed own (first_of rest))
LaysNext own links false after = after ≡ own

-- The entry at that place of the chain is the word's, and is among the first n.
abbrev pub IsAmong : List ℕ → List Link → ℕ → Option ℕ → Type 0
IsAmong word links n None = Unit {0}
IsAmong word links n (Some i) = (i < n) × ((link : Link) × (rest : List Link) × (drop i links ≡ link ∷ rest) × (link.word ≡ word))

-- A slot has the front of a chain of the table, and another one what follows in it.
pub record IsBeyond (s : Standing) (known : KnownObjects) (table b at start : ℕ) (name : Name) (values : List Datum) (links : List Link) : Type 0 where
  pub slot : IsInSlot s known table name values
  pub within : b < length values
  pub front : slot_in s at ≡ slice_index_or values b datum.Null
  pub chain : IsChain known (slot_in s start) links
  pub apart : IsApart name links
  pub few : length links < 2 ^ 63

abbrev pub HasBeyond : Standing → (KnownObjects → Type 0) → ℕ → ℕ → ℕ → ℕ → Type 0
HasBeyond s knows table b at start =
    (known : KnownObjects) × (name : Name) × (values : List Datum) × (links : List Link) × knows known × IsBeyond s known table b at start name values links

-- The word's entry is on top if there is one.
abbrev pub FoundBeyond : Thread → List ℕ → List Link → Bool → Thread → Type 0
FoundBeyond own word links true after = (passed : List Link) × (link : Link) × (rest : List Link) × (links ≡ passed ++ link ∷ rest) × (link.word ≡ word) × (after ≡ pushed own (datum.Object link.entry))
FoundBeyond own word links false after = after ≡ own

-- ---- counts that are raised

-- Slots refer to a table, where the count of the word may rise by n, and to the first entries of the word's chain.
abbrev pub HasLaidTable : Standing → (KnownObjects → Type 0) → ℕ → List ℕ → ℕ → ℕ → ℕ → Type 0
HasLaidTable s knows table word n at laid =
    (known : KnownObjects) × (name : Name) × (heads : List Datum) × (buckets : ℕ → List Link) × (own : Thread) × knows known × MayAdd s known table word n name heads buckets × IsLaid own (buckets (bucket_of word)) laid s.own × (length own.stack ≡ at) × (slice_index_or own.stack table datum.Null ≡ datum.Object name)

-- The same, where the entries that are laid out begin at a place of the chain.
abbrev pub HasLaidFrom : Standing → (KnownObjects → Type 0) → ℕ → ℕ → List ℕ → ℕ → ℕ → ℕ → Type 0
HasLaidFrom s knows first table word n at laid =
    (known : KnownObjects) × (name : Name) × (heads : List Datum) × (buckets : ℕ → List Link) × (own : Thread) × knows known × MayAdd s known table word n name heads buckets × IsLaid own (drop first (buckets (bucket_of word))) laid s.own × (length own.stack ≡ at) × (slice_index_or own.stack table datum.Null ≡ datum.Object name)

-- The count of a word that is there is raised, or nothing changes.
abbrev pub RaisesPresent : KnownObjects → List ℕ → ℕ → Name → (ℕ → List Link) → Bool → (KnownObjects → Type 0) → Type 0
RaisesPresent known word n name buckets true knows = IsAddedTo known word n name buckets knows × (LacksWord word (buckets (bucket_of word)) → ⊥)
RaisesPresent known word n name buckets false knows = knows known

-- ---- a merge under way

-- Slots of a stack refer to the two tables.
abbrev pub AreBelow : Thread → ℕ → ℕ → Merge → Type 0
AreBelow own from into m = (slice_index_or own.stack from datum.Null ≡ datum.Object m.from_name) × (slice_index_or own.stack into datum.Null ≡ datum.Object m.into_name)

-- The counts of the entries of a bucket from one place to another were added to entries that were there, and n entries of the other
-- table's chain are laid out, from a place on.
pub record GoesLaid (m : Merge) (is : IsMerge m) (b start p first n : ℕ) (own after : Thread) (knows : KnownObjects → Type 0) : Type 0 where
  pub merged : IsMerged m is (done_at m.buckets b p) knows
  pub laid : IsLaid own (drop first ((merged.into_table).buckets b)) n after
  pub new_words : news m.counts (done_at m.buckets b start) ≡ news m.counts (done_at m.buckets b p)
  pub longer : length (done_at m.buckets b start) ≤ length (done_at m.buckets b p)

abbrev pub HasGoesLaid : Standing → (KnownObjects → Type 0) → ℕ → ℕ → ℕ → ℕ → ℕ → ℕ → ℕ → Type 0
HasGoesLaid s knows from into b p first at n =
    (m : Merge) × (is : IsMerge m) × (start : ℕ) × (own : Thread) × AreBelow own from into m × (length own.stack ≡ at) × GoesLaid m is b start p first n own s.own knows

-- They are that far, and the next entry of the bucket has this word and count.
abbrev pub HasNextLaid : Standing → (KnownObjects → Type 0) → ℕ → ℕ → ℕ → ℕ → ℕ → ℕ → ℕ → List ℕ → ℕ → Type 0
HasNextLaid s knows from into b p first at n word count =
    (m : Merge) × (is : IsMerge m) × (start : ℕ) × (own : Thread) × (link : Link) × (rest : List Link) × AreBelow own from into m × (length own.stack ≡ at) × GoesLaid m is b start p first n own s.own knows × IsEntryAt m b p word count link rest

-- One more entry was merged, or none.
abbrev pub MergesLaid : (m : Merge) → IsMerge m → ℕ → ℕ → ℕ → ℕ → ℕ → Bool → Thread → Thread → (KnownObjects → Type 0) → Type 0
MergesLaid m is b start p first n true own after knows = GoesLaid m is b start (p + 1) first n own after knows
MergesLaid m is b start p first n false own after knows = GoesLaid m is b start p first n own after knows
