-- What a merge of two tables leaves.
use Rattle.std.specs.Prelude.{◌≡◌, ◌≢◌, ℕ, ◌+◌, ◌*◌, ◌^◌, ◌<◌, ◌≤◌, ◌⊎◌, zero, suc, Bool, true, false, List, [], ◌∷◌, ◌++◌, drop, length, slice_index_or, slice_set, take, Option, None, Some}
use Rattle.std.specs.FinMap as finite
use Rattle.std.specs.List.{Contains}
use Rattle.object_layout.specs.declared.TheConstants.{MAX_INT}
use Rattle.object_layout.specs.declared.names.Name.{Name}
use Rattle.yak_model.specs.declared.TheConstants.{BUCKETS, ENTRY_FIELDS}
use Rattle.yak_model.specs.declared.datum.Datum.{Datum}
use Rattle.yak_model.specs.declared.datum.Datum.TheVariants as datum
use Rattle.yak_model.specs.Graph.{Fields, Thread}
use Rattle.yak_model.specs.Private.{IsKnown, KnownObjects}
use Rattle.yak_model.specs.Room.{entry_words}
use Rattle.yak_model.specs.Standing.{Standing}
use Rattle.yak_model.specs.Tables.{IsCountTable, IsTable, LacksWord, Link, bucket_of}
use Rattle.yak_model.specs.Texts.{WordCounts}
use Rattle.heap_tables.specs.Asides.{LacksTable}
use Rattle.heap_tables.specs.Adds.{IsNoEntry, IsNowhere, having_made, with_bucket, with_fields}
use Rattle.heap_tables.specs.Counted.{count_of, or_zero, raised}
use Rattle.heap_tables.specs.Runs.{IsInSlot, Ran, RanOut, next_of, slot_in}
use Rattle.heap_tables.specs.Walks.{IsApart, IsAtChain, IsEntryInSlot}

-- ---- one shared key

-- the known objects with a new entry of this key at the front of a bucket
abbrev pub with_shared : Standing → KnownObjects → Name → List Datum → ℕ → Name → ℕ → KnownObjects
with_shared s known name heads b key n =
    finite.insert (with_fields known (next_of s) (slice_index_or heads b datum.Null) (datum.Object key) n) name (Fields (slice_set heads b (datum.Object (next_of s))))

-- Slots refer to an entry and to a table.
abbrev pub HasEntryFor : Standing → (KnownObjects → Type 0) → ℕ → ℕ → ℕ → Type 0
HasEntryFor s knows entry into b =
    (known : KnownObjects) × (name : Name) × (heads : List Datum) × (next : Datum) × (link : Link) × knows known × IsInSlot s known into name heads × (b < length heads) × IsEntryInSlot s known entry next link

-- Slots refer to a table with an entry at a place of a bucket, and to another table.
pub record IsShare (s : Standing) (known : KnownObjects) (from into b p : ℕ) (from_name into_name : Name) (values heads : List Datum) (links : List Link) (link : Link) (rest : List Link) : Type 0 where
  pub at : IsAtChain s known from b from_name values links
  pub apart : IsApart from_name links
  pub few : length links < 2 ^ 63
  pub there : drop p links ≡ link ∷ rest
  pub slot : IsInSlot s known into into_name heads
  pub within : b < length heads

abbrev pub HasShare : Standing → (KnownObjects → Type 0) → ℕ → ℕ → ℕ → ℕ → Type 0
HasShare s knows from into b p =
    (known : KnownObjects) × (from_name : Name) × (into_name : Name) × (values : List Datum) × (heads : List Datum) × (links : List Link) × (link : Link) × (rest : List Link) × knows known × IsShare s known from into b p from_name into_name values heads links link rest

-- ---- all entries

-- No entry of the first links is one of the others.
abbrev pub SharesNone : List Link → List Link → Type 0
SharesNone [] links = Unit {0}
SharesNone (first ∷ rest) links = IsNoEntry first.entry links × SharesNone rest links

-- The count of each word of the links can be added to the counts.
abbrev pub AreSums : WordCounts → List Link → Type 0
AreSums counts [] = Unit {0}
AreSums counts (link ∷ links) = (count_of counts link.word + link.count ≤ MAX_INT) × AreSums counts links

-- the entries of so many buckets, in the order of the walk
abbrev pub walk : (ℕ → List Link) → ℕ → List Link
walk buckets zero = []
walk buckets (suc b) = walk buckets b ++ buckets b

-- the entries before a place of a bucket
abbrev pub done_at : (ℕ → List Link) → ℕ → ℕ → List Link
done_at buckets b p = walk buckets b ++ take p (buckets b)

-- the counts, raised by those of the links, one after the other
abbrev pub raised_by : WordCounts → List Link → WordCounts
raised_by counts [] = counts
raised_by counts (link ∷ links) = raised_by (raised counts link.word link.count) links

abbrev pub one_if_none : Option ℕ → ℕ
one_if_none None = 1
one_if_none (Some n) = 0

-- The count of an entry of another table was added: to that of its word's entry, or in a new entry at the front, which has
-- the other entry's key.
abbrev pub SharesLink : Link → List Link → List Link → Type 0
SharesLink other links after =
    ((passed : List Link) × (link : Link) × (rest : List Link) × (links ≡ passed ++ link ∷ rest) × (link.word ≡ other.word) × (after ≡ passed ++ (record link { count = link.count + other.count }) ∷ rest))
    ⊎ (LacksWord other.word links × ((entry : Name) × (after ≡ (record other { entry = entry }) ∷ links)))

-- That was done in the bucket of its word, and all other buckets are as they were.
abbrev pub MergesLink : Link → (ℕ → List Link) → (ℕ → List Link) → Type 0
MergesLink other buckets after =
    (links : List Link) × (after ≡ with_bucket buckets (bucket_of other.word) links) × SharesLink other (buckets (bucket_of other.word)) links

-- It was done for each of the links, one after the other.
abbrev pub MergesLinks : List Link → (ℕ → List Link) → (ℕ → List Link) → Type 0
MergesLinks [] buckets after = after ≡ buckets
MergesLinks (other ∷ links) buckets after = (next : ℕ → List Link) × MergesLink other buckets next × MergesLinks links next after

-- how many words of the links are new, as they are added one after the other
abbrev pub news : WordCounts → List Link → ℕ
news counts [] = 0
news counts (link ∷ links) = one_if_none (finite.get counts link.word) + news (raised counts link.word link.count) links

-- a table whose counts are to be added, as a known map has it, and one that gets them, with its counts; and other maps
pub record Merge : Type 0 where
  pub known : KnownObjects
  pub from_name : Name
  pub into_name : Name
  pub heads : List Datum
  pub buckets : ℕ → List Link
  pub counts : WordCounts
  pub others : List KnownObjects

-- The tables are two, which share no entry, with few words whose sums aren't too large. The other maps have no object of
-- either.
pub record IsMerge (m : Merge) : Type 0 where
  pub from_table : IsTable m.known m.from_name m.heads m.buckets
  pub into_table : IsCountTable m.known m.into_name m.counts
  pub different : m.from_name ≢ m.into_name
  pub apart : (b c : ℕ) → b < BUCKETS → c < BUCKETS → SharesNone (m.buckets b) (into_table.buckets c)
  pub from_few : (b : ℕ) → b < BUCKETS → length (m.buckets b) < 2 ^ 32
  pub into_few : (b : ℕ) → b < BUCKETS → length (into_table.buckets b) < 2 ^ 32
  pub sums : (b : ℕ) → b < BUCKETS → AreSums m.counts (m.buckets b)
  pub from_aside : (other : KnownObjects) → Contains m.others other → LacksTable other m.from_name m.buckets
  pub into_aside : (other : KnownObjects) → Contains m.others other → LacksTable other m.into_name into_table.buckets

-- Slots refer to the two tables.
abbrev pub AreSlots : Standing → ℕ → ℕ → Merge → Type 0
AreSlots s from into m = (slot_in s from ≡ datum.Object m.from_name) × (slot_in s into ≡ datum.Object m.into_name)

-- Known objects but the table and its entries stay as they were, and become no entries.
abbrev pub KeepsUntouched : KnownObjects → Name → (ℕ → List Link) → KnownObjects → (ℕ → List Link) → Type 0
KeepsUntouched known name buckets after later =
    (other : Name) → IsKnown known other → other ≢ name → IsNowhere other buckets → (finite.get after other ≡ finite.get known other) × IsNowhere other later

-- A known map has the counts of these entries added, and nothing else. The other maps are known.
pub record IsMerged (m : Merge) (is : IsMerge m) (done : List Link) (knows : KnownObjects → Type 0) : Type 0 where
  pub after : KnownObjects
  pub known_now : knows after
  pub counts : WordCounts
  pub counts_are : counts ≡ raised_by m.counts done
  pub into_table : IsCountTable after m.into_name counts
  pub untouched : KeepsUntouched m.known m.into_name (is.into_table).buckets after into_table.buckets
  pub few : (c : ℕ) → c < BUCKETS → length (into_table.buckets c) ≤ length ((is.into_table).buckets c) + length done
  pub entries : MergesLinks done (is.into_table).buckets into_table.buckets
  pub others_known : (other : KnownObjects) → Contains m.others other → knows other
  pub aside : (other : KnownObjects) → Contains m.others other → LacksTable other m.into_name into_table.buckets

-- Calls were made between, which added the counts of the entries that are done later, and made an entry for each new word.
pub record Goes {S B : Type 0} (base : S → B) (tells : S → ℕ → Thread → Type 0) (tells_known : S → ℕ → KnownObjects → Type 0) (standing : S → Standing) (m : Merge) (is : IsMerge m) (done later : List Link) (a b : S) (knows : KnownObjects → Type 0) : Type 0 where
  pub merged : IsMerged m is later knows
  pub made : ℕ
  pub new_words : news m.counts done + made ≡ news m.counts later
  pub few : made + length done ≤ length later
  pub ran : Ran base tells tells_known standing a b (made * entry_words)
  pub own : (standing b).own ≡ having_made (standing a).own made

-- The calls went so far, to an entry of a new word for which there was no room.
pub record Stops {S B : Type 0} (base : S → B) (tells : S → ℕ → Thread → Type 0) (tells_known : S → ℕ → KnownObjects → Type 0) (standing : S → Standing) (m : Merge) (is : IsMerge m) (done : List Link) (a b : S) (knows : KnownObjects → Type 0) : Type 0 where
  pub later : List Link
  pub link : Link
  pub rest : List Link
  pub parts : walk m.buckets BUCKETS ≡ later ++ link ∷ rest
  pub merged : IsMerged m is later knows
  pub absent : finite.get (raised_by m.counts later) link.word ≡ None
  pub made : ℕ
  pub new_words : news m.counts done + made ≡ news m.counts later
  pub ran_out : RanOut base tells tells_known standing a b (made * entry_words) ENTRY_FIELDS
  pub own : (standing b).own ≡ having_made (standing a).own made

-- Slots refer to two tables of a known map that are merged as far as a place of a bucket.
abbrev pub HasMerging : Standing → (KnownObjects → Type 0) → ℕ → ℕ → ℕ → ℕ → Type 0
HasMerging s knows from into b p =
    (m : Merge) × (is : IsMerge m) × AreSlots s from into m × IsMerged m is (done_at m.buckets b p) knows

-- The entry at a place of a bucket has this word and count.
abbrev pub IsEntryAt : Merge → ℕ → ℕ → List ℕ → ℕ → Link → List Link → Type 0
IsEntryAt m b p word n link rest = (drop p (m.buckets b) ≡ link ∷ rest) × (word ≡ link.word) × (n ≡ link.count)

abbrev pub HasNextEntry : Standing → (KnownObjects → Type 0) → ℕ → ℕ → ℕ → ℕ → List ℕ → ℕ → Type 0
HasNextEntry s knows from into b p word n =
    (m : Merge) × (is : IsMerge m) × (link : Link) × (rest : List Link) × AreSlots s from into m × IsMerged m is (done_at m.buckets b p) knows × IsEntryAt m b p word n link rest

-- Slots refer to two tables of a known map that are merged as far as a bucket.
abbrev pub HasMerged : Standing → (KnownObjects → Type 0) → ℕ → ℕ → ℕ → Type 0
HasMerged s knows from into b =
    (m : Merge) × (is : IsMerge m) × AreSlots s from into m × IsMerged m is (walk m.buckets b) knows

-- The entry at a place of a bucket was merged, or there is none.
abbrev pub MergesEntry : {S B : Type 0} → (S → B) → (S → ℕ → Thread → Type 0) → (S → ℕ → KnownObjects → Type 0) → (S → Standing) → (m : Merge) → IsMerge m → ℕ → ℕ → Bool → S → S → (KnownObjects → Type 0) → Type 0
MergesEntry base tells tells_known standing m is b p true x y knows = Goes base tells tells_known standing m is (done_at m.buckets b p) (done_at m.buckets b (p + 1)) x y knows
MergesEntry base tells tells_known standing m is b p false x y knows =
    (drop p (m.buckets b) ≡ []) × Goes base tells tells_known standing m is (done_at m.buckets b p) (done_at m.buckets b p) x y knows

-- ---- whole tables

-- Slots refer to two different tables of one known map that share no entry. The counts of the one can be added to those of
-- the other.
pub record MayMerge (s : Standing) (known : KnownObjects) (from into : ℕ) (from_name into_name : Name) (from_counts into_counts : WordCounts) : Type 0 where
  pub from_slot : slot_in s from ≡ datum.Object from_name
  pub into_slot : slot_in s into ≡ datum.Object into_name
  pub from_table : IsCountTable known from_name from_counts
  pub into_table : IsCountTable known into_name into_counts
  pub different : from_name ≢ into_name
  pub apart : (b c : ℕ) → b < BUCKETS → c < BUCKETS → SharesNone (from_table.buckets b) (into_table.buckets c)
  pub from_few : (b : ℕ) → b < BUCKETS → length (from_table.buckets b) < 2 ^ 32
  pub into_few : (b : ℕ) → b < BUCKETS → length (into_table.buckets b) < 2 ^ 32
  pub sums : (word : List ℕ) (n : ℕ) → finite.get from_counts word ≡ Some n → count_of into_counts word + n ≤ MAX_INT

abbrev pub HasTables : Standing → (KnownObjects → Type 0) → ℕ → ℕ → Type 0
HasTables s knows from into =
    (known : KnownObjects) × (from_name : Name) × (into_name : Name) × (from_counts : WordCounts) × (into_counts : WordCounts) × knows known × MayMerge s known from into from_name into_name from_counts into_counts

-- the count of a word in one table, with that in another added
abbrev pub sum_of : Option ℕ → Option ℕ → Option ℕ
sum_of first None = first
sum_of first (Some n) = Some (or_zero first + n)

-- A known map has the sums in the one table and the same counts in the other, and all else that isn't the one table's own as
-- it was. One entry was made for each new word, in the order of the walk, at the front of its bucket and with the same key.
pub record IsMergedWhole {S B : Type 0} (base : S → B) (tells : S → ℕ → Thread → Type 0) (tells_known : S → ℕ → KnownObjects → Type 0) (standing : S → Standing) (known : KnownObjects) (from_name into_name : Name) (from_counts into_counts : WordCounts) (from_buckets into_buckets : ℕ → List Link) (a b : S) (knows : KnownObjects → Type 0) : Type 0 where
  pub later : KnownObjects
  pub known_now : knows later
  pub from_table : IsCountTable later from_name from_counts
  pub sums : WordCounts
  pub into_table : IsCountTable later into_name sums
  pub sums_are : (word : List ℕ) → finite.get sums word ≡ sum_of (finite.get into_counts word) (finite.get from_counts word)
  pub from_same : from_table.buckets ≡ from_buckets
  pub untouched : KeepsUntouched known into_name into_buckets later into_table.buckets
  pub entries : MergesLinks (walk from_buckets BUCKETS) into_buckets into_table.buckets
  pub made : ℕ
  pub new_words : made ≡ news into_counts (walk from_buckets BUCKETS)
  pub ran : Ran base tells tells_known standing a b (made * entry_words)
  pub own : (standing b).own ≡ having_made (standing a).own made

-- A known map has the counts of the first entries of the walk added, up to one whose word is new. One entry was made for each
-- new word before it, at the front of its bucket and with the same key, and there was no room for its own.
pub record IsMergedPart {S B : Type 0} (base : S → B) (tells : S → ℕ → Thread → Type 0) (tells_known : S → ℕ → KnownObjects → Type 0) (standing : S → Standing) (known : KnownObjects) (from_name into_name : Name) (from_counts into_counts : WordCounts) (from_buckets into_buckets : ℕ → List Link) (a b : S) (knows : KnownObjects → Type 0) : Type 0 where
  pub done : List Link
  pub link : Link
  pub rest : List Link
  pub parts : walk from_buckets BUCKETS ≡ done ++ link ∷ rest
  pub absent : finite.get into_counts link.word ≡ None
  pub later : KnownObjects
  pub known_now : knows later
  pub from_table : IsCountTable later from_name from_counts
  pub counts : WordCounts
  pub into_table : IsCountTable later into_name counts
  pub counts_are : counts ≡ raised_by into_counts done
  pub from_same : from_table.buckets ≡ from_buckets
  pub untouched : KeepsUntouched known into_name into_buckets later into_table.buckets
  pub entries : MergesLinks done into_buckets into_table.buckets
  pub made : ℕ
  pub new_words : made ≡ news into_counts done
  pub ran_out : RanOut base tells tells_known standing a b (made * entry_words) ENTRY_FIELDS
  pub own : (standing b).own ≡ having_made (standing a).own made

-- ---- the clauses of a merge

-- The counts of one table were added to the other, for each known map in which slots refer to the two.
abbrev pub MergesAll : {S B : Type 0} → (S → B) → (S → ℕ → Thread → Type 0) → (S → ℕ → KnownObjects → Type 0) → (S → Standing) → ℕ → ℕ → S → S → (KnownObjects → Type 0) → (KnownObjects → Type 0) → Type 0
MergesAll base tells tells_known standing from into a b knows later =
    (known : KnownObjects) (from_name into_name : Name) (from_counts into_counts : WordCounts) (may : MayMerge (standing a) known from into from_name into_name from_counts into_counts)
    → knows known → IsMergedWhole base tells tells_known standing known from_name into_name from_counts into_counts (may.from_table).buckets (may.into_table).buckets a b later

-- The counts before an entry for which there was no room were added, for each known map in which slots refer to the two.
abbrev pub MergesPart : {S B : Type 0} → (S → B) → (S → ℕ → Thread → Type 0) → (S → ℕ → KnownObjects → Type 0) → (S → Standing) → ℕ → ℕ → S → S → (KnownObjects → Type 0) → (KnownObjects → Type 0) → Type 0
MergesPart base tells tells_known standing from into a b knows later =
    (known : KnownObjects) (from_name into_name : Name) (from_counts into_counts : WordCounts) (may : MayMerge (standing a) known from into from_name into_name from_counts into_counts)
    → knows known → IsMergedPart base tells tells_known standing known from_name into_name from_counts into_counts (may.from_table).buckets (may.into_table).buckets a b later

-- Known maps that have neither table stay known.
abbrev pub LeavesAside : Standing → ℕ → ℕ → (KnownObjects → Type 0) → (KnownObjects → Type 0) → Type 0
LeavesAside s from into knows later =
    (known : KnownObjects) (from_name into_name : Name) (from_counts into_counts : WordCounts) (may : MayMerge s known from into from_name into_name from_counts into_counts) (other : KnownObjects)
    → knows known → knows other → LacksTable other from_name (may.from_table).buckets → LacksTable other into_name (may.into_table).buckets → later other
