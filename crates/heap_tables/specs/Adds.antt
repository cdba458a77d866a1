-- What it means to add to the count of a word.
use Rattle.std.specs.Prelude.{◌≡◌, ◌≢◌, ℕ, ◌+◌, ◌^◌, ◌<◌, ◌≤◌, ◌⊎◌, List, [], ◌∷◌, ◌++◌, Bool, true, false, cond, eqb, length, slice_set, Some}
use Rattle.std.specs.FinMap as finite
use Rattle.object_layout.specs.declared.names.Name.{Name}
use Rattle.yak_model.specs.declared.datum.Datum.{Datum}
use Rattle.yak_model.specs.declared.datum.Datum.TheVariants as datum
use Rattle.yak_model.specs.Private.{KnownObjects, IsKnown}
use Rattle.yak_model.specs.Standing.{Standing}
use Rattle.heap_tables.specs.Runs.{IsInSlot, next_of, slot_in}
use Rattle.yak_model.specs.Tables.{bucket_of}
use Rattle.yak_model.specs.Graph.{Content, Fields}
use Rattle.yak_model.specs.Tables.{Link, LacksWord, HasCount, IsTable, entry_fields}
use Rattle.heap_tables.specs.Walks.{IsEntryInSlot}
use Rattle.object_layout.specs.declared.TheConstants.{MAX_INT}
use Rattle.yak_model.specs.declared.TheConstants.{BUCKETS, ENTRY_FIELDS}
use Rattle.yak_model.specs.Graph.{Thread}
use Rattle.yak_model.specs.Room.{entry_words, key_words}
use Rattle.yak_model.specs.Tables.{groups}
use Rattle.heap_tables.specs.Runs.{Ran, RanOut}
use Rattle.heap_tables.specs.declared.chains.Look.{Look}
use Rattle.heap_tables.specs.declared.chains.Look.TheVariants as look

-- The word's count has risen, in an entry that was there or in a new one at the front.
abbrev pub AddsCount : List ℕ → ℕ → List Link → List Link → Type 0
AddsCount word n links after =
    ((passed : List Link) × (link : Link) × (rest : List Link) × (links ≡ passed ++ link ∷ rest) × (link.word ≡ word) × (after ≡ passed ++ (record link { count = link.count + n }) ∷ rest))
    ⊎ (LacksWord word links × ((link : Link) × (link.word ≡ word) × (link.count ≡ n) × (after ≡ link ∷ links)))

-- the chains with another one in one bucket
abbrev pub with_bucket : (ℕ → List Link) → ℕ → List Link → ℕ → List Link
with_bucket buckets b links c = cond (eqb c b) links (buckets c)

-- The word's count has risen in its bucket, and all other buckets are as they were.
abbrev pub AddsWord : List ℕ → ℕ → (ℕ → List Link) → (ℕ → List Link) → Type 0
AddsWord word n buckets after =
    (links : List Link) × (after ≡ with_bucket buckets (bucket_of word) links) × AddsCount word n (buckets (bucket_of word)) links

-- The object is no entry of the chain.
abbrev pub IsNoEntry : Name → List Link → Type 0
IsNoEntry name [] = Unit {0}
IsNoEntry name (link ∷ links) = (link.entry ≢ name) × IsNoEntry name links

-- The object is no entry of any bucket.
abbrev pub IsNowhere : Name → (ℕ → List Link) → Type 0
IsNowhere name buckets = (c : ℕ) → c < BUCKETS → IsNoEntry name (buckets c)

-- Known objects become no entries.
abbrev pub StayNowhere : KnownObjects → (ℕ → List Link) → (ℕ → List Link) → Type 0
StayNowhere known buckets later = (other : Name) → IsKnown known other → IsNowhere other buckets → IsNowhere other later

-- The thread of the one object made the other one after it.
abbrev pub IsAfter : Name → Name → Type 0
IsAfter name other = (other.thread ≡ name.thread) × (name.serial < other.serial)

-- It made the entries of a chain and their keys after that object.
abbrev pub AreAfter : Name → List Link → Type 0
AreAfter name [] = Unit {0}
AreAfter name (link ∷ links) = IsAfter name link.entry × IsAfter name link.key × AreAfter name links

-- Where the entries of a chain and their keys were made after an object that the thread had made, so were those of the later chain.
abbrev pub StayAfter : Standing → List Link → List Link → Type 0
StayAfter s links later = (name : Name) → name.thread ≡ s.thread → name.serial ≤ s.own.made → AreAfter name links → AreAfter name later

-- Known objects but the table and the entries of one chain stay as they were.
abbrev pub KeepsOthers : KnownObjects → Name → List Link → KnownObjects → Type 0
KeepsOthers known name links after =
    (other : Name) → IsKnown known other → other ≢ name → IsNoEntry other links → finite.get after other ≡ finite.get known other

-- A slot refers to a table of a known map, and the count of the word may rise by n.
pub record MayAdd (s : Standing) (known : KnownObjects) (table : ℕ) (word : List ℕ) (n : ℕ) (name : Name) (heads : List Datum) (buckets : ℕ → List Link) : Type 0 where
  pub slot : slot_in s table ≡ datum.Object name
  pub is_table : IsTable known name heads buckets
  pub short : length (buckets (bucket_of word)) < 2 ^ 63
  pub number : n ≤ MAX_INT
  pub sum : (count : ℕ) → HasCount word (buckets (bucket_of word)) count → count + n ≤ MAX_INT

abbrev pub HasTable : Standing → (KnownObjects → Type 0) → ℕ → List ℕ → ℕ → Type 0
HasTable s knows table word n =
    (known : KnownObjects) × (name : Name) × (heads : List Datum) × (buckets : ℕ → List Link) × knows known × MayAdd s known table word n name heads buckets

-- The table has the word's count raised, and nothing else.
pub record IsAddedTo (known : KnownObjects) (word : List ℕ) (n : ℕ) (name : Name) (buckets : ℕ → List Link) (knows : KnownObjects → Type 0) : Type 0 where
  pub after : KnownObjects
  pub heads : List Datum
  pub links : List Link
  pub known_now : knows after
  pub is_table : IsTable after name heads (with_bucket buckets (bucket_of word) links)
  pub adds : AddsCount word n (buckets (bucket_of word)) links
  pub others : KeepsOthers known name (buckets (bucket_of word)) after
  pub fresh : (other : Name) → IsKnown known other → IsNoEntry other (buckets (bucket_of word)) → IsNoEntry other links

-- An entry of a known map whose count may rise by n.
abbrev pub MayRaise : Standing → (KnownObjects → Type 0) → ℕ → ℕ → Type 0
MayRaise s knows i n = (known : KnownObjects) × (next : Datum) × (link : Link) × knows known × IsEntryInSlot s known i next link × (link.count + n ≤ MAX_INT)

-- the known objects with another count in an entry
abbrev pub with_count : KnownObjects → Datum → Link → ℕ → KnownObjects
with_count known next link n = finite.insert known link.entry (Fields (entry_fields next link.key n))

-- The count is raised where the word is there, and else nothing changes.
abbrev pub AddsPresent : KnownObjects → List ℕ → ℕ → Name → (ℕ → List Link) → Bool → (KnownObjects → Type 0) → Type 0
AddsPresent known word n name buckets said knows =
    (said ≡ true → IsAddedTo known word n name buckets knows × ((m : ℕ) × HasCount word (buckets (bucket_of word)) m))
    × (said ≡ false → LacksWord word (buckets (bucket_of word)) × knows known)

-- The count is raised where the word was found, nothing changes where the chain ended, and all is as it was where it goes on.
abbrev pub AddsNear : KnownObjects → List ℕ → ℕ → Name → (ℕ → List Link) → Look → (KnownObjects → Type 0) → Type 0
AddsNear known word n name buckets look.Found knows = IsAddedTo known word n name buckets knows × ((m : ℕ) × HasCount word (buckets (bucket_of word)) m)
AddsNear known word n name buckets look.End knows = LacksWord word (buckets (bucket_of word)) × knows known
AddsNear known word n name buckets look.Further knows = knows known

-- A slot refers to a known object of three fields.
abbrev pub HasBlank : Standing → (KnownObjects → Type 0) → ℕ → Type 0
HasBlank s knows i = (known : KnownObjects) × (name : Name) × (values : List Datum) × knows known × IsInSlot s known i name values × (length values ≡ ENTRY_FIELDS)

-- the known objects with an object of these three fields
abbrev pub with_fields : KnownObjects → Name → Datum → Datum → ℕ → KnownObjects
with_fields known name next key n = finite.insert known name (Fields (next ∷ key ∷ datum.Int n ∷ []))

-- the known objects with a new entry at the front of a bucket
abbrev pub with_linked : Standing → KnownObjects → Name → List Datum → ℕ → ℕ → ℕ → KnownObjects
with_linked s known name heads b front n =
    finite.insert (with_fields known (next_of s) (slot_in s front) (slot_in s (front + 1)) n) name (Fields (slice_set heads b (datum.Object (next_of s))))

-- What one map has, the other has too.
abbrev pub Grows : KnownObjects → KnownObjects → Type 0
Grows m n = (x : Name) (c : Content) → finite.get m x ≡ Some c → finite.get n x ≡ Some c

-- ---- what adding makes

-- the thread after it made so many objects, and its stack is as it was
abbrev pub having_made : Thread → ℕ → Thread
having_made own n = record own { made = own.made + n }

-- Nothing was made, for a word that is there, or a key and an entry, for a new one.
abbrev pub AddRan : {S B : Type 0} → (S → B) → (S → ℕ → Thread → Type 0) → (S → ℕ → KnownObjects → Type 0) → (S → Standing) → S → S → List ℕ → Type 0
AddRan base tells tells_known standing a b word =
    (Ran base tells tells_known standing a b 0 × ((standing b).own ≡ (standing a).own))
    ⊎ (Ran base tells tells_known standing a b (key_words word + entry_words) × ((standing b).own ≡ having_made (standing a).own 2))

-- Nothing was made for a word of the chain, and a key and an entry for another.
abbrev pub MakesForNew : Standing → Standing → List ℕ → List Link → Type 0
MakesForNew s after word links =
    ((m : ℕ) → HasCount word links m → after.own.made ≡ s.own.made) × (LacksWord word links → after.own.made ≡ s.own.made + 2)

-- There was no room for a word's key, or for its entry after the key.
abbrev pub AddRanOut : {S B : Type 0} → (S → B) → (S → ℕ → Thread → Type 0) → (S → ℕ → KnownObjects → Type 0) → (S → Standing) → S → S → List ℕ → Type 0
AddRanOut base tells tells_known standing a b word =
    (RanOut base tells tells_known standing a b 0 (groups (length word) + 1) × ((standing b).own ≡ (standing a).own))
    ⊎ (RanOut base tells tells_known standing a b (key_words word) ENTRY_FIELDS × ((standing b).own ≡ having_made (standing a).own 1))
