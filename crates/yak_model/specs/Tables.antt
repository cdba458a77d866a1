-- A table of counts in the heap: an object that heads chains of entries, each with the key of a word and its count.
use Rattle.std.specs.Prelude.{◌≡◌, ◌≢◌, ℕ, ◌+◌, ◌-◌, ◌*◌, ◌/◌, ◌%◌, ◌<◌, ◌⊎◌, zero, suc, List, [], ◌∷◌, length, slice_index, slice_index_or, Some, None}
use Rattle.std.specs.List.{fold}
use Rattle.std.specs.FinMap as finite
use Rattle.object_layout.specs.declared.names.Name.{Name}
use Rattle.yak_model.specs.declared.datum.Datum.{Datum}
use Rattle.yak_model.specs.declared.datum.Datum.TheVariants as datum
use Rattle.yak_model.specs.declared.TheConstants.{BUCKETS, BYTE_VALUES, GROUP_BYTES, HASH_FACTOR}
use Rattle.yak_model.specs.Graph.{Fields}
use Rattle.yak_model.specs.Private.{KnownObjects}
use Rattle.yak_model.specs.Texts.{WordCounts}

-- so many bytes of a word, from a place on, as one number with the first byte on top; past the word's end there are zero bytes
abbrev pub digits : List ℕ → ℕ → ℕ → ℕ
digits word start zero = 0
digits word start (suc n) = digits word start n * BYTE_VALUES + slice_index word (start + n)

-- how many groups hold so many bytes
abbrev pub groups : ℕ → ℕ
groups n = (n + (GROUP_BYTES - 1)) / GROUP_BYTES

-- the number of a group of a word
unfoldable pub group : List ℕ → ℕ → ℕ
group word i = digits word (GROUP_BYTES * i) GROUP_BYTES

-- the bucket of a word
abbrev pub bucket_of : List ℕ → ℕ
bucket_of word = fold (λ h b. (HASH_FACTOR * h + b) % BUCKETS) 0 word

-- Each byte of the word is below 256.
abbrev pub AreBytes : List ℕ → Type 0
AreBytes word = (i : ℕ) → slice_index word i < BYTE_VALUES

-- The fields of a word's key: the number of its bytes, and then its groups.
pub record AreKeyFields (values : List Datum) (word : List ℕ) : Type 0 where
  pub size : length values ≡ groups (length word) + 1
  pub first : slice_index_or values 0 datum.Null ≡ datum.Int (length word)
  pub rest : (i : ℕ) → i < groups (length word) → slice_index_or values (i + 1) datum.Null ≡ datum.Int (group word i)

-- The object is the word's key.
abbrev pub IsKey : KnownObjects → Name → List ℕ → Type 0
IsKey known name word = (values : List Datum) × (finite.get known name ≡ Some (Fields values)) × AreKeyFields values word × AreBytes word

-- an entry as the table has it: its name, that of its key, its word and count
pub record Link : Type 0 where
  pub entry : Name
  pub key : Name
  pub word : List ℕ
  pub count : ℕ

-- the fields of an entry: the next entry or null, the key, and the count
abbrev pub entry_fields : Datum → Name → ℕ → List Datum
entry_fields next key count = next ∷ datum.Object key ∷ datum.Int count ∷ []

-- The object is an entry, after which comes this one.
abbrev pub IsEntry : KnownObjects → Datum → Link → Type 0
IsEntry known next link =
    (finite.get known link.entry ≡ Some (Fields (entry_fields next link.key link.count))) × IsKey known link.key link.word

-- The entries stand in a chain that begins at a value and ends at null.
abbrev pub IsChain : KnownObjects → Datum → List Link → Type 0
IsChain known head [] = head ≡ datum.Null
IsChain known head (link ∷ links) =
    (head ≡ datum.Object link.entry) × ((next : Datum) × IsEntry known next link × IsChain known next links)

-- The first entry of the word in the chain has this count.
abbrev pub HasCount : List ℕ → List Link → ℕ → Type 0
HasCount word [] n = ⊥
HasCount word (link ∷ links) n = ((link.word ≡ word) × (link.count ≡ n)) ⊎ ((link.word ≢ word) × HasCount word links n)

-- The word stands nowhere in the chain.
abbrev pub LacksWord : List ℕ → List Link → Type 0
LacksWord word [] = Unit {0}
LacksWord word (link ∷ links) = (link.word ≢ word) × LacksWord word links

-- No word stands twice in the chain.
abbrev pub AreDifferent : List Link → Type 0
AreDifferent [] = Unit {0}
AreDifferent (link ∷ links) = LacksWord link.word links × AreDifferent links

-- Each word of the chain belongs in this bucket.
abbrev pub AreInBucket : ℕ → List Link → Type 0
AreInBucket b [] = Unit {0}
AreInBucket b (link ∷ links) = (bucket_of link.word ≡ b) × AreInBucket b links

-- The object heads these chains, one for each bucket.
pub record IsTable (known : KnownObjects) (name : Name) (heads : List Datum) (buckets : ℕ → List Link) : Type 0 where
  pub object : finite.get known name ≡ Some (Fields heads)
  pub size : length heads ≡ BUCKETS
  pub chains : (b : ℕ) → b < BUCKETS → IsChain known (slice_index_or heads b datum.Null) (buckets b)
  pub homes : (b : ℕ) → b < BUCKETS → AreInBucket b (buckets b)
  pub distinct : (b : ℕ) → b < BUCKETS → AreDifferent (buckets b)

-- The object is a table of exactly these counts.
pub record IsCountTable (known : KnownObjects) (name : Name) (counts : WordCounts) : Type 0 where
  pub heads : List Datum
  pub buckets : ℕ → List Link
  pub table : IsTable known name heads buckets
  pub counted : (word : List ℕ) (n : ℕ) → finite.get counts word ≡ Some n → HasCount word (buckets (bucket_of word)) n
  pub absent : (word : List ℕ) → finite.get counts word ≡ None → LacksWord word (buckets (bucket_of word))
