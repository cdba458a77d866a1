-- The references that cross into a region are recorded.
use Rattle.std.specs.Prelude.{◌≡◌, ◌≢◌, ℕ, ◌+◌, ◌-◌, ◌≤◌, ◌<◌, ◌⊎◌, List, slice_index, slice_index_or, Some, length}
use Rattle.std.specs.List.{Contains, flat_map}
use Rattle.std.specs.Int.{IsBitSet}
use Rattle.object_layout.specs.declared.names.Name.{Name}
use Rattle.object_layout.specs.declared.TheConstants.{OBJECT_WORDS}
use Rattle.heap_words.specs.declared.map.Areas.{Areas}
use Rattle.heap_words.specs.Map.{max_depth}
use Rattle.heap_words.specs.Cells.{row}
use Rattle.heap_words.specs.Contents.{Contents}
use Rattle.epoch_lattice.specs.declared.Space.{Space}
use Rattle.epoch_lattice.specs.declared.Space.TheVariants.{Control, Region}
use Rattle.yak_model.specs.declared.datum.Datum.TheVariants.{Null, Object}
use Rattle.yak_model.specs.Spaces.{SpaceState}
use Rattle.yak_model.specs.State.{Thing, State, stack, depth, view}
use Rattle.yak_model.specs.Chains.{IsRegionOf, chain_of}
use Rattle.yak_model.specs.Stands.{Stands}

-- A reference from a place in one space into another one crosses where it enters a region from outside.
abbrev pub Enters : Space → Space → Type 0
Enters from to = (to ≢ Control) × (to ≢ from)

-- A slot is in a region's chain or in a store buffer.
abbrev pub IsRecordedFor : Areas → List (List ℕ) → List ℕ → List (List ℕ) → Space → ℕ → Type 0
IsRecordedFor m firsts sets buffers x a = Contains (chain_of m firsts sets x) a ⊎ Contains (flat_map (λ (b : List ℕ). b) buffers) a

-- A slot is in some region's chain or in a store buffer.
abbrev pub IsRecorded : Areas → List (List ℕ) → List ℕ → List (List ℕ) → ℕ → Type 0
IsRecorded m firsts sets buffers a = ((x : Space) × IsRegionOf m x × Contains (chain_of m firsts sets x) a) ⊎ Contains (flat_map (λ (b : List ℕ). b) buffers) a

-- A heap word is a field of a present object.
abbrev pub IsField : (Name → ℕ) → State → ℕ → Type 0
IsField at s a = (n : Name) × (o : Thing) × (f : ℕ) × (s.objects n ≡ Some o) × (f < length o.fields) × (a ≡ at n + OBJECT_WORDS + f)

-- A thread's bit is set in the readers word of a region.
abbrev pub IsReader : List (List ℕ) → ℕ → ℕ → ℕ → Type 0
IsReader readers t u d = IsBitSet (slice_index (row readers (u - 1)) (d - 1)) (t - 1)

-- Every field whose reference crosses is recorded for the region that it enters, and what is recorded is a field; a thread whose stack refers into another
-- one's region is one of its readers, and a region that isn't open has none.
pub record RecordedAs (m : Areas) (c : Contents) (s : State) (at : Name → ℕ) : Type 0 where
  pub crossing : (n x : Name) (o p : Thing) (f : ℕ) → s.objects n ≡ Some o → f < length o.fields → slice_index_or o.fields f Null ≡ Object x → s.objects x ≡ Some p → Enters o.home p.home → IsRecordedFor m c.firsts c.sets c.buffers p.home (at n + OBJECT_WORDS + f)
  pub fields : (a : ℕ) → IsRecorded m c.firsts c.sets c.buffers a → IsField at s a
  pub read : (t u d k : ℕ) (x : Name) (p : Thing) → 1 ≤ t → t ≤ m.threads → k < length (stack s t) → slice_index_or (stack s t) k Null ≡ Object x → s.objects x ≡ Some p → p.home ≡ Region u d → u ≢ t → IsReader c.readers t u d
  pub closed : (u d : ℕ) → 1 ≤ u → u ≤ m.threads → d ≤ max_depth m → depth s u < d → slice_index (row c.readers (u - 1)) (d - 1) ≡ 0

-- The crossing references of a state are recorded in the words that stand for it.
abbrev pub Recorded : (m : Areas) (c : Contents) (s : SpaceState) → Stands m c s → Type 0
Recorded m c s stands = RecordedAs m c (view s) stands.places.at

-- The words stand for a state, and its crossing references are recorded.
abbrev pub StandsRecorded : Areas → Contents → SpaceState → Type 0
StandsRecorded m c s = (h : Stands m c s) × Recorded m c s h

-- The words stand so for some state.
abbrev pub SomeRecorded : Areas → Contents → Type 0
SomeRecorded m c = ∥ ((s : SpaceState) × (h : Stands m c s) × Recorded m c s h) ∥₁
