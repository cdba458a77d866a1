-- What an end leaves beside the state: addresses, records, the pool and the words that it doesn't name.
use Rattle.std.specs.Prelude.{◌≡◌, ◌≢◌, ◌⊎◌, ◌↔◌, ℕ, ◌+◌, ◌-◌, ◌*◌, ◌/◌, ◌<◌, List, [], length, slice_index_or, Option, Some}
use Rattle.std.specs.List.{Contains}
use Rattle.object_layout.specs.declared.names.Name.{Name}
use Rattle.object_layout.specs.declared.TheConstants.{OBJECT_WORDS}
use Rattle.epoch_lattice.specs.declared.Space.{Space}
use Rattle.epoch_lattice.specs.declared.Space.TheVariants.{Control}
use Rattle.epoch_lattice.specs.Lattice.{space_index}
use Rattle.heap_words.specs.declared.map.Areas.{Areas}
use Rattle.heap_words.specs.Map.{page_words}
use Rattle.heap_words.specs.Contents.{Contents, depth_of, with_depth, with_readers}
use Rattle.yak_model.specs.declared.datum.Datum.TheVariants.{Null, Object}
use Rattle.yak_model.specs.Spaces.{IsPresent, SpaceState, home_of, innermost}
use Rattle.yak_model.specs.State.{Thing, object_of}
use Rattle.yak_model.specs.Placed.{Places, space_word}
use Rattle.yak_model.specs.Chains.{IsRegionOf}
use Rattle.yak_model.specs.Recorded.{Enters}
use Rattle.relocation.specs.Slide.{GoesBehind, GoesOn, IsFirstPage}
use Rattle.remember_sets.specs.Filed.{ChainsBecome, all_filed, chain, logged, page_word}
use Rattle.forwarding.specs.Pool.{PoolAnew}
use Rattle.escape_closure.specs.Targets.{IsEscaping}

-- The chains are those that filing the store buffers makes.
abbrev pub FilesRecorded : Areas → Contents → Contents → Type 0
FilesRecorded m c d = ChainsBecome m c d (λ x slots. all_filed m c x (logged c) slots)

-- A heap word lies in a page of the space.
abbrev pub LiesIn : Areas → Contents → Space → ℕ → Type 0
LiesIn m c x a = page_word m c a ≡ space_index x + 1

-- A heap word is a field of an object, and its reference enters a region other than the object's space. The objects that are
-- left are given, and where they stand.
pub record IsCrossingInto (objects : Name → Option Thing) (at : Name → ℕ) (region : Space) (a : ℕ) : Type 0 where
  pub from : Name
  pub object : Thing
  pub present : objects from ≡ Some object
  pub field : ℕ
  pub within : field < length object.fields
  pub to : Name
  pub goal : Thing
  pub refers : slice_index_or object.fields field Null ≡ Object to
  pub reached : objects to ≡ Some goal
  pub home : goal.home ≡ region
  pub enters : Enters object.home goal.home
  pub place : a ≡ at from + OBJECT_WORDS + field

-- The slots that are recorded for a region before the end, once the store buffers are filed, and don't lie in the region that
-- ends.
abbrev pub WasRecorded : Areas → Contents → SpaceState → ℕ → Space → ℕ → Type 0
WasRecorded m c s t x a = Contains (all_filed m c x (logged c) (chain m c x)) a × (LiesIn m c (innermost s.graph t) a → ⊥)

-- Of the region that ends no slot is recorded any more. For another region exactly these are: those that were recorded for it;
-- those that were recorded for the region that ends and whose references now enter this one; and the crossing fields of the
-- objects that escaped.
pub record FilesEnded (m : Areas) (c d : Contents) (s : SpaceState) (t : ℕ) (objects : Name → Option Thing) (at : Name → ℕ) : Type 0 where
  pub none : chain m d (innermost s.graph t) ≡ []
  pub others : (x : Space) → IsRegionOf m x → x ≢ innermost s.graph t → (a : ℕ) → Contains (chain m d x) a
      ↔ (WasRecorded m c s t x a ⊎ (WasRecorded m c s t (innermost s.graph t) a × IsCrossingInto objects at x a) ⊎ ((k : IsCrossingInto objects at x a) × IsEscaping s t k.from))

-- The objects outside the region stand where they stood, exactly the slots told above are filed, and the pool is made anew. The
-- region has no readers, and the readers of all others are as they were; the thread is one epoch less deep, and no other depth
-- and no number made has changed.
pub record RestKept (m : Areas) (c d : Contents) (s : SpaceState) (l : Places) (t : ℕ) (after : SpaceState) (at : Name → ℕ) : Type 0 where
  pub stays : (n : Name) → IsPresent s n → home_of s n ≢ Some (innermost s.graph t) → at n ≡ l.at n
  pub filed : FilesEnded m c d s t (object_of after) at
  pub pool : PoolAnew m c d
  pub frame : d ≡ record (with_depth (with_readers c t (depth_of c t) 0) t (depth_of c t - 1)) { heads = d.heads; stacks = d.stacks; buffers = d.buffers; currents = d.currents; firsts = d.firsts; table = d.table; pool = d.pool; sets = d.sets; scratch = d.scratch; heap = d.heap }

-- ---- the slide of a tight end

-- One of so many objects stands in a page.
abbrev pub HoldsOne : Areas → ℕ → (ℕ → ℕ) → ℕ → Type 0
HoldsOne m count at p = (k : ℕ) × (k < count) × (at k / page_words m ≡ p)

-- Objects of some words stand in pages of a space: the first at the front of the first page, each other one right behind the
-- one before it where it fits into that one's page, else at the front of the next page of the space.
pub record SlidInto (m : Areas) (slid : ℕ) (table : List (List ℕ)) (count : ℕ) (size at : ℕ → ℕ) : Type 0 where
  pub begins : 0 < count → (q : ℕ) × IsFirstPage slid table 0 q × (at 0 ≡ page_words m * q)
  pub follows : (k : ℕ) → k + 1 < count → GoesBehind m (at k) (size k) (at (k + 1)) (size (k + 1)) ⊎ GoesOn m slid table (at k) (size k) (at (k + 1)) (size (k + 1))

-- A page of the region is Control's afterwards where one of so many objects stands in it, and else free.
abbrev pub IsLeftAs : Areas → List (List ℕ) → ℕ → (ℕ → ℕ) → ℕ → Type 0
IsLeftAs m table count at p =
    ((space_word table p ≡ space_index Control + 1) × HoldsOne m count at p) ⊎ ((space_word table p ≡ 0) × (HoldsOne m count at p → ⊥))
