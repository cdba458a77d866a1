-- What a collection of the control space leaves.
use Rattle.std.specs.Prelude.{◌≡◌, ◌≢◌, ◌⊎◌, ℕ, ◌+◌, ◌-◌, ◌*◌, ◌≤◌, ◌<◌, Bool, List, map, length, Option, Some, is_some}
use Rattle.object_layout.specs.declared.names.Name.{Name}
use Rattle.object_layout.specs.declared.TheConstants.{OBJECT_WORDS}
use Rattle.heap_words.specs.declared.map.Areas.{Areas}
use Rattle.heap_words.specs.Map.{page_words}
use Rattle.heap_words.specs.Cells.{row}
use Rattle.heap_words.specs.Contents.{Contents}
use Rattle.epoch_lattice.specs.declared.Space.TheVariants.{Control}
use Rattle.std.specs.List.{filter}
use Rattle.epoch_lattice.specs.declared.Space.{Space}
use Rattle.yak_model.specs.Chains.{IsRegionOf}
use Rattle.remember_sets.specs.Filed.{all_filed, chain, logged}
use Rattle.yak_model.specs.Spaces.{Collects, SpaceState}
use Rattle.yak_model.specs.State.{Thing, object_of}
use Rattle.yak_model.specs.Placed.{space_word, used_mark}
use Rattle.yak_model.specs.Packed.{IsPacked}
use Rattle.yak_model.specs.Stands.{Stands, current}
use Rattle.yak_model.specs.Recorded.{Recorded}
use Rattle.forwarding.specs.Crossing.{AreFiled}
use Rattle.forwarding.specs.Pool.{PoolAnew}
use Rattle.relocation.specs.Slide.{GoesBehind, GoesOn, IsFirstPage}
use Rattle.mark_compact.specs.declared.sliding.TheConstants.{CONTROL_WORD}

-- The object of Control that has this name.
abbrev pub IsOfControl : (Name → Option Thing) → Name → Thing → Type 0
IsOfControl objects n o = (objects n ≡ Some o) × (o.home ≡ Control)

-- Of the objects of Control `b` is the next one behind `a`, where `at` gives the address of each name.
pub record IsNext (objects : Name → Option Thing) (at : Name → ℕ) (a b : Name) : Type 0 where
  pub behind : at a < at b
  pub none_between : (n : Name) (o : Thing) → IsOfControl objects n o → at a < at n → at n < at b → ⊥

-- The kept objects of Control went to its pages, both in ascending order: the first to the front of the first page, and each
-- other one right behind the one before it where it fits into that one's page, else to the front of the next page. No other
-- object has moved. These are the pages and the addresses before, the objects that are kept, and their addresses now.
pub record AreSlid (m : Areas) (table : List (List ℕ)) (at : Name → ℕ) (objects : Name → Option Thing) (at_now : Name → ℕ) : Type 0 where
  pub first : (n : Name) (o : Thing) → IsOfControl objects n o → ((x : Name) (p : Thing) → IsOfControl objects x p → at n ≤ at x) → (q : ℕ) × IsFirstPage CONTROL_WORD table 0 q × (at_now n ≡ page_words m * q)
  pub next : (a b : Name) (o p : Thing) → IsOfControl objects a o → IsOfControl objects b p → IsNext objects at a b
      → GoesBehind m (at_now a) (length o.fields + OBJECT_WORDS) (at_now b) (length p.fields + OBJECT_WORDS) ⊎ GoesOn m CONTROL_WORD table (at_now a) (length o.fields + OBJECT_WORDS) (at_now b) (length p.fields + OBJECT_WORDS)
  pub still : (n : Name) (o : Thing) → objects n ≡ Some o → o.home ≢ Control → at_now n ≡ at n

-- The recorded slots after the collection: each region's chain is the one that filing the store buffers made, without the
-- fields of the objects that are gone, and with each field of an object that is kept at its new place.
pub record SlotsCollected (m : Areas) (was now : Contents) (before after : Name → Option Thing) (at at_now : Name → ℕ) : Type 0 where
  pub stays : ℕ → Bool
  pub goes : ℕ → ℕ
  pub kept : (n : Name) (o : Thing) (f : ℕ) → before n ≡ Some o → f < length o.fields → stays (at n + OBJECT_WORDS + f) ≡ is_some (after n)
  pub moved : (n : Name) (o : Thing) (f : ℕ) → after n ≡ Some o → f < length o.fields → goes (at n + OBJECT_WORDS + f) ≡ at_now n + OBJECT_WORDS + f
  pub chains : (x : Space) → IsRegionOf m x → chain m now x ≡ map goes (filter stays (all_filed m was x (logged was) (chain m was x)))

-- The words stand for the state after the collection, in which Control is packed and the crossing references are recorded.
-- The objects that are kept have slid, and their recorded slots with them.
pub record StateCollected (m : Areas) (was now : Contents) (s : SpaceState) (h : Stands m was s) : Type 0 where
  pub after : SpaceState
  pub collects : Collects s after
  pub stands : Stands m now after
  pub recorded : Recorded m now after stands
  pub packed : IsPacked m now after stands Control
  pub slid : AreSlid m was.table h.places.at (object_of after) stands.places.at
  pub slots : SlotsCollected m was now (object_of s) (object_of after) h.places.at stands.places.at

-- The current control page of the thread is the last control page, where there is one, and no other thread has one.
pub record CurrentsCollected (was now : Contents) (t : ℕ) : Type 0 where
  pub own : ((current now.currents t 0 ≡ 0) × ((p : ℕ) → space_word now.table p ≢ CONTROL_WORD)) ⊎ ((1 ≤ current now.currents t 0) × (space_word now.table (current now.currents t 0 - 1) ≡ CONTROL_WORD) × ((p : ℕ) → space_word now.table p ≡ CONTROL_WORD → p + 1 ≤ current now.currents t 0))
  pub others : (u : ℕ) → 1 ≤ u → u ≢ t → current now.currents u 0 ≡ 0
  pub regions : (u d : ℕ) → 1 ≤ d → current now.currents u d ≡ current was.currents u d

-- A page is Control's and holds something, or it is free and holds nothing.
abbrev pub IsFilledOrFree : List (List ℕ) → ℕ → Type 0
IsFilledOrFree table p = ((space_word table p ≡ CONTROL_WORD) × (used_mark table p ≢ 0)) ⊎ ((space_word table p ≡ 0) × (used_mark table p ≡ 0))

-- Exactly the control pages that the slide left empty were given back: each of the others holds something. Pages of regions and
-- free pages have their entries still, and the pool is made anew of the free pages. The buffers are filed, and no depth, number
-- made, reader or unused word of a block has changed.
pub record RoomCollected (m : Areas) (was now : Contents) (t : ℕ) : Type 0 where
  pub filed : AreFiled now.buffers
  pub control : (p : ℕ) → p < m.pages → space_word was.table p ≡ CONTROL_WORD → IsFilledOrFree now.table p
  pub others : (p : ℕ) → space_word was.table p ≢ CONTROL_WORD → row now.table p ≡ row was.table p
  pub pool : PoolAnew m was now
  pub currents : CurrentsCollected was now t
  pub depths : now.depths ≡ was.depths
  pub made : now.made ≡ was.made
  pub readers : now.readers ≡ was.readers
  pub rests : now.rests ≡ was.rests
