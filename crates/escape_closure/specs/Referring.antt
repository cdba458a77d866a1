-- References that follow a plan: what the correcting of stacks and of the slots of a region's chain leaves.
use Rattle.std.specs.Prelude.{◌≡◌, ◌≢◌, ℕ, ◌+◌, ◌-◌, ◌*◌, ◌≤◌, ◌<◌, List, length, slice_index, map}
use Rattle.std.specs.Int.{IsBitSet}
use Rattle.epoch_lattice.specs.declared.Space.TheVariants.{Region}
use Rattle.epoch_lattice.specs.Lattice.{space_index}
use Rattle.heap_words.specs.declared.map.Areas.{Areas}
use Rattle.heap_words.specs.Map.{heap_length}
use Rattle.heap_words.specs.Cells.{row}
use Rattle.heap_words.specs.Contents.{Contents, readers_of}
use Rattle.epoch_lattice.specs.declared.Space.{Space}
use Rattle.yak_model.specs.Plans.{Move}
use Rattle.remember_sets.specs.Filed.{SetsHold, chain, page_word}
use Rattle.relocation.specs.Moves.{corrected_word}

-- The value words of a stack, corrected.
abbrev pub corrected_stack : (ℕ → ℕ) → List ℕ → List ℕ
corrected_stack f stack = map (corrected_word f) stack

-- The references of the stack at a place of the list lead into the heap.
abbrev pub StackLeads : Areas → Contents → ℕ → Type 0
StackLeads m c k = (i a : ℕ) → i < length (row c.stacks k) → slice_index (row c.stacks k) i ≡ 2 * (a + 1) → a + 2 < heap_length m

-- Of the threads from one place of the list to another the stacks of those were corrected that have their bit in a readers
-- word, but not that of the region's owner. Nothing else has changed.
pub record ReadersCorrected (f : ℕ → ℕ) (c d : Contents) (owner readers low high : ℕ) : Type 0 where
  pub frame : d ≡ record c { stacks = d.stacks }
  pub size : length d.stacks ≡ length c.stacks
  pub read : (k : ℕ) → low ≤ k → k < high → k + 1 ≢ owner → IsBitSet readers k → row d.stacks k ≡ corrected_stack f (row c.stacks k)
  pub others : (k : ℕ) → (low ≤ k → k < high → k + 1 ≢ owner → IsBitSet readers k → ⊥) → row d.stacks k ≡ row c.stacks k

-- A slot of a region's chain, by its place.
abbrev pub slot_at : Areas → Contents → Space → ℕ → ℕ
slot_at m c x i = slice_index (chain m c x) i

-- A slot lies in no page of a space.
abbrev pub IsOutside : Areas → Contents → Space → ℕ → Type 0
IsOutside m c x a = page_word m c a ≢ space_index x + 1

-- The chains hold, and of a region's chain the references lead into the heap and no slot is the work word of a moved object.
pub record SlotsReady (m : Areas) (c : Contents) (region : Space) (count : ℕ) (moves : ℕ → Move) : Type 0 where
  pub sets : SetsHold m c
  pub lead : (i b : ℕ) → i < length (chain m c region) → slice_index c.heap (slot_at m c region i) ≡ 2 * (b + 1) → b + 2 < heap_length m
  pub beside : (i k : ℕ) → i < length (chain m c region) → k < count → (moves k).old + 2 ≢ slot_at m c region i

-- The first slots of a region's chain that lie outside the region were corrected. Nothing else has changed.
pub record SlotsCorrected (m : Areas) (f : ℕ → ℕ) (c d : Contents) (region : Space) (walked : ℕ) : Type 0 where
  pub frame : d ≡ record c { heap = d.heap }
  pub size : length d.heap ≡ length c.heap
  pub slots : (i : ℕ) → i < walked → IsOutside m c region (slot_at m c region i) → slice_index d.heap (slot_at m c region i) ≡ corrected_word f (slice_index c.heap (slot_at m c region i))
  pub others : (a : ℕ) → ((i : ℕ) → i < walked → IsOutside m c region (slot_at m c region i) → a ≢ slot_at m c region i) → slice_index d.heap a ≡ slice_index c.heap a

-- Outside a thread's region were corrected: the stack of the thread, those of the region's readers, and the slots of the
-- region's chain. Nothing else has changed.
pub record OutsideCorrected (m : Areas) (f : ℕ → ℕ) (c d : Contents) (thread depth : ℕ) : Type 0 where
  pub frame : d ≡ record c { stacks = d.stacks; heap = d.heap }
  pub rows : length d.stacks ≡ length c.stacks
  pub own : row d.stacks (thread - 1) ≡ corrected_stack f (row c.stacks (thread - 1))
  pub read : (k : ℕ) → k < m.threads → k + 1 ≢ thread → IsBitSet (readers_of c thread depth) k → row d.stacks k ≡ corrected_stack f (row c.stacks k)
  pub others : (k : ℕ) → k + 1 ≢ thread → (k < m.threads → IsBitSet (readers_of c thread depth) k → ⊥) → row d.stacks k ≡ row c.stacks k
  pub size : length d.heap ≡ length c.heap
  pub slots : (i : ℕ) → i < length (chain m c (Region thread depth)) → IsOutside m c (Region thread depth) (slot_at m c (Region thread depth) i) → slice_index d.heap (slot_at m c (Region thread depth) i) ≡ corrected_word f (slice_index c.heap (slot_at m c (Region thread depth) i))
  pub fields : (a : ℕ) → ((i : ℕ) → i < length (chain m c (Region thread depth)) → IsOutside m c (Region thread depth) (slot_at m c (Region thread depth) i) → a ≢ slot_at m c (Region thread depth) i) → slice_index d.heap a ≡ slice_index c.heap a
