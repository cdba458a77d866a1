-- A heap in memory: its numbers of pages and threads, and then its words.
use Rattle.std.specs.Prelude.{◌≡◌, ◌+◌, ℕ, List, drop, length, slice_index}
use Rattle.heap_words.specs.declared.map.Areas.{Areas}
use Rattle.heap_words.specs.Map.{IsAreas, total_of}
use Rattle.heap_words.specs.Contents.{Contents, contents}
use Rattle.yak_model.specs.Graph.{standard_limits}
use Rattle.yak_model.specs.Spaces.{opening_spaces}
use Rattle.yak_model.specs.Recorded.{SomeRecorded, StandsRecorded}
use Rattle.yak_c.specs.declared.TheConstants.{SIZES}

-- ---- the words of a heap

-- The word of the gate is 0, and the words stand for a state, with the crossing references recorded.
pub record Holds (m : Areas) (words : List ℕ) : Type 0 where
  pub gate : slice_index words 0 ≡ 0
  pub stands : SomeRecorded m (contents m words)

-- They stand for the opening state.
pub record HoldsOpening (m : Areas) (words : List ℕ) : Type 0 where
  pub gate : slice_index words 0 ≡ 0
  pub opening : StandsRecorded m (contents m words) (opening_spaces standard_limits m.threads)

-- ---- memory

-- the map of the heap
abbrev pub map_in : List ℕ → Areas
map_in memory = record { pages = slice_index memory 0; threads = slice_index memory 1 }

-- its words
abbrev pub words_in : List ℕ → List ℕ
words_in memory = drop SIZES memory

-- what they hold
abbrev pub contents_in : List ℕ → Contents
contents_in memory = contents (map_in memory) (words_in memory)

-- The memory is as long as a heap of its numbers, which one can have, and the word of the gate is 0.
pub record HasShape (memory : List ℕ) : Type 0 where
  pub areas : IsAreas (map_in memory)
  pub size : length memory ≡ SIZES + total_of (map_in memory)
  pub gate : slice_index (words_in memory) 0 ≡ 0

-- The words stand for a state, with the crossing references recorded.
abbrev pub Stands : List ℕ → Type 0
Stands memory = SomeRecorded (map_in memory) (contents_in memory)

-- It is a heap.
pub record IsHeap (memory : List ℕ) : Type 0 where
  pub shape : HasShape memory
  pub stands : Stands memory

-- If it has the shape of a heap, it is one.
abbrev pub MayBeHeap : List ℕ → Type 0
MayBeHeap memory = HasShape memory → Stands memory

-- It is a heap of so many pages and threads in its opening state.
pub record IsOpened (pages threads : ℕ) (memory : List ℕ) : Type 0 where
  pub heap : IsHeap memory
  pub map : map_in memory ≡ record { pages = pages; threads = threads }
  pub opening : StandsRecorded (map_in memory) (contents_in memory) (opening_spaces standard_limits threads)

-- There can be a heap of so many pages and threads, and the memory is as long as it.
abbrev pub IsLength : ℕ → ℕ → List ℕ → Type 0
IsLength pages threads memory =
    IsAreas (record { pages = pages; threads = threads }) × (length memory ≡ SIZES + total_of (record { pages = pages; threads = threads }))
