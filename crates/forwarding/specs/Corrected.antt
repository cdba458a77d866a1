-- The slots of stacks and the fields of the objects of regions, corrected.
use Rattle.std.specs.Prelude.{◌≡◌, ℕ, ◌+◌, ◌*◌, ◌≤◌, ◌<◌, ◌⊎◌, List, slice_index, length, map}
use Rattle.heap_words.specs.declared.map.Areas.{Areas}
use Rattle.heap_words.specs.Map.{heap_length, page_words}
use Rattle.heap_words.specs.Contents.{Contents}
use Rattle.yak_model.specs.Placed.{space_word}
use Rattle.yak_model.specs.Plans.{Move}
use Rattle.relocation.specs.Moves.{corrected_word, size_at}
use Rattle.relocation.specs.Slide.{PageRun, object_at}

-- The slots of a stack, corrected.
abbrev pub corrected_stack : (ℕ → ℕ) → List ℕ → List ℕ
corrected_stack f slots = map (corrected_word f) slots

-- The slots of all stacks, corrected.
abbrev pub corrected_stacks : (ℕ → ℕ) → List (List ℕ) → List (List ℕ)
corrected_stacks f stacks = map (corrected_stack f) stacks

-- A page belongs to a region: its word in the page table is past that of Control, which is 1.
abbrev pub IsRegional : Contents → ℕ → Type 0
IsRegional c p = 1 < space_word c.table p

-- A heap word is a field of an object of a page.
abbrev pub IsFieldIn : (m : Areas) (c : Contents) (p : ℕ) → PageRun m c p → ℕ → Type 0
IsFieldIn m c p run i = (k : ℕ) × (k < run.objects) × (object_at m c.heap p k + 3 ≤ i) × (i < object_at m c.heap p k + size_at c.heap (object_at m c.heap p k))

-- The pages of regions are runs of whole objects whose references lead into the heap, and no plan moves an object of theirs.
pub record RegionRuns (m : Areas) (c : Contents) (count : ℕ) (moves : ℕ → Move) : Type 0 where
  pub run : (p : ℕ) → p < m.pages → IsRegional c p → PageRun m c p
  pub lead : (p : ℕ) (h : p < m.pages) (r : IsRegional c p) (i b : ℕ) → IsFieldIn m c p (run p h r) i → slice_index c.heap i ≡ 2 * (b + 1) → b + 2 < heap_length m
  pub beside : (p k : ℕ) → p < m.pages → IsRegional c p → k < count → ((moves k).old + 2 < page_words m * p) ⊎ (page_words m * p + page_words m ≤ (moves k).old + 2)

-- The fields of the objects of regions were corrected, and no other word of the heap has changed.
pub record RegionsCorrected (m : Areas) (f : ℕ → ℕ) (c : Contents) (count : ℕ) (moves : ℕ → Move) (r : RegionRuns m c count moves) (now : List ℕ) : Type 0 where
  pub size : length now ≡ length c.heap
  pub fields : (p : ℕ) (h : p < m.pages) (x : IsRegional c p) (i : ℕ) → IsFieldIn m c p (r.run p h x) i → slice_index now i ≡ corrected_word f (slice_index c.heap i)
  pub others : (i : ℕ) → ((p : ℕ) (h : p < m.pages) (x : IsRegional c p) → IsFieldIn m c p (r.run p h x) i → ⊥) → slice_index now i ≡ slice_index c.heap i
