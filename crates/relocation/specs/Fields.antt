-- The fields of the objects that a plan moves, corrected.
use Rattle.std.specs.Prelude.{◌≡◌, ℕ, ◌+◌, ◌*◌, ◌≤◌, ◌<◌, ◌⊎◌, List, slice_index}
use Rattle.heap_words.specs.declared.map.Areas.{Areas}
use Rattle.heap_words.specs.Map.{heap_length}
use Rattle.yak_model.specs.Plans.{Move}
use Rattle.relocation.specs.Moves.{HasHeader, size_at, corrected_word}

-- The fields of an object of n words were corrected, and no other word has changed.
pub record FieldsCorrected (f : ℕ → ℕ) (was now : List ℕ) (a n : ℕ) : Type 0 where
  pub inside : (i : ℕ) → a + 3 ≤ i → i < a + n → slice_index now i ≡ corrected_word f (slice_index was i)
  pub outside : (i : ℕ) → (i < a + 3) ⊎ (a + n ≤ i) → slice_index now i ≡ slice_index was i

-- The fields of the objects of the first moves were corrected, and no other word has changed.
pub record MovesCorrected (f : ℕ → ℕ) (was now : List ℕ) (count : ℕ) (moves : ℕ → Move) : Type 0 where
  pub fields : (k i : ℕ) → k < count → (moves k).old + 3 ≤ i → i < (moves k).old + size_at was (moves k).old → slice_index now i ≡ corrected_word f (slice_index was i)
  pub others : (i : ℕ) → ((k : ℕ) → k < count → (i < (moves k).old + 3) ⊎ ((moves k).old + size_at was (moves k).old ≤ i)) → slice_index now i ≡ slice_index was i

-- The references among the words from an address to another lead into the heap.
abbrev pub LeadWithin : Areas → List ℕ → ℕ → ℕ → Type 0
LeadWithin m heap low high = (i b : ℕ) → low ≤ i → i < high → slice_index heap i ≡ 2 * (b + 1) → b + 2 < heap_length m

-- The objects of a plan lie one after another, and their references lead into the heap.
pub record Lined (m : Areas) (heap : List ℕ) (count : ℕ) (moves : ℕ → Move) : Type 0 where
  pub headers : (k : ℕ) → k < count → HasHeader heap (moves k).old
  pub within : (k : ℕ) → k < count → (moves k).old + size_at heap (moves k).old ≤ heap_length m
  pub ordered : (j k : ℕ) → j < k → k < count → (moves j).old + size_at heap (moves j).old ≤ (moves k).old
  pub lead : (k : ℕ) → k < count → LeadWithin m heap ((moves k).old + 3) ((moves k).old + size_at heap (moves k).old)
