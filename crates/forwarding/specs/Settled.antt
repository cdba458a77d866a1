-- The page table after a slide.
use Rattle.std.specs.Prelude.{◌≡◌, ℕ, ◌+◌, ◌*◌, ◌/◌, ◌≤◌, ◌<◌, List, [], slice_index_or}
use Rattle.heap_words.specs.declared.map.Areas.{Areas}
use Rattle.heap_words.specs.Map.{page_words}
use Rattle.yak_model.specs.Placed.{space_word, used_mark}
use Rattle.yak_model.specs.Plans.{Move}
use Rattle.relocation.specs.Moves.{size_at}
use Rattle.relocation.specs.Slide.{IsPageOf, brought}

-- The pages of a space among the first pages were emptied: those before `next` are control pages, and the others are free.
-- No other page has changed.
pub record Emptied (slid : ℕ) (was now : List (List ℕ)) (next pages : ℕ) : Type 0 where
  pub kept : (p : ℕ) → p < pages → IsPageOf slid was p → p < next → space_word now p ≡ 1
  pub free : (p : ℕ) → p < pages → IsPageOf slid was p → next ≤ p → space_word now p ≡ 0
  pub empty : (p : ℕ) → p < pages → IsPageOf slid was p → used_mark now p ≡ 0
  pub others : (p : ℕ) → (IsPageOf slid was p → ⊥) → slice_index_or now p [] ≡ slice_index_or was p []
  pub ahead : (p : ℕ) → pages ≤ p → slice_index_or now p [] ≡ slice_index_or was p []

-- The used marks follow the first moves, whose objects stand at their new places: that of the page of each new place is where
-- its last object ends. No space has changed.
pub record Filled (m : Areas) (heap : List ℕ) (was now : List (List ℕ)) (count : ℕ) (moves : ℕ → Move) : Type 0 where
  pub spaces : (p : ℕ) → space_word now p ≡ space_word was p
  pub others : (p : ℕ) → ((k : ℕ) → k < count → (moves k).new / page_words m ≡ p → ⊥) → slice_index_or now p [] ≡ slice_index_or was p []
  pub marks : (before : List ℕ) → ((k : ℕ) → k < count → size_at heap (moves k).new ≡ size_at before (moves k).old) → ((k : ℕ) → k < count → (moves k).new ≡ page_words m * ((moves k).new / page_words m) + brought m before k moves ((moves k).new / page_words m)) → (p : ℕ) → p < m.pages → used_mark was p ≡ 0 → used_mark now p ≡ brought m before count moves p
