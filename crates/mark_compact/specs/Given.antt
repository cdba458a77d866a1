-- What the planning of the slide of a collection leaves.
use Rattle.std.specs.Prelude.{◌≡◌, ℕ, ◌≤◌, ◌<◌, [], slice_index_or}
use Rattle.heap_words.specs.declared.map.Areas.{Areas}
use Rattle.heap_words.specs.Map.{heap_length}
use Rattle.heap_words.specs.Contents.{Contents}
use Rattle.yak_model.specs.Placed.{space_word, used_mark}
use Rattle.yak_model.specs.Plans.{Move}
use Rattle.relocation.specs.Slide.{IsPageOf, Runs, Sliding}
use Rattle.mark_compact.specs.declared.sliding.TheConstants.{CONTROL_WORD}

-- The control pages from `next` on were given back, and nothing else has changed but their words in the page table.
pub record GivenBack (m : Areas) (was now : Contents) (next : ℕ) : Type 0 where
  pub elsewhere : now ≡ record was { table = now.table }
  pub before : (p : ℕ) → p < next → slice_index_or now.table p [] ≡ slice_index_or was.table p []
  pub others : (p : ℕ) → (IsPageOf CONTROL_WORD was.table p → ⊥) → slice_index_or now.table p [] ≡ slice_index_or was.table p []
  pub free : (p : ℕ) → next ≤ p → p < m.pages → IsPageOf CONTROL_WORD was.table p → (space_word now.table p ≡ 0) × (used_mark now.table p ≡ 0)

-- The marked control objects are planned from the first page to the last, and the control pages that stay empty were given back.
pub record IsSlid (m : Areas) (was : Contents) (runs : Runs m CONTROL_WORD was) (now : Contents) (count : ℕ) (moves : ℕ → Move) : Type 0 where
  pub next : ℕ
  pub room : ℕ
  pub planned : Contents
  pub sliding : Sliding m CONTROL_WORD was runs planned count moves next room (heap_length m)
  pub given_back : GivenBack m planned now next
