-- The words of an object that is made.
use Rattle.std.specs.Prelude.{◌≡◌, ◌⊎◌, ℕ, ◌+◌, ◌≤◌, ◌<◌, slice_index}
use Rattle.heap_words.specs.Contents.{Contents}

-- An object of some words is written at an address up to a word: its header, its name, and then words of 0. All words
-- beside the object are as they were.
pub record IsWritten (was now : Contents) (a first second size upto : ℕ) : Type 0 where
  pub rest : now ≡ record was { heap = now.heap }
  pub header : slice_index now.heap a ≡ first
  pub name : slice_index now.heap (a + 1) ≡ second
  pub zero : (i : ℕ) → 2 ≤ i → i < upto → slice_index now.heap (a + i) ≡ 0
  pub others : (i : ℕ) → (i < a) ⊎ (a + size ≤ i) → slice_index now.heap i ≡ slice_index was.heap i
