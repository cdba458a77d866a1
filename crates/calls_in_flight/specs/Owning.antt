-- The words that a thread alone changes while the gate is open.
use Rattle.std.specs.Prelude.{◌≡◌, ℕ, ◌+◌, ◌*◌, ◌≤◌, ◌<◌, ◌⊎◌, List}
use Rattle.std.specs.List.{Contains}
use Rattle.heap_words.specs.declared.map.Areas.{Areas}
use Rattle.heap_words.specs.Map.{block_at, block_words, heap_at, max_depth, page_at, page_words}
use Rattle.heap_words.specs.Contents.{Contents}
use Rattle.yak_model.specs.Placed.{used_mark}
use Rattle.yak_model.specs.Stands.{current}
use Rattle.calls_in_flight.specs.Flight.{Flight}

-- A page is a thread's own: a current page that its block names, or one that it has claimed in the call in flight.
abbrev pub IsPageOf : Areas → Contents → ℕ → List ℕ → ℕ → Type 0
IsPageOf m c t claimed p = ((d : ℕ) × (d ≤ max_depth m) × (current c.currents t d ≡ p + 1)) ⊎ Contains claimed p

-- A place is a thread's own: a word of its block, of the page table's entry of a page of its own, or of such a page above its
-- used mark.
pub data IsWordOf (m : Areas) (c : Contents) (t : ℕ) (claimed : List ℕ) (a : ℕ) : Type 0 where
  in_block : block_at m t ≤ a → a < block_at m t + block_words m → IsWordOf m c t claimed a
  in_entry : (p j : ℕ) → IsPageOf m c t claimed p → j < 2 → a ≡ page_at m p + j → IsWordOf m c t claimed a
  in_page : (p i : ℕ) → IsPageOf m c t claimed p → used_mark c.table p ≤ i → i < page_words m → a ≡ heap_at m + (page_words m * p + i) → IsWordOf m c t claimed a

-- The same for the thread of a call in flight.
abbrev pub IsOwnPage : Areas → Contents → Flight → ℕ → Type 0
IsOwnPage m c f p = IsPageOf m c f.thread f.claimed p

abbrev pub IsOwn : Areas → Contents → Flight → ℕ → Type 0
IsOwn m c f a = IsWordOf m c f.thread f.claimed a
