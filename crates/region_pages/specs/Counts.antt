-- Counts of pages and of the words in use.
use Rattle.std.specs.Prelude.{ℕ, ◌+◌, ◌*◌, ◌≤◌, ◌==◌, cond, nat_lt, List, slice_index, count_by, sum_by}
use Rattle.heap_words.specs.declared.map.Areas.{Areas}
use Rattle.heap_words.specs.Map.{page_words}
use Rattle.epoch_lattice.specs.declared.Space.{Space}
use Rattle.epoch_lattice.specs.Lattice.{space_index}
use Rattle.yak_model.specs.Stands.{pages_of}

-- The number of free pages in the page table.
abbrev pub free_in : List (List ℕ) → ℕ
free_in table = count_by (λ (r : List ℕ). slice_index r 0 == 0) table

-- The number of pages of regions in the page table: their space's index is past that of Control, which is 0.
abbrev pub regions_in : List (List ℕ) → ℕ
regions_in table = count_by (λ (r : List ℕ). nat_lt 1 (slice_index r 0)) table

-- The words in use in the pages of a space: of one page, and of all.
abbrev pub used_by : Space → List ℕ → ℕ
used_by x r = cond (slice_index r 0 == space_index x + 1) (slice_index r 1) 0

abbrev pub used_of : List (List ℕ) → Space → ℕ
used_of table x = sum_by (used_by x) table

-- The pages of a space are half used, but for one page.
abbrev pub HalfUsed : Areas → List (List ℕ) → Space → Type 0
HalfUsed m table x = page_words m * pages_of table x ≤ 2 * used_of table x + page_words m
