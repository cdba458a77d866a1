-- The objects of a page, one after another.
use Rattle.std.specs.Prelude.{◌≡◌, ℕ, ◌+◌, ◌*◌, ◌≤◌, ◌<◌, List}
use Rattle.heap_words.specs.declared.map.Areas.{Areas}
use Rattle.heap_words.specs.Map.{page_words}
use Rattle.epoch_lattice.specs.declared.Space.TheVariants.{Control}
use Rattle.yak_model.specs.Plans.{Move}
use Rattle.relocation.specs.Moves.{HasHeader, size_at}
use Rattle.relocation.specs.Fields.{LeadWithin}

-- The objects of a page stand one after another from its start to its used mark, at the addresses that a function gives, and
-- their references lead into the heap.
pub record ObjectRow (m : Areas) (heap : List ℕ) (p used count : ℕ) (at : ℕ → ℕ) : Type 0 where
  pub headers : (k : ℕ) → k < count → HasHeader heap (at k)
  pub first : at 0 ≡ page_words m * p
  pub next : (k : ℕ) → k < count → at (k + 1) ≡ at k + size_at heap (at k)
  pub last : at count ≡ page_words m * p + used
  pub fits : used ≤ page_words m
  pub lead : (k : ℕ) → k < count → LeadWithin m heap (at k + 3) (at k + size_at heap (at k))

-- Objects that stay where they are, as moves.
abbrev pub staying : (ℕ → ℕ) → ℕ → Move
staying at k = record { old = at k; new = at k; space = Control }
