-- The page table within its limits, and the claim of a page.
use Rattle.std.specs.Prelude.{◌≡◌, ℕ, ◌+◌, ◌≤◌, ◌<◌, ◌⊎◌, List, [], ◌∷◌, slice_set}
use Rattle.heap_words.specs.declared.map.Areas.{Areas}
use Rattle.heap_words.specs.Map.{page_words}
use Rattle.heap_words.specs.Contents.{Contents, with_head}
use Rattle.epoch_lattice.specs.declared.Space.{Space}
use Rattle.epoch_lattice.specs.Lattice.{space_index}
use Rattle.yak_model.specs.Placed.{space_word, used_mark}
use Rattle.yak_model.specs.Stands.{claim_counter}
use Rattle.yak_model.specs.Packed.{IsSpaceOf}
use Rattle.region_pages.specs.declared.TheConstants.{CLAIM_COUNTER}

-- Each page is free or belongs to a space of this heap, and its used mark lies within the page.
pub record TableFits (m : Areas) (table : List (List ℕ)) : Type 0 where
  pub spaces : (p : ℕ) → p < m.pages → (space_word table p ≡ 0) ⊎ ((x : Space) × IsSpaceOf m x × (space_word table p ≡ space_index x + 1))
  pub marks : (p : ℕ) → p < m.pages → used_mark table p ≤ page_words m

-- The contents with another entry of a page in the page table: the word of its space, and its used mark.
abbrev pub with_entry : Contents → ℕ → ℕ → ℕ → Contents
with_entry c page space used = record c { table = slice_set c.table page (space ∷ used ∷ []) }

-- The contents after a page is claimed for a space: the counter is raised, and the page is entered with nothing used.
abbrev pub with_claimed : Contents → Space → ℕ → Contents
with_claimed c x page = with_entry (with_head c CLAIM_COUNTER (claim_counter c.heads + 1)) page (space_index x + 1) 0
