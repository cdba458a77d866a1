-- Where an object is placed.
use Rattle.std.specs.Prelude.{◌≡◌, ℕ, ◌+◌, ◌-◌, ◌*◌, ◌≤◌, ◌<◌, ◌⊎◌, ◌==◌, cond, List, ◌∷◌}
use Rattle.heap_words.specs.declared.map.Areas.{Areas}
use Rattle.heap_words.specs.Map.{page_words}
use Rattle.heap_words.specs.Contents.{Contents, with_page, with_current}
use Rattle.epoch_lattice.specs.declared.Space.{Space}
use Rattle.epoch_lattice.specs.declared.Space.TheVariants.{Control, Region}
use Rattle.epoch_lattice.specs.Lattice.{space_index}
use Rattle.yak_model.specs.Placed.{space_word, used_mark}
use Rattle.yak_model.specs.Stands.{free_pages, current}
use Rattle.region_pages.specs.Pages.{with_claimed}
use Rattle.region_pages.specs.declared.TheConstants.{USED_MARK}

-- A thread places objects in Control and in its own regions.
abbrev pub IsOwn : ℕ → Space → Type 0
IsOwn thread Control = Unit {0}
IsOwn thread (Region t d) = t ≡ thread

-- At which depth a thread's block names the current page of a space: 0 for Control.
abbrev pub depth_in : Space → ℕ
depth_in Control = 0
depth_in (Region t d) = d

-- The words left in a thread's current page at a depth, 0 where it has none.
abbrev pub words_left_at : Areas → Contents → ℕ → ℕ → ℕ
words_left_at m c t d = let page = current c.currents t d in cond (page == 0) 0 (page_words m - used_mark c.table (page - 1))

-- The contents with another used mark of a page.
abbrev pub with_used : Contents → ℕ → ℕ → Contents
with_used c page used = with_page c page USED_MARK used

-- An object of some words stands at an address behind the used words of the current page, which are more by its size.
pub record IsPlacedInCurrent (m : Areas) (c : Contents) (t d size a : ℕ) (after : Contents) : Type 0 where
  pub fits : size ≤ words_left_at m c t d
  pub address : a ≡ page_words m * (current c.currents t d - 1) + used_mark c.table (current c.currents t d - 1)
  pub changed : after ≡ with_used c (current c.currents t d - 1) (used_mark c.table (current c.currents t d - 1) + size)

-- An object of some words stands at the front of a page that was claimed for it and is now the current one.
pub record IsPlacedOnClaimed (m : Areas) (c : Contents) (t : ℕ) (x : Space) (size a : ℕ) (after : Contents) : Type 0 where
  pub page : ℕ
  pub free : free_pages c.heads c.pool ≡ page ∷ free_pages after.heads after.pool
  pub address : a ≡ page_words m * page
  pub changed : after ≡ with_current (with_used (with_claimed c x page) page size) t (depth_in x) (page + 1)

-- An object is placed in a space by a thread: in the current page where that has room, else on a claimed page.
abbrev pub IsPlaced : Areas → Contents → ℕ → Space → ℕ → ℕ → Contents → Type 0
IsPlaced m c t x size a after =
    IsPlacedInCurrent m c t (depth_in x) size a after ⊎ ((words_left_at m c t (depth_in x) < size) × IsPlacedOnClaimed m c t x size a after)

-- The words from an address on are the last ones in use in a page of a space, as the page table has it.
pub record IsLastInPage (m : Areas) (table : List (List ℕ)) (x : Space) (a size : ℕ) : Type 0 where
  pub page : ℕ
  pub exists : page < m.pages
  pub entered : space_word table page ≡ space_index x + 1
  pub from : page_words m * page ≤ a
  pub ends : a + size ≡ page_words m * page + used_mark table page
  pub fits : used_mark table page ≤ page_words m
