-- The pool made anew, and the pages of a region given back.
use Rattle.std.specs.Prelude.{ℕ, ◌+◌, ◌==◌, cond, List, [], ◌∷◌, ◌++◌, length, map, drop, slice_index}
use Rattle.std.specs.List.{filter, range_with_len}
use Rattle.heap_words.specs.Contents.{Contents, with_head, with_current}
use Rattle.epoch_lattice.specs.declared.Space.{Space}
use Rattle.epoch_lattice.specs.declared.Space.TheVariants.{Control, Region}
use Rattle.epoch_lattice.specs.Lattice.{space_index}
use Rattle.yak_model.specs.Placed.{space_word}
use Rattle.region_pages.specs.declared.TheConstants.{CLAIM_COUNTER, POOL_LENGTH}

-- The free ones of the first pages, in ascending order.
abbrev pub free_below : List (List ℕ) → ℕ → List ℕ
free_below table n = filter (λ (p : ℕ). space_word table p == 0) (range_with_len 0 n)

-- A pool that begins with some pages. What stands past them stays.
abbrev pub pool_with : List ℕ → List ℕ → List ℕ
pool_with pages pool = pages ++ drop (length pages) pool

-- The contents with a pool of exactly the free pages, in ascending order, of which none is claimed.
abbrev pub with_pool_rebuilt : Contents → Contents
with_pool_rebuilt c =
    let pages = free_below c.table (length c.table) in
    let filled = record c { pool = pool_with pages c.pool } in
    with_head (with_head filled CLAIM_COUNTER 0) POOL_LENGTH (length pages)

-- The entry of a page after the pages of one word of the space are freed.
abbrev pub freed : ℕ → List ℕ → List ℕ
freed word r = cond (slice_index r 0 == word) (0 ∷ 0 ∷ []) r

-- The page table after the pages of one word of the space are freed.
abbrev pub freed_table : ℕ → List (List ℕ) → List (List ℕ)
freed_table word table = map (freed word) table

-- The contents after the pages of a space are freed: they belong to none, and no word of them is in use.
abbrev pub with_freed : Contents → Space → Contents
with_freed c x = record c { table = freed_table (space_index x + 1) c.table }

-- The contents after a region loses its current page.
abbrev pub with_none_current : Contents → Space → Contents
with_none_current c Control = c
with_none_current c (Region t d) = with_current c t d 0

-- The contents after a region gave its pages back.
abbrev pub with_released : Contents → Space → Contents
with_released c x = with_pool_rebuilt (with_none_current (with_freed c x) x)
