use Rattle.std.proofs.Common.{◌≡◌, ℕ, ◌+◌, ◌-◌, ◌*◌, ◌<◌, List, [], take, drop, length, get_or, set, refl, sym, ap, ◌∙◌, arith, get_or-take, get_or-drop, length-take, length-drop}
use Rattle.std.proofs.lemmas.List.{take-set-le, drop-drop}
use Rattle.std.proofs.Math.Seq.{take-set-lt}
use Rattle.heap_words.specs.declared.map.Areas.{Areas}
use Rattle.heap_words.specs.declared.TheConstants.{HEAD_WORDS}
use Rattle.heap_words.specs.Map.{max_depth, block_words, scratch_length, HasThread, HasPage, HasRegion, blocks_at, block_at, table_at, page_at, pool_at, all_readers_at, readers_at, sets_at, scratch_at, heap_at, heap_length, total_of}
use Rattle.std.proofs.lemmas.List.{map-set, get_or-map, length-map}
use Rattle.heap_words.specs.Cells.{part, rows, row, row_set, block_of, raw_block, no_block, block, with_block, cells}
use Rattle.heap_words.proofs.Rows.{drop-set_before, drop-set_at, part-set_before, part-set_past, part-set_at, part-get, rows-set_past, rows-set_at, rows-get, row_below, row-rows, length-rows}

-- a write in the heads
pub cells-set_head : (m : Areas) (ws : List ℕ) (i v : ℕ) → i < HEAD_WORDS → cells m (set ws i v) ≡ (let c = cells m ws in record c { heads = set c.heads i v })
unfolding cells
cells-set_head m ws i v h =
    rw (
      take-set-lt HEAD_WORDS ws i v h,
      drop-set_before ws (blocks_at m) i v (omega arith),
      drop-set_before ws (table_at m) i v (omega arith),
      part-set_before ws (pool_at m) m.pages i v (omega arith),
      drop-set_before ws (all_readers_at m) i v (omega arith),
      part-set_before ws (sets_at m) (2 * heap_length m) i v (omega arith),
      part-set_before ws (scratch_at m) (scratch_length m) i v (omega arith),
      part-set_before ws (heap_at m) (heap_length m) i v (omega arith),
    )

pub cells-get_head : (m : Areas) (ws : List ℕ) (i : ℕ) → i < HEAD_WORDS → get_or ws i 0 ≡ get_or (cells m ws).heads i 0
unfolding cells
cells-get_head m ws i h = sym (get_or-take HEAD_WORDS ws i 0 h)

row-raw_block : (m : Areas) (ws : List ℕ) (t : ℕ) → HasThread m t → row (rows m.threads (block_words m) (drop (blocks_at m) ws)) (t - 1) ≡ raw_block m ws t
row-raw_block m ws t ht =
    let lt : t - 1 < m.threads = omega arith in
    let e : blocks_at m + (t - 1) * (block_words m) ≡ block_at m t = omega arith in
    row-rows m.threads (block_words m) (drop (blocks_at m) ws) (t - 1) lt ∙ ap (take (block_words m)) (drop-drop ((t - 1) * (block_words m)) (blocks_at m) ws) ∙ ap (λ a. part a (block_words m) ws) e

-- the block of a thread is read from its words
pub cells-block : (m : Areas) (ws : List ℕ) (t : ℕ) → HasThread m t → block (cells m ws) t ≡ block_of m (raw_block m ws t)
unfolding cells
cells-block m ws t ht =
    let rs : List (List ℕ) = rows m.threads (block_words m) (drop (blocks_at m) ws) in
    let lt : t - 1 < length rs = rw (length-rows m.threads (block_words m) (drop (blocks_at m) ws)) (omega arith) in
    get_or-map (block_of m) rs (t - 1) [] no_block lt ∙ ap (block_of m) (row-raw_block m ws t ht)

-- a write in a block
pub cells-set_block : (m : Areas) (ws : List ℕ) (t j v : ℕ) → HasThread m t → j < (block_words m) → cells m (set ws (block_at m t + j) v) ≡ with_block (cells m ws) t (block_of m (set (raw_block m ws t) j v))
unfolding cells
cells-set_block m ws t j v ht hj =
    let i : ℕ = block_at m t + j in
    let k : ℕ = (t - 1) * (block_words m) + j in
    let e : i ≡ blocks_at m + k = omega arith in
    let lt : t - 1 < m.threads = omega arith in
    let within : i < table_at m = omega (arith, row_below m.threads (block_words m) (t - 1) j lt hj) in
    let rs : List (List ℕ) = rows m.threads (block_words m) (drop (blocks_at m) ws) in
    rw (
      take-set-le HEAD_WORDS ws i v (omega arith),
      drop-set_at ws (blocks_at m) i k v e,
      rows-set_at m.threads (block_words m) (drop (blocks_at m) ws) (t - 1) k j v refl lt hj,
      map-set (block_of m) rs (t - 1) (set (row rs (t - 1)) j v),
      row-raw_block m ws t ht,
      drop-set_before ws (table_at m) i v within,
      part-set_before ws (pool_at m) m.pages i v (omega arith),
      drop-set_before ws (all_readers_at m) i v (omega arith),
      part-set_before ws (sets_at m) (2 * heap_length m) i v (omega arith),
      part-set_before ws (scratch_at m) (scratch_length m) i v (omega arith),
      part-set_before ws (heap_at m) (heap_length m) i v (omega arith),
    )

pub raw_block-set : (m : Areas) (ws : List ℕ) (t j v : ℕ) → j < (block_words m) → raw_block m (set ws (block_at m t + j) v) t ≡ set (raw_block m ws t) j v
raw_block-set m ws t j v hj = part-set_at ws (block_at m t) (block_words m) (block_at m t + j) j v refl hj

pub raw_block-get : (m : Areas) (ws : List ℕ) (t j : ℕ) → j < (block_words m) → get_or ws (block_at m t + j) 0 ≡ get_or (raw_block m ws t) j 0
raw_block-get m ws t j hj = sym (part-get ws (block_at m t) (block_words m) j 0 hj)

pub length-raw_block : (m : Areas) (ws : List ℕ) (t : ℕ) → HasThread m t → length ws ≡ total_of m → length (raw_block m ws t) ≡ (block_words m)
length-raw_block m ws t ht h =
    let lt : t - 1 < m.threads = omega arith in
    simp (length-take, length-drop) (omega (arith, row_below m.threads (block_words m) (t - 1) ((block_words m) - 1) lt (omega arith)))

pub length-blocks : (m : Areas) (ws : List ℕ) → length (cells m ws).blocks ≡ m.threads
unfolding cells
length-blocks m ws = simp length-map (length-rows m.threads (block_words m) (drop (blocks_at m) ws))

-- a write in the page table
pub cells-set_page : (m : Areas) (ws : List ℕ) (p j v : ℕ) → HasPage m p → j < 2 → cells m (set ws (page_at m p + j) v) ≡ (let c = cells m ws in record c { table = row_set c.table (p) (j) v })
unfolding cells
cells-set_page m ws p j v hp hj =
    let i : ℕ = page_at m p + j in
    let k : ℕ = (p) * 2 + (j) in
    let e : i ≡ table_at m + k = omega arith in
    let lt : p < m.pages = omega arith in
    let lj : j < 2 = omega arith in
    let within : i < table_at m + 2 * m.pages = omega arith in
    rw (
      take-set-le HEAD_WORDS ws i v (omega arith),
      drop-set_at ws (blocks_at m) i (i - (blocks_at m)) v (omega arith),
      rows-set_past m.threads (block_words m) (drop (blocks_at m) ws) (i - (blocks_at m)) v (omega arith),
      drop-set_at ws (table_at m) i k v e,
      rows-set_at m.pages 2 (drop (table_at m) ws) (p) k (j) v refl lt lj,
      part-set_before ws (pool_at m) m.pages i v (omega arith),
      drop-set_before ws (all_readers_at m) i v (omega arith),
      part-set_before ws (sets_at m) (2 * heap_length m) i v (omega arith),
      part-set_before ws (scratch_at m) (scratch_length m) i v (omega arith),
      part-set_before ws (heap_at m) (heap_length m) i v (omega arith),
    )

pub cells-get_page : (m : Areas) (ws : List ℕ) (p j : ℕ) → HasPage m p → j < 2 → get_or ws (page_at m p + j) 0 ≡ get_or (row (cells m ws).table (p)) (j) 0
unfolding cells
cells-get_page m ws p j hp hj =
    let k : ℕ = (p) * 2 + (j) in
    let e : table_at m + k ≡ page_at m p + j = omega arith in
    let lt : p < m.pages = omega arith in
    let lj : j < 2 = omega arith in
    sym (rows-get m.pages 2 (drop (table_at m) ws) (p) (j) 0 lt lj ∙ get_or-drop (table_at m) ws k 0 ∙ ap (λ p. get_or ws p 0) e)

-- a write in the readers
pub cells-set_readers : (m : Areas) (ws : List ℕ) (t d v : ℕ) → HasRegion m t d → cells m (set ws (readers_at m t d) v) ≡ (let c = cells m ws in record c { readers = row_set c.readers (t - 1) (d - 1) v })
unfolding cells
cells-set_readers m ws t d v hr =
    let i : ℕ = readers_at m t d in
    let k : ℕ = (t - 1) * (max_depth m) + (d - 1) in
    let e : i ≡ all_readers_at m + k = omega arith in
    let lt : t - 1 < m.threads = omega arith in
    let lj : d - 1 < (max_depth m) = omega arith in
    let within : i < all_readers_at m + (max_depth m) * m.threads = omega (arith, row_below m.threads (max_depth m) (t - 1) (d - 1) lt lj) in
    rw (
      take-set-le HEAD_WORDS ws i v (omega arith),
      drop-set_at ws (blocks_at m) i (i - (blocks_at m)) v (omega arith),
      rows-set_past m.threads (block_words m) (drop (blocks_at m) ws) (i - (blocks_at m)) v (omega arith),
      drop-set_at ws (table_at m) i (i - (table_at m)) v (omega arith),
      rows-set_past m.pages 2 (drop (table_at m) ws) (i - (table_at m)) v (omega arith),
      part-set_past ws (pool_at m) m.pages i v (omega arith),
      drop-set_at ws (all_readers_at m) i k v e,
      rows-set_at m.threads (max_depth m) (drop (all_readers_at m) ws) (t - 1) k (d - 1) v refl lt lj,
      part-set_before ws (sets_at m) (2 * heap_length m) i v (omega arith),
      part-set_before ws (scratch_at m) (scratch_length m) i v (omega arith),
      part-set_before ws (heap_at m) (heap_length m) i v (omega arith),
    )

pub cells-get_readers : (m : Areas) (ws : List ℕ) (t d : ℕ) → HasRegion m t d → get_or ws (readers_at m t d) 0 ≡ get_or (row (cells m ws).readers (t - 1)) (d - 1) 0
unfolding cells
cells-get_readers m ws t d hr =
    let k : ℕ = (t - 1) * (max_depth m) + (d - 1) in
    let e : all_readers_at m + k ≡ readers_at m t d = omega arith in
    let lt : t - 1 < m.threads = omega arith in
    let lj : d - 1 < (max_depth m) = omega arith in
    sym (rows-get m.threads (max_depth m) (drop (all_readers_at m) ws) (t - 1) (d - 1) 0 lt lj ∙ get_or-drop (all_readers_at m) ws k 0 ∙ ap (λ p. get_or ws p 0) e)

-- a write in the pool
pub cells-set_pool : (m : Areas) (ws : List ℕ) (k v : ℕ) → k < m.pages → cells m (set ws (pool_at m + k) v) ≡ (let c = cells m ws in record c { pool = set c.pool k v })
unfolding cells
cells-set_pool m ws k v h =
    let i : ℕ = pool_at m + k in
    rw (
      take-set-le HEAD_WORDS ws i v (omega arith),
      drop-set_at ws (blocks_at m) i (i - (blocks_at m)) v (omega arith),
      rows-set_past m.threads (block_words m) (drop (blocks_at m) ws) (i - (blocks_at m)) v (omega arith),
      drop-set_at ws (table_at m) i (i - (table_at m)) v (omega arith),
      rows-set_past m.pages 2 (drop (table_at m) ws) (i - (table_at m)) v (omega arith),
      part-set_at ws (pool_at m) m.pages i k v refl h,
      drop-set_before ws (all_readers_at m) i v (omega arith),
      part-set_before ws (sets_at m) (2 * heap_length m) i v (omega arith),
      part-set_before ws (scratch_at m) (scratch_length m) i v (omega arith),
      part-set_before ws (heap_at m) (heap_length m) i v (omega arith),
    )

pub cells-get_pool : (m : Areas) (ws : List ℕ) (k : ℕ) → k < m.pages → get_or ws (pool_at m + k) 0 ≡ get_or (cells m ws).pool k 0
unfolding cells
cells-get_pool m ws k h = sym (part-get ws (pool_at m) m.pages k 0 h)

-- a write in the sets
pub cells-set_sets : (m : Areas) (ws : List ℕ) (k v : ℕ) → k < (2 * heap_length m) → cells m (set ws (sets_at m + k) v) ≡ (let c = cells m ws in record c { sets = set c.sets k v })
unfolding cells
cells-set_sets m ws k v h =
    let i : ℕ = sets_at m + k in
    rw (
      take-set-le HEAD_WORDS ws i v (omega arith),
      drop-set_at ws (blocks_at m) i (i - (blocks_at m)) v (omega arith),
      rows-set_past m.threads (block_words m) (drop (blocks_at m) ws) (i - (blocks_at m)) v (omega arith),
      drop-set_at ws (table_at m) i (i - (table_at m)) v (omega arith),
      rows-set_past m.pages 2 (drop (table_at m) ws) (i - (table_at m)) v (omega arith),
      part-set_past ws (pool_at m) m.pages i v (omega arith),
      drop-set_at ws (all_readers_at m) i (i - (all_readers_at m)) v (omega arith),
      rows-set_past m.threads (max_depth m) (drop (all_readers_at m) ws) (i - (all_readers_at m)) v (omega arith),
      part-set_at ws (sets_at m) (2 * heap_length m) i k v refl h,
      part-set_before ws (scratch_at m) (scratch_length m) i v (omega arith),
      part-set_before ws (heap_at m) (heap_length m) i v (omega arith),
    )

pub cells-get_sets : (m : Areas) (ws : List ℕ) (k : ℕ) → k < (2 * heap_length m) → get_or ws (sets_at m + k) 0 ≡ get_or (cells m ws).sets k 0
unfolding cells
cells-get_sets m ws k h = sym (part-get ws (sets_at m) (2 * heap_length m) k 0 h)

-- a write in the heap
pub cells-set_heap : (m : Areas) (ws : List ℕ) (k v : ℕ) → k < (heap_length m) → cells m (set ws (heap_at m + k) v) ≡ (let c = cells m ws in record c { heap = set c.heap k v })
unfolding cells
cells-set_heap m ws k v h =
    let i : ℕ = heap_at m + k in
    rw (
      take-set-le HEAD_WORDS ws i v (omega arith),
      drop-set_at ws (blocks_at m) i (i - (blocks_at m)) v (omega arith),
      rows-set_past m.threads (block_words m) (drop (blocks_at m) ws) (i - (blocks_at m)) v (omega arith),
      drop-set_at ws (table_at m) i (i - (table_at m)) v (omega arith),
      rows-set_past m.pages 2 (drop (table_at m) ws) (i - (table_at m)) v (omega arith),
      part-set_past ws (pool_at m) m.pages i v (omega arith),
      drop-set_at ws (all_readers_at m) i (i - (all_readers_at m)) v (omega arith),
      rows-set_past m.threads (max_depth m) (drop (all_readers_at m) ws) (i - (all_readers_at m)) v (omega arith),
      part-set_past ws (sets_at m) (2 * heap_length m) i v (omega arith),
      part-set_past ws (scratch_at m) (scratch_length m) i v (omega arith),
      part-set_at ws (heap_at m) (heap_length m) i k v refl h,
    )

pub cells-get_heap : (m : Areas) (ws : List ℕ) (k : ℕ) → k < (heap_length m) → get_or ws (heap_at m + k) 0 ≡ get_or (cells m ws).heap k 0
unfolding cells
cells-get_heap m ws k h = sym (part-get ws (heap_at m) (heap_length m) k 0 h)

-- a write in the scratch area
pub cells-set_scratch : (m : Areas) (ws : List ℕ) (k v : ℕ) → k < scratch_length m → cells m (set ws (scratch_at m + k) v) ≡ (let c = cells m ws in record c { scratch = set c.scratch k v })
unfolding cells
cells-set_scratch m ws k v h =
    let i : ℕ = scratch_at m + k in
    rw (
      take-set-le HEAD_WORDS ws i v (omega arith),
      drop-set_at ws (blocks_at m) i (i - (blocks_at m)) v (omega arith),
      rows-set_past m.threads (block_words m) (drop (blocks_at m) ws) (i - (blocks_at m)) v (omega arith),
      drop-set_at ws (table_at m) i (i - (table_at m)) v (omega arith),
      rows-set_past m.pages 2 (drop (table_at m) ws) (i - (table_at m)) v (omega arith),
      part-set_past ws (pool_at m) m.pages i v (omega arith),
      drop-set_at ws (all_readers_at m) i (i - (all_readers_at m)) v (omega arith),
      rows-set_past m.threads (max_depth m) (drop (all_readers_at m) ws) (i - (all_readers_at m)) v (omega arith),
      part-set_past ws (sets_at m) (2 * heap_length m) i v (omega arith),
      part-set_at ws (scratch_at m) (scratch_length m) i k v refl h,
      part-set_before ws (heap_at m) (heap_length m) i v (omega arith),
    )

pub cells-get_scratch : (m : Areas) (ws : List ℕ) (k : ℕ) → k < scratch_length m → get_or ws (scratch_at m + k) 0 ≡ get_or (cells m ws).scratch k 0
unfolding cells
cells-get_scratch m ws k h = sym (part-get ws (scratch_at m) (scratch_length m) k 0 h)
