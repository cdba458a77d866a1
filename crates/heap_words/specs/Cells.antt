use Rattle.std.specs.Prelude.{◌≡◌, ℕ, ◌+◌, ◌-◌, ◌*◌, ◌≤◌, List, [], ◌∷◌, take, drop, length, slice_index_or, slice_index, slice_set, zero, suc, map}
use Rattle.heap_words.specs.declared.map.Areas.{Areas}
use Rattle.heap_words.specs.declared.TheConstants.{HEAD_WORDS, DEPTH_WORD, MADE_WORD, STACK_LENGTH, BUFFER_LENGTH, CURRENT_PAGES, STACK_SLOTS, BUFFER_ENTRIES}
use Rattle.heap_words.specs.Map.{IsAreas, HasThread, block_words, stack_start, buffer_start, chains_start, block_rest, rest_words, max_depth, scratch_length, total_of, blocks_at, block_at, table_at, pool_at, all_readers_at, sets_at, scratch_at, heap_at, heap_length}

-- the part of a list that begins at a place
abbrev pub part : ℕ → ℕ → List ℕ → List ℕ
part at n xs = take n (drop at xs)

-- the first k rows of n words
abbrev pub rows : ℕ → ℕ → List ℕ → List (List ℕ)
rows zero n xs = []
rows (suc k) n xs = take n xs ∷ rows k n (drop n xs)

-- a row, empty where there is none
abbrev pub row : List (List ℕ) → ℕ → List ℕ
row rs k = slice_index_or rs k []

-- the rows with one word changed
abbrev pub row_set : List (List ℕ) → ℕ → ℕ → ℕ → List (List ℕ)
row_set rs k j v = slice_set rs k (slice_set (row rs k) j v)

-- what a thread's block holds
pub record Block : Type 0 where
  pub depth : ℕ
  pub made : ℕ
  -- the stack's slots in use, as value words
  pub stack : List ℕ
  -- the store buffer's entries, as heap words
  pub buffer : List ℕ
  -- the current pages, each plus 1 or 0: of Control, then of the region of each depth
  pub current : List ℕ
  -- the first slots of the chains of the thread's regions by depth, each plus 1, or 0
  pub firsts : List ℕ
  pub rest : List ℕ

-- what the words of a block hold
unfoldable pub block_of : Areas → List ℕ → Block
block_of m ws =
    record {
      depth = slice_index ws DEPTH_WORD;
      made = slice_index ws MADE_WORD;
      stack = part (stack_start m) (slice_index ws STACK_LENGTH) ws;
      buffer = part (buffer_start m) (slice_index ws BUFFER_LENGTH) ws;
      current = part CURRENT_PAGES (max_depth m + 1) ws;
      firsts = part (chains_start m) (max_depth m) ws;
      rest = part (block_rest m) (rest_words m) ws;
    }

-- the words of a thread's block
abbrev pub raw_block : Areas → List ℕ → ℕ → List ℕ
raw_block m ws t = part (block_at m t) (block_words m) ws

-- what the words of a heap hold, area by area
pub record Cells : Type 0 where
  pub heads : List ℕ
  pub blocks : List Block
  pub table : List (List ℕ)
  pub pool : List ℕ
  pub readers : List (List ℕ)
  pub sets : List ℕ
  pub scratch : List ℕ
  pub heap : List ℕ

-- the words of a heap, cut by its map
unfoldable pub cells : Areas → List ℕ → Cells
cells m ws =
    record {
      heads = take HEAD_WORDS ws;
      blocks = map (block_of m) (rows m.threads (block_words m) (drop (blocks_at m) ws));
      table = rows m.pages 2 (drop (table_at m) ws);
      pool = part (pool_at m) m.pages ws;
      readers = rows m.threads (max_depth m) (drop (all_readers_at m) ws);
      sets = part (sets_at m) (2 * heap_length m) ws;
      scratch = part (scratch_at m) (scratch_length m) ws;
      heap = part (heap_at m) (heap_length m) ws;
    }

-- what stands where there is no block
unfoldable pub no_block : Block
no_block = record { depth = 0; made = 0; stack = []; buffer = []; current = []; firsts = []; rest = [] }

-- the block of a thread, and the cells with another
abbrev pub block : Cells → ℕ → Block
block c t = slice_index_or c.blocks (t - 1) no_block

abbrev pub with_block : Cells → ℕ → Block → Cells
with_block c t b = record c { blocks = slice_set c.blocks (t - 1) b }

-- the limits of a block
abbrev pub IsBlock : Areas → Block → Type 0
IsBlock m b = (b.depth ≤ max_depth m) × (length b.stack ≤ STACK_SLOTS) × (length b.buffer ≤ BUFFER_ENTRIES)

-- the words are those of a heap of this map, and its blocks are within the limits
pub record SoundBlocks (m : Areas) (ws : List ℕ) : Type 0 where
  pub areas : IsAreas m
  pub whole : length ws ≡ total_of m
  pub limits : (t : ℕ) → HasThread m t → IsBlock m (block (cells m ws) t)
