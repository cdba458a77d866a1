use Rattle.std.specs.Prelude.{◌≡◌, ℕ, ◌-◌, ◌≤◌, List, [], length, slice_index, slice_set, map, replicate, ◌+◌, ◌*◌}
use Rattle.std.specs.List.{All}
use Rattle.heap_words.specs.declared.map.Areas.{Areas}
use Rattle.heap_words.specs.declared.TheConstants.{HEAD_WORDS, STACK_SLOTS, BUFFER_ENTRIES}
use Rattle.heap_words.specs.Map.{IsAreas, max_depth, rest_words, scratch_length, heap_length, total_of}
use Rattle.heap_words.specs.Cells.{Block, Cells, cells, row, row_set}

-- what the words of a heap hold; the lists of the blocks' parts go by thread, from thread 1 on
pub record Contents : Type 0 where
  pub heads : List ℕ
  pub depths : List ℕ
  pub made : List ℕ
  -- the slots in use, as value words
  pub stacks : List (List ℕ)
  -- the store buffers' entries, as heap words
  pub buffers : List (List ℕ)
  -- the current pages, each plus 1 or 0: of Control, then of the region of each depth
  pub currents : List (List ℕ)
  -- the first slots of the chains of the threads' regions by depth, each plus 1, or 0
  pub firsts : List (List ℕ)
  pub rests : List (List ℕ)
  -- by page: the space's index plus 1 or 0, and the used mark
  pub table : List (List ℕ)
  pub pool : List ℕ
  pub readers : List (List ℕ)
  -- two words for each word of the pages, which link it to the next and to the former slot of its chain
  pub sets : List ℕ
  -- the scratch area, which has no meaning between calls
  pub scratch : List ℕ
  pub heap : List ℕ

-- the same with the blocks' parts as lists by thread
abbrev pub spread : Cells → Contents
spread c =
    record {
      heads = c.heads;
      depths = map (λ (b : Block). b.depth) c.blocks;
      made = map (λ (b : Block). b.made) c.blocks;
      stacks = map (λ (b : Block). b.stack) c.blocks;
      buffers = map (λ (b : Block). b.buffer) c.blocks;
      currents = map (λ (b : Block). b.current) c.blocks;
      firsts = map (λ (b : Block). b.firsts) c.blocks;
      rests = map (λ (b : Block). b.rest) c.blocks;
      table = c.table;
      pool = c.pool;
      readers = c.readers;
      sets = c.sets;
      scratch = c.scratch;
      heap = c.heap;
    }

-- what the words of a heap of a map hold
unfoldable pub contents : Areas → List ℕ → Contents
contents m ws = spread (cells m ws)

-- a thread's depth, number of objects made, stack, store buffer and current pages
abbrev pub depth_of : Contents → ℕ → ℕ
depth_of c t = slice_index c.depths (t - 1)

abbrev pub made_of : Contents → ℕ → ℕ
made_of c t = slice_index c.made (t - 1)

abbrev pub stack_of : Contents → ℕ → List ℕ
stack_of c t = row c.stacks (t - 1)

abbrev pub buffer_of : Contents → ℕ → List ℕ
buffer_of c t = row c.buffers (t - 1)

abbrev pub currents_of : Contents → ℕ → List ℕ
currents_of c t = row c.currents (t - 1)

-- the word of the first slot of a region's chain, and a region's readers word
abbrev pub first_of : Contents → ℕ → ℕ → ℕ
first_of c t d = slice_index (row c.firsts (t - 1)) (d - 1)

abbrev pub readers_of : Contents → ℕ → ℕ → ℕ
readers_of c t d = slice_index (row c.readers (t - 1)) (d - 1)

-- the contents with another depth, number made, stack or store buffer of a thread
abbrev pub with_depth : Contents → ℕ → ℕ → Contents
with_depth c t d = record c { depths = slice_set c.depths (t - 1) d }

abbrev pub with_made : Contents → ℕ → ℕ → Contents
with_made c t k = record c { made = slice_set c.made (t - 1) k }

abbrev pub with_stack : Contents → ℕ → List ℕ → Contents
with_stack c t st = record c { stacks = slice_set c.stacks (t - 1) st }

abbrev pub with_buffer : Contents → ℕ → List ℕ → Contents
with_buffer c t es = record c { buffers = slice_set c.buffers (t - 1) es }

-- the contents with one word of an area changed
abbrev pub with_current : Contents → ℕ → ℕ → ℕ → Contents
with_current c t d p = record c { currents = row_set c.currents (t - 1) d p }

abbrev pub with_first : Contents → ℕ → ℕ → ℕ → Contents
with_first c t d v = record c { firsts = row_set c.firsts (t - 1) (d - 1) v }

abbrev pub with_head : Contents → ℕ → ℕ → Contents
with_head c i v = record c { heads = slice_set c.heads i v }

abbrev pub with_page : Contents → ℕ → ℕ → ℕ → Contents
with_page c p j v = record c { table = row_set c.table p j v }

abbrev pub with_pool : Contents → ℕ → ℕ → Contents
with_pool c k v = record c { pool = slice_set c.pool k v }

abbrev pub with_readers : Contents → ℕ → ℕ → ℕ → Contents
with_readers c t d v = record c { readers = row_set c.readers (t - 1) (d - 1) v }

abbrev pub with_set : Contents → ℕ → ℕ → Contents
with_set c k v = record c { sets = slice_set c.sets k v }

abbrev pub with_scratch : Contents → ℕ → ℕ → Contents
with_scratch c k v = record c { scratch = slice_set c.scratch k v }

abbrev pub with_heap : Contents → ℕ → ℕ → Contents
with_heap c a v = record c { heap = slice_set c.heap a v }

-- the limits of the blocks
pub record InLimits (m : Areas) (c : Contents) : Type 0 where
  pub depths : All (λ d. d ≤ max_depth m) c.depths
  pub stacks : All (λ (st : List ℕ). length st ≤ STACK_SLOTS) c.stacks
  pub buffers : All (λ (es : List ℕ). length es ≤ BUFFER_ENTRIES) c.buffers

-- the words are those of a heap of this map, and its blocks are within the limits
pub record Sound (m : Areas) (ws : List ℕ) : Type 0 where
  pub areas : IsAreas m
  pub whole : length ws ≡ total_of m
  pub limits : InLimits m (contents m ws)

-- what words that are all 0 hold
abbrev pub zero_contents : Areas → Contents
zero_contents m =
    record {
      heads = replicate HEAD_WORDS 0;
      depths = replicate m.threads 0;
      made = replicate m.threads 0;
      stacks = replicate m.threads [];
      buffers = replicate m.threads [];
      currents = replicate m.threads (replicate (max_depth m + 1) 0);
      firsts = replicate m.threads (replicate (max_depth m) 0);
      rests = replicate m.threads (replicate (rest_words m) 0);
      table = replicate m.pages (replicate 2 0);
      pool = replicate m.pages 0;
      readers = replicate m.threads (replicate (max_depth m) 0);
      sets = replicate (2 * heap_length m) 0;
      scratch = replicate (scratch_length m) 0;
      heap = replicate (heap_length m) 0;
    }
