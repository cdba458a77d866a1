use Rattle.std.specs.Prelude.{ℕ, ◌+◌, ◌-◌, ◌*◌, ◌≤◌, ◌<◌, ◌≡◌, List, [], ◌∷◌}
use Rattle.heap_words.specs.declared.map.Areas.{Areas}
use Rattle.heap_words.specs.declared.TheConstants.{PAGE_WORDS, MAX_DEPTH, MAX_PAGES, MAX_THREADS, HEAD_WORDS, CURRENT_PAGES, STACK_SLOTS, BUFFER_ENTRIES, REST_WORDS, SCRATCH_MARGIN}

-- a map within the limits
abbrev pub IsAreas : Areas → Type 0
IsAreas m = (1 ≤ m.pages) × (m.pages ≤ MAX_PAGES) × (1 ≤ m.threads) × (m.threads ≤ MAX_THREADS)

-- the words of a page, and the greatest depth of a thread
abbrev pub page_words : Areas → ℕ
page_words m = PAGE_WORDS

abbrev pub max_depth : Areas → ℕ
max_depth m = MAX_DEPTH

-- a thread, a page and a region that a heap of the map has
abbrev pub HasThread : Areas → ℕ → Type 0
HasThread m thread = (1 ≤ thread) × (thread ≤ m.threads)

abbrev pub HasPage : Areas → ℕ → Type 0
HasPage m page = page < m.pages

abbrev pub HasRegion : Areas → ℕ → ℕ → Type 0
HasRegion m thread depth = (1 ≤ thread) × (thread ≤ m.threads) × (1 ≤ depth) × (depth ≤ max_depth m)

-- a thread's block: depth, number made and two lengths, the current pages, the stack's slots,
-- the store buffer's entries, the heads of the chains of the thread's regions, and a rest
abbrev pub stack_start : Areas → ℕ
stack_start m = CURRENT_PAGES + 1 + max_depth m

abbrev pub buffer_start : Areas → ℕ
buffer_start m = stack_start m + STACK_SLOTS

abbrev pub chains_start : Areas → ℕ
chains_start m = buffer_start m + BUFFER_ENTRIES

abbrev pub block_rest : Areas → ℕ
block_rest m = chains_start m + max_depth m

abbrev pub rest_words : Areas → ℕ
rest_words m = REST_WORDS

abbrev pub block_words : Areas → ℕ
block_words m = block_rest m + rest_words m

-- the words of all pages, and of the scratch area
abbrev pub heap_length : Areas → ℕ
heap_length m = page_words m * m.pages

abbrev pub scratch_length : Areas → ℕ
scratch_length m = heap_length m + SCRATCH_MARGIN

-- where each area begins: an area's beginning is the end of the one before
abbrev pub blocks_at : Areas → ℕ
blocks_at m = HEAD_WORDS

abbrev pub table_at : Areas → ℕ
table_at m = blocks_at m + block_words m * m.threads

abbrev pub pool_at : Areas → ℕ
pool_at m = table_at m + 2 * m.pages

abbrev pub all_readers_at : Areas → ℕ
all_readers_at m = pool_at m + m.pages

abbrev pub sets_at : Areas → ℕ
sets_at m = all_readers_at m + max_depth m * m.threads

abbrev pub scratch_at : Areas → ℕ
scratch_at m = sets_at m + 2 * heap_length m

abbrev pub heap_at : Areas → ℕ
heap_at m = scratch_at m + scratch_length m

-- the number of words
abbrev pub total_of : Areas → ℕ
total_of m = heap_at m + heap_length m

-- where a thread's block, a page's entry and a region's readers word stand
abbrev pub block_at : Areas → ℕ → ℕ
block_at m thread = blocks_at m + block_words m * (thread - 1)

abbrev pub page_at : Areas → ℕ → ℕ
page_at m page = table_at m + 2 * page

abbrev pub readers_at : Areas → ℕ → ℕ → ℕ
readers_at m thread depth = all_readers_at m + max_depth m * (thread - 1) + (depth - 1)

-- runs of words, each from a place on and so long, lie end to end from one place to another
abbrev pub Tile : List (ℕ × ℕ) → ℕ → ℕ → Type 0
Tile [] from to = from ≡ to
Tile (run ∷ runs) from to = (run.0 ≡ from) × Tile runs (from + run.1) to
