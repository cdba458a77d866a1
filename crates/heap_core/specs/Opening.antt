-- The words of a heap that has just been made.
use Rattle.std.specs.Prelude.{◌≡◌, ℕ, ◌-◌, ◌+◌, ◌<◌, List, [], ◌∷◌, replicate, slice_set, slice_index}
use Rattle.object_layout.specs.Layout.{header_word}
use Rattle.heap_words.specs.declared.map.Areas.{Areas}
use Rattle.heap_words.specs.Cells.{row_set}
use Rattle.heap_words.specs.Contents.{Contents, zero_contents}
use Rattle.region_pages.specs.declared.TheConstants.{POOL_LENGTH, SPACE_WORD, USED_MARK}
use Rattle.yak_model.specs.declared.TheConstants.{ROOT_FIELDS}
use Rattle.yak_model.specs.Room.{root_words}

-- What the opening words hold: the root at the front of page 0, to which each stack refers, and the pool of the other pages.
abbrev pub opened : Areas → List ℕ → Contents
opened m pool =
    record (zero_contents m) {
      heads = slice_set (zero_contents m).heads POOL_LENGTH (m.pages - 1);
      stacks = replicate m.threads (2 ∷ []);
      currents = row_set (zero_contents m).currents 0 0 1;
      table = row_set (row_set (zero_contents m).table 0 SPACE_WORD 1) 0 USED_MARK root_words;
      pool = pool;
      heap = slice_set (zero_contents m).heap 0 (header_word (record { fields = ROOT_FIELDS; space = 0 }));
    }

-- The pool's first entries are the pages from 1 on, in order.
abbrev pub Counts : ℕ → List ℕ → Type 0
Counts n pool = (k : ℕ) → k < n → slice_index pool k ≡ k + 1

-- The contents are those of a heap that has just been made, with the other pages in its pool in order.
abbrev pub IsOpened : Areas → Contents → Type 0
IsOpened m c = (pool : List ℕ) × (c ≡ opened m pool) × Counts (m.pages - 1) pool
