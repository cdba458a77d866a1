-- How long the lists of the contents are.
use Rattle.std.proofs.Common.{◌≡◌, ℕ, ◌+◌, ◌-◌, ◌*◌, ◌≤◌, ◌<◌, List, length, drop, ap, ◌∙◌, arith, length-take, length-drop}
use Rattle.heap_words.specs.declared.map.Areas.{Areas}
use Rattle.heap_words.specs.declared.TheConstants.{HEAD_WORDS}
use Rattle.heap_words.specs.Map.{HasThread, total_of, table_at, max_depth, block_words}
use Rattle.heap_words.specs.Cells.{Block, row, raw_block, block_of, cells}
use Rattle.heap_words.specs.Contents.{Contents, contents, Sound}
use Rattle.heap_words.proofs.Rows.{length-row, length-rows}
use Rattle.heap_words.proofs.Cells.{length-raw_block, cells-block}
use Rattle.heap_words.proofs.Contents.{current-of_block, length-pool, length-currents}

pub record Shape (m : Areas) (c : Contents) : Type 0 where
  pub heads : length c.heads ≡ HEAD_WORDS
  pub pool : length c.pool ≡ m.pages
  pub table : length c.table ≡ m.pages
  pub entries : (p : ℕ) → p < m.pages → length (row c.table p) ≡ 2
  pub currents : length c.currents ≡ m.threads
  pub slots : (t : ℕ) → HasThread m t → length (row c.currents (t - 1)) ≡ max_depth m + 1

length-heads : (m : Areas) (ws : List ℕ) → length ws ≡ total_of m → length (contents m ws).heads ≡ HEAD_WORDS
unfolding contents cells
length-heads m ws h = simp length-take (omega arith)

length-table : (m : Areas) (ws : List ℕ) → length (contents m ws).table ≡ m.pages
unfolding contents cells
length-table m ws = length-rows m.pages 2 (drop (table_at m) ws)

length-entry : (m : Areas) (ws : List ℕ) (p : ℕ) → length ws ≡ total_of m → p < m.pages → length (row (contents m ws).table p) ≡ 2
unfolding contents cells
length-entry m ws p h lt =
    let long : m.pages * 2 ≤ length (drop (table_at m) ws) = omega (arith, length-drop (table_at m) ws) in
    length-row m.pages 2 (drop (table_at m) ws) p lt long

length-block_current : (m : Areas) (b : List ℕ) → length b ≡ block_words m → length (block_of m b).current ≡ max_depth m + 1
unfolding block_of
length-block_current m b h = simp (length-take, length-drop) (omega arith)

length-slots : (m : Areas) (ws : List ℕ) (t : ℕ) → length ws ≡ total_of m → HasThread m t → length (row (contents m ws).currents (t - 1)) ≡ max_depth m + 1
length-slots m ws t h ht = ap (λ (xs : List ℕ). length xs) (current-of_block m ws t ht) ∙ ap (λ (b : Block). length b.current) (cells-block m ws t ht) ∙ length-block_current m (raw_block m ws t) (length-raw_block m ws t ht h)

pub shape : (m : Areas) (ws : List ℕ) → Sound m ws → Shape m (contents m ws)
shape m ws s = record {
  heads = length-heads m ws s.whole;
  pool = length-pool m ws s.whole;
  table = length-table m ws;
  entries = λ p lt. length-entry m ws p s.whole lt;
  currents = length-currents m ws;
  slots = λ t ht. length-slots m ws t s.whole ht;
}
