use Rattle.std.proofs.Common.{◌≡◌, ℕ, ◌+◌, ◌-◌, ◌*◌, ◌≤◌, List, [], ◌∷◌, take, replicate, length, map, zero, suc, refl, ap, ◌∙◌, arith}
use Rattle.std.proofs.lemmas.List.{take-replicate, drop-replicate, length-replicate}
use Rattle.std.proofs.lemmas.List.Elements.{All-replicate}
use Rattle.heap_words.specs.declared.map.Areas.{Areas}
use Rattle.heap_words.specs.declared.TheConstants.{HEAD_WORDS, STACK_SLOTS, BUFFER_ENTRIES}
use Rattle.heap_words.specs.Map.{max_depth, block_words, scratch_length, IsAreas, blocks_at, table_at, pool_at, all_readers_at, sets_at, scratch_at, heap_at, heap_length, total_of}
use Rattle.heap_words.specs.Cells.{part, rows, Block, block_of, cells}
use Rattle.heap_words.specs.Contents.{contents, zero_contents, Sound}

rows-replicate : (k n N v : ℕ) → k * n ≤ N → rows k n (replicate N v) ≡ replicate k (replicate n v)
rows-replicate zero n N v h = refl
rows-replicate (suc k) n N v h =
    let le : n ≤ N = grind arith in
    let rest : k * n ≤ N - n = grind arith in
    rw (take-replicate n N v le, drop-replicate n N v, rows-replicate k n (N - n) v rest)

pub map-replicate : {X Y : Type 0} (f : X → Y) → (n : ℕ) (x : X) → map f (replicate n x) ≡ replicate n (f x)
map-replicate f zero x = refl
map-replicate f (suc n) x = ap (λ ys. f x ∷ ys) (map-replicate f n x)

part-replicate : (a n N v : ℕ) → a + n ≤ N → part a n (replicate N v) ≡ replicate n v
part-replicate a n N v h =
    let le : n ≤ N - a = omega arith in
    ap (take n) (drop-replicate a N v) ∙ take-replicate n (N - a) v le

pub contents-zero : (m : Areas) → contents m (replicate (total_of m) 0) ≡ zero_contents m
unfolding contents cells block_of
contents-zero m =
    let N : ℕ = total_of m in
    rw (
      take-replicate {X = ℕ} HEAD_WORDS N 0 (omega arith),
      drop-replicate {X = ℕ} (blocks_at m) N 0,
      rows-replicate m.threads (block_words m) (N - blocks_at m) 0 (omega arith),
      map-replicate (block_of m) m.threads (replicate (block_words m) 0),
      map-replicate (λ (b : Block). b.depth) m.threads (block_of m (replicate (block_words m) 0)),
      map-replicate (λ (b : Block). b.made) m.threads (block_of m (replicate (block_words m) 0)),
      map-replicate (λ (b : Block). b.stack) m.threads (block_of m (replicate (block_words m) 0)),
      map-replicate (λ (b : Block). b.buffer) m.threads (block_of m (replicate (block_words m) 0)),
      map-replicate (λ (b : Block). b.current) m.threads (block_of m (replicate (block_words m) 0)),
      map-replicate (λ (b : Block). b.firsts) m.threads (block_of m (replicate (block_words m) 0)),
      map-replicate (λ (b : Block). b.rest) m.threads (block_of m (replicate (block_words m) 0)),
      drop-replicate {X = ℕ} (table_at m) N 0,
      rows-replicate m.pages 2 (N - table_at m) 0 (omega arith),
      part-replicate (pool_at m) m.pages N 0 (omega arith),
      drop-replicate {X = ℕ} (all_readers_at m) N 0,
      rows-replicate m.threads (max_depth m) (N - all_readers_at m) 0 (omega arith),
      part-replicate (sets_at m) (2 * heap_length m) N 0 (omega arith),
      part-replicate (scratch_at m) (scratch_length m) N 0 (omega arith),
      part-replicate (heap_at m) (heap_length m) N 0 (omega arith),
    )

pub sound-zero : (m : Areas) → IsAreas m → Sound m (replicate (total_of m) 0)
sound-zero m h = record {
  areas = h;
  whole = length-replicate (total_of m) 0;
  limits = rw (contents-zero m) (record {
    depths = All-replicate (λ d. d ≤ (max_depth m)) m.threads 0 (omega arith);
    stacks = All-replicate (λ (st : List ℕ). length st ≤ STACK_SLOTS) m.threads [] (omega arith);
    buffers = All-replicate (λ (es : List ℕ). length es ≤ BUFFER_ENTRIES) m.threads [] (omega arith);
  });
}
