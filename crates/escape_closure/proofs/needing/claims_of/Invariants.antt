use Rattle.std.proofs.Common.{◌≡◌, ◌≤◌, ◌+◌, ◌*◌, ℕ}
use Rattle.heap_words.specs.Map.{heap_length}
use Rattle.heap_words.specs.Contents.{contents, Sound}
use Rattle.escape_closure.specs.Rolls.{Aimed, AimsInside, Rolled}
use Rattle.escape_closure.specs.Placing.{OnlyRooms, RoomsStand, filling, index_on, size_on}
use Rattle.escape_closure.proofs.needing.claims_of.Given as goal

abbrev pub invariant-loop-k : goal.invariant-loop-k
invariant-loop-k g l = record {
  sound : Sound l.map (g.W.Words.words l.words);
  base : g.W.Words.base l.words ≡ g.W.Words.base l.fn.words;
  reads : g.W.Words.reads l.words ≤ g.W.Words.reads l.fn.words + 4 * l.k;
  few : l.needed ≤ l.k;
  others : OnlyRooms l.map (contents l.map (g.W.Words.words l.fn.words)) (contents l.map (g.W.Words.words l.words));
  filled : (q : Aimed) → AimsInside l.map q → (r : Rolled q (contents l.map (g.W.Words.words l.fn.words)) (heap_length l.map) l.count) → (rooms : ℕ → ℕ) → RoomsStand l.map (contents l.map (g.W.Words.words l.fn.words)) rooms → (l.needed ≡ (filling l.map rooms (index_on q (contents l.map (g.W.Words.words l.fn.words)) (heap_length l.map) l.count r) (size_on q (contents l.map (g.W.Words.words l.fn.words)) (heap_length l.map) l.count r) l.k).claimed) × RoomsStand l.map (contents l.map (g.W.Words.words l.words)) (filling l.map rooms (index_on q (contents l.map (g.W.Words.words l.fn.words)) (heap_length l.map) l.count r) (size_on q (contents l.map (g.W.Words.words l.fn.words)) (heap_length l.map) l.count r) l.k).rooms;
}
