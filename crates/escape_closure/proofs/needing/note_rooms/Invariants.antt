use Rattle.std.proofs.Common.{◌≡◌, ◌≤◌, ◌<◌, ◌+◌, ◌*◌, ℕ, get_or}
use Rattle.heap_words.specs.Map.{heap_length}
use Rattle.heap_words.specs.Contents.{contents, Sound}
use Rattle.escape_closure.specs.Placing.{OnlyRooms, rooms_at}
use Rattle.escape_closure.proofs.needing.note_rooms.Given as goal

abbrev pub invariant-loop-index : goal.invariant-loop-index
invariant-loop-index g l = record {
  sound : Sound l.map (g.W.Words.words l.words);
  base : g.W.Words.base l.words ≡ g.W.Words.base l.fn.words;
  reads : g.W.Words.reads l.words ≤ g.W.Words.reads l.fn.words + 2 * l.index;
  others : OnlyRooms l.map (contents l.map (g.W.Words.words l.fn.words)) (contents l.map (g.W.Words.words l.words));
  rooms : (i : ℕ) → i < l.index → get_or (contents l.map (g.W.Words.words l.words)).scratch (heap_length l.map + i) 0 ≡ rooms_at l.map (contents l.map (g.W.Words.words l.fn.words)) l.thread i;
}
