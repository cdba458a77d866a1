use Rattle.std.proofs.Common.{◌≡◌, ◌≤◌, ◌+◌, ◌*◌}
use Rattle.heap_words.specs.Map.{heap_length}
use Rattle.heap_words.specs.Contents.{contents, Sound}
use Rattle.yak_model.specs.Stands.{CurrentsStand, PoolStands}
use Rattle.region_pages.specs.Pages.{TableFits}
use Rattle.relocation.specs.Moves.{heap_of, move_at, scratch_of, Numbered}
use Rattle.escape_closure.specs.Rolls.{Aimed, AimsInside, Rolled}
use Rattle.escape_closure.specs.Planning.{PlacedSoFar, TargetsExist, Underway}
use Rattle.escape_closure.proofs.planning.place_all.Given as goal

abbrev pub invariant-loop-k : goal.invariant-loop-k
invariant-loop-k g l = record {
  sound : Sound l.map (g.W.Words.words l.words);
  base : g.W.Words.base l.words ≡ g.W.Words.base l.fn.words;
  reads : g.W.Words.reads l.words ≤ g.W.Words.reads l.fn.words + 8 * l.k;
  planned : l.plan.count ≡ l.k;
  numbered : Numbered l.map (heap_of l.map (g.W.Words.words l.words)) l.plan.count (move_at (scratch_of l.map (g.W.Words.words l.words)));
  table : TableFits l.map (contents l.map (g.W.Words.words l.words)).table;
  pool : PoolStands l.map (contents l.map (g.W.Words.words l.words)).heads (contents l.map (g.W.Words.words l.words)).pool (contents l.map (g.W.Words.words l.words)).table;
  currents : CurrentsStand l.map (contents l.map (g.W.Words.words l.words)).currents (contents l.map (g.W.Words.words l.words)).table;
  underway : (q : Aimed) → AimsInside l.map q → TargetsExist l.map q → (r : Rolled q (contents l.map (g.W.Words.words l.fn.words)) (heap_length l.map) l.count) → Underway l.map q l.thread (contents l.map (g.W.Words.words l.fn.words)) l.count r (contents l.map (g.W.Words.words l.words)) l.k;
  so_far : (q : Aimed) → AimsInside l.map q → TargetsExist l.map q → (r : Rolled q (contents l.map (g.W.Words.words l.fn.words)) (heap_length l.map) l.count) → PlacedSoFar l.map q (contents l.map (g.W.Words.words l.fn.words)) l.count r (contents l.map (g.W.Words.words l.words)) l.k;
}
