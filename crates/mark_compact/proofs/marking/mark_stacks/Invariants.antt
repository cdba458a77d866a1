use Rattle.std.proofs.Common.{◌≡◌, ◌≤◌, ◌<◌, ◌+◌, ◌*◌, ℕ, take}
use Rattle.heap_words.specs.Contents.{contents, Sound}
use Rattle.heap_walks.specs.Laid.{Laid}
use Rattle.mark_compact.specs.Marking.{Marking, GoesOn, IsStackMarked}
use Rattle.mark_compact.specs.Marked.{slots_used}
use Rattle.mark_compact.proofs.marking.mark_stacks.Given as goal

abbrev pub invariant-loop-t : goal.invariant-loop-t
invariant-loop-t g l = record {
  sound : Sound l.map (g.W.Words.words l.words);
  base : g.W.Words.base l.words ≡ g.W.Words.base l.fn.words;
  reads : g.W.Words.reads l.words ≤ g.W.Words.reads l.fn.words + (l.t + 3 * slots_used (take l.t (contents l.map (g.W.Words.words l.fn.words)).stacks));
  marking : (h : Laid) → Marking l.map h (contents l.map (g.W.Words.words l.fn.words)) l.fn.count → GoesOn l.map h (contents l.map (g.W.Words.words l.fn.words)) l.fn.count (contents l.map (g.W.Words.words l.words)) l.count × ((k : ℕ) → k < l.t → IsStackMarked h (contents l.map (g.W.Words.words l.words)) k);
}
