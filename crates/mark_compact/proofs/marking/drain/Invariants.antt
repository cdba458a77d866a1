use Rattle.std.proofs.Common.{◌≡◌, ◌≤◌, ◌-◌}
use Rattle.heap_words.specs.Map.{heap_length}
use Rattle.heap_words.specs.Contents.{contents, Sound}
use Rattle.heap_walks.specs.Laid.{Laid}
use Rattle.mark_compact.specs.Marking.{Marking, GoesOn, AreListedScanned}
use Rattle.mark_compact.proofs.Costs.{Spent}
use Rattle.mark_compact.proofs.marking.drain.Given as goal

abbrev pub invariant-loop-next : goal.invariant-loop-next
invariant-loop-next g l = record {
  sound : Sound l.map (g.W.Words.words l.words);
  base : g.W.Words.base l.words ≡ g.W.Words.base l.fn.words;
  reached : l.next ≤ l.count;
  fits : l.count ≤ heap_length l.map;
  spent : (h : Laid) → Marking l.map h (contents l.map (g.W.Words.words l.fn.words)) l.fn.count → Spent h (contents l.map (g.W.Words.words l.words)) l.next (g.W.Words.reads l.fn.words) (g.W.Words.reads l.words);
  marking : (h : Laid) → Marking l.map h (contents l.map (g.W.Words.words l.fn.words)) l.fn.count → GoesOn l.map h (contents l.map (g.W.Words.words l.fn.words)) l.fn.count (contents l.map (g.W.Words.words l.words)) l.count × AreListedScanned h (contents l.map (g.W.Words.words l.words)) l.next;
}

abbrev pub decreases-loop-next : goal.decreases-loop-next
decreases-loop-next g l = heap_length l.map - l.next
