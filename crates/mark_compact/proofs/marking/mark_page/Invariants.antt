use Rattle.std.proofs.Common.{◌≡◌, ◌≤◌, ◌-◌, ◌+◌, ◌*◌}
use Rattle.heap_words.specs.Contents.{contents, Sound}
use Rattle.heap_walks.specs.Laid.{Laid}
use Rattle.mark_compact.specs.Marking.{Marking, GoesOn, IsPassed}
use Rattle.heap_walks.specs.Walked.{IsWalked}
use Rattle.mark_compact.proofs.marking.mark_page.Given as goal

abbrev pub invariant-loop-offset : goal.invariant-loop-offset
invariant-loop-offset g l = record {
  sound : Sound l.map (g.W.Words.words l.words);
  base : g.W.Words.base l.words ≡ g.W.Words.base l.fn.words;
  reads : g.W.Words.reads l.words ≤ g.W.Words.reads l.fn.words + (1 + 3 * l.offset);
  within : l.offset ≤ l.used;
  marking : (h : Laid) → Marking l.map h (contents l.map (g.W.Words.words l.fn.words)) l.fn.count → GoesOn l.map h (contents l.map (g.W.Words.words l.fn.words)) l.fn.count (contents l.map (g.W.Words.words l.words)) l.count × IsWalked h (IsPassed h (contents l.map (g.W.Words.words l.words))) l.page l.offset;
}

abbrev pub decreases-loop-offset : goal.decreases-loop-offset
decreases-loop-offset g l = l.used - l.offset
