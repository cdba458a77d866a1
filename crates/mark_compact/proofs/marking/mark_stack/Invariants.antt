use Rattle.std.proofs.Common.{◌≡◌, ◌≤◌, ◌-◌, ◌+◌, ◌*◌}
use Rattle.heap_words.specs.Contents.{contents, Sound}
use Rattle.heap_walks.specs.Laid.{Laid}
use Rattle.mark_compact.specs.Marking.{Marking, GoesOn, IsStackFollowedTo}
use Rattle.mark_compact.proofs.marking.mark_stack.Given as goal

abbrev pub invariant-loop-s : goal.invariant-loop-s
invariant-loop-s g l = record {
  sound : Sound l.map (g.W.Words.words l.words);
  base : g.W.Words.base l.words ≡ g.W.Words.base l.fn.words;
  reads : g.W.Words.reads l.words ≤ g.W.Words.reads l.fn.words + (1 + 3 * l.s);
  marking : (h : Laid) → Marking l.map h (contents l.map (g.W.Words.words l.fn.words)) l.fn.count → GoesOn l.map h (contents l.map (g.W.Words.words l.fn.words)) l.fn.count (contents l.map (g.W.Words.words l.words)) l.count × IsStackFollowedTo h (contents l.map (g.W.Words.words l.words)) (l.thread - 1) l.s;
}
