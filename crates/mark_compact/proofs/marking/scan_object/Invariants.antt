use Rattle.std.proofs.Common.{◌≡◌, ◌≤◌, ◌+◌, ◌*◌}
use Rattle.heap_words.specs.Contents.{contents, Sound}
use Rattle.heap_walks.specs.Laid.{Laid}
use Rattle.mark_compact.specs.Marking.{Marking, GoesOn, IsAliveAt, IsFollowedTo}
use Rattle.mark_compact.proofs.marking.scan_object.Given as goal

abbrev pub invariant-loop-f : goal.invariant-loop-f
invariant-loop-f g l = record {
  sound : Sound l.map (g.W.Words.words l.words);
  base : g.W.Words.base l.words ≡ g.W.Words.base l.fn.words;
  reads : g.W.Words.reads l.words ≤ g.W.Words.reads l.fn.words + (1 + 3 * l.f);
  marking : (h : Laid) → Marking l.map h (contents l.map (g.W.Words.words l.fn.words)) l.fn.count → (a : IsAliveAt h l.a) → GoesOn l.map h (contents l.map (g.W.Words.words l.fn.words)) l.fn.count (contents l.map (g.W.Words.words l.words)) l.count × IsFollowedTo h (contents l.map (g.W.Words.words l.words)) l.a a l.f;
}
