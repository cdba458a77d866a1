use Rattle.std.proofs.Common.{◌≡◌, ◌≤◌, ◌+◌, ◌*◌, ◌-◌}
use Rattle.epoch_lattice.specs.Lattice.{space_index}
use Rattle.heap_words.specs.Contents.{contents, Sound}
use Rattle.escape_closure.specs.Raising.{Ended, Raising, RaisesOn, IsStackDue, IsStackPaidTo}
use Rattle.escape_closure.proofs.sources.raise_stack.Given as goal

abbrev pub invariant-loop-s : goal.invariant-loop-s
invariant-loop-s g l = record {
  sound : Sound l.map (g.W.Words.words l.words);
  base : g.W.Words.base l.words ≡ g.W.Words.base l.fn.words;
  reads : g.W.Words.reads l.words ≤ g.W.Words.reads l.fn.words + (1 + 3 * l.s);
  raising : (e : Ended) → space_index e.region ≡ l.region → Raising l.map e (contents l.map (g.W.Words.words l.fn.words)) l.fn.tally → IsStackDue e (l.thread - 1) l.fn.space → RaisesOn l.map e (contents l.map (g.W.Words.words l.fn.words)) (contents l.map (g.W.Words.words l.words)) l.tally × IsStackPaidTo e (contents l.map (g.W.Words.words l.words)) (l.thread - 1) l.fn.space l.s;
}
