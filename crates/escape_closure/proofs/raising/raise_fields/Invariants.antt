use Rattle.std.proofs.Common.{◌≡◌, ◌≤◌, ◌+◌, ◌*◌}
use Rattle.epoch_lattice.specs.Lattice.{space_index}
use Rattle.heap_words.specs.Contents.{contents, Sound}
use Rattle.escape_closure.specs.Raising.{Ended, Raising, RaisesOn, IsDueAt, AreFieldsPaidTo}
use Rattle.escape_closure.proofs.raising.raise_fields.Given as goal

abbrev pub invariant-loop-f : goal.invariant-loop-f
invariant-loop-f g l = record {
  sound : Sound l.map (g.W.Words.words l.words);
  base : g.W.Words.base l.words ≡ g.W.Words.base l.fn.words;
  reads : g.W.Words.reads l.words ≤ g.W.Words.reads l.fn.words + (1 + 3 * l.f);
  raising : (e : Ended) → space_index e.region ≡ l.region → Raising l.map e (contents l.map (g.W.Words.words l.fn.words)) l.fn.tally → (a : IsDueAt e l.a l.fn.space) → RaisesOn l.map e (contents l.map (g.W.Words.words l.fn.words)) (contents l.map (g.W.Words.words l.words)) l.tally × AreFieldsPaidTo e (contents l.map (g.W.Words.words l.words)) l.a l.fn.space a l.f;
}
