use Rattle.std.proofs.Common.{◌≡◌, ◌≢◌, ◌≤◌, ◌<◌, ◌+◌, ◌*◌, ℕ}
use Rattle.heap_words.specs.declared.TheConstants.{STACK_SLOTS}
use Rattle.std.specs.Int.{IsBitSet}
use Rattle.epoch_lattice.specs.declared.Space.TheVariants.{Control}
use Rattle.epoch_lattice.specs.Lattice.{space_index}
use Rattle.heap_words.specs.Contents.{contents, Sound}
use Rattle.escape_closure.specs.Raising.{Ended, Raising, RaisesOn, IsStackPaid}
use Rattle.escape_closure.proofs.sources.raise_readers.Given as goal

abbrev pub invariant-loop-t : goal.invariant-loop-t
invariant-loop-t g l = record {
  sound : Sound l.map (g.W.Words.words l.words);
  base : g.W.Words.base l.words ≡ g.W.Words.base l.fn.words;
  raising : (e : Ended) → space_index e.region ≡ l.region → Raising l.map e (contents l.map (g.W.Words.words l.fn.words)) l.fn.tally → e.thread ≡ l.thread → RaisesOn l.map e (contents l.map (g.W.Words.words l.fn.words)) (contents l.map (g.W.Words.words l.words)) l.tally × ((t : ℕ) → t < l.t → t + 1 ≢ l.thread → IsBitSet l.readers t → IsStackPaid e (contents l.map (g.W.Words.words l.words)) t Control) × (g.W.Words.reads l.words ≤ g.W.Words.reads l.fn.words + (1 + 3 * STACK_SLOTS) * l.t);
}
