use Rattle.std.proofs.Common.{◌≡◌, ◌≤◌, ◌+◌, ◌*◌, take}
use Rattle.heap_words.specs.Contents.{contents, buffer_of, Sound}
use Rattle.remember_sets.specs.Filed.{ChainsBecome, SetsHold, all_filed, with_sets}
use Rattle.remember_sets.proofs.logging.file_buffer.Given as goal

abbrev pub invariant-loop-k : goal.invariant-loop-k
invariant-loop-k g l =
    let was = contents l.map (g.W.Words.words l.fn.words) in
    let now = contents l.map (g.W.Words.words l.words) in
    record {
      sound : Sound l.map (g.W.Words.words l.words);
      base : g.W.Words.base l.words ≡ g.W.Words.base l.fn.words;
      sets : SetsHold l.map now;
      others : now ≡ with_sets was now;
      filed : ChainsBecome l.map was now (λ x slots. all_filed l.map was x (take l.k (buffer_of was l.thread)) slots);
      reads : g.W.Words.reads l.words ≤ g.W.Words.reads l.fn.words + 1 + 7 * l.k;
    }
