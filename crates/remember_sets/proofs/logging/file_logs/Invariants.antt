use Rattle.std.proofs.Common.{◌≡◌, ◌≤◌, ◌+◌, ◌*◌, ℕ, List, take, length}
use Rattle.std.specs.List.{flat_map}
use Rattle.heap_words.specs.Contents.{contents, Sound}
use Rattle.remember_sets.specs.Filed.{ChainsBecome, SetsHold, all_filed}
use Rattle.remember_sets.proofs.Folded.{with_fewer_logs}
use Rattle.remember_sets.proofs.logging.file_logs.Given as goal

abbrev pub invariant-loop-t : goal.invariant-loop-t
invariant-loop-t g l =
    let was = contents l.map (g.W.Words.words l.fn.words) in
    let now = contents l.map (g.W.Words.words l.words) in
    record {
      sound : Sound l.map (g.W.Words.words l.words);
      base : g.W.Words.base l.words ≡ g.W.Words.base l.fn.words;
      sets : SetsHold l.map now;
      others : now ≡ with_fewer_logs l.t was now;
      filed : ChainsBecome l.map was now (λ x slots. all_filed l.map was x (flat_map (λ (es : List ℕ). es) (take l.t was.buffers)) slots);
      reads : g.W.Words.reads l.words ≤ g.W.Words.reads l.fn.words + l.t + 7 * length (flat_map (λ (es : List ℕ). es) (take l.t was.buffers));
    }
