use Rattle.std.proofs.Common.{◌≡◌, ◌≤◌, ◌+◌, ◌*◌}
use Rattle.heap_words.specs.Contents.{Sound, contents}
use Rattle.relocation.specs.Moves.{move_at}
use Rattle.remember_sets.specs.Filed.{ChainsBecome, SetsHold, all_filed, with_sets}
use Rattle.forwarding.specs.Entering.{words_brought}
use Rattle.forwarding.specs.Slots.{slots_brought}
use Rattle.forwarding.proofs.recording.record_moved.Given as goal

abbrev pub invariant-loop-k : goal.invariant-loop-k
invariant-loop-k g l =
    let was = contents l.map (g.W.Words.words l.fn.words) in
    let now = contents l.map (g.W.Words.words l.words) in
    record {
      filed : ChainsBecome l.map was now (λ x slots. all_filed l.map was x (slots_brought was.heap l.k (move_at was.scratch)) slots);
      sets : SetsHold l.map now;
      others : now ≡ with_sets was now;
      sound : Sound l.map (g.W.Words.words l.words);
      reads : g.W.Words.reads l.words ≤ g.W.Words.reads l.fn.words + 6 * words_brought was.heap l.k (move_at was.scratch);
      base : g.W.Words.base l.words ≡ g.W.Words.base l.fn.words;
    }
