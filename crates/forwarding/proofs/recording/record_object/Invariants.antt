use Rattle.std.proofs.Common.{◌≡◌, ◌≤◌, ◌+◌, ◌*◌}
use Rattle.std.specs.List.{range_with_len}
use Rattle.object_layout.specs.declared.TheConstants.{OBJECT_WORDS}
use Rattle.heap_words.specs.Contents.{Sound, contents}
use Rattle.remember_sets.specs.Filed.{ChainsBecome, SetsHold, all_filed, with_sets}
use Rattle.forwarding.proofs.recording.record_object.Given as goal

abbrev pub invariant-loop-f : goal.invariant-loop-f
invariant-loop-f g l =
    let was = contents l.map (g.W.Words.words l.fn.words) in
    let now = contents l.map (g.W.Words.words l.words) in
    record {
      filed : ChainsBecome l.map was now (λ x slots. all_filed l.map was x (range_with_len (l.a + OBJECT_WORDS) l.f) slots);
      sets : SetsHold l.map now;
      others : now ≡ with_sets was now;
      sound : Sound l.map (g.W.Words.words l.words);
      reads : g.W.Words.reads l.words ≤ g.W.Words.reads l.fn.words + 1 + 6 * l.f;
      base : g.W.Words.base l.words ≡ g.W.Words.base l.fn.words;
    }
