use Rattle.std.proofs.Common.{◌≡◌, ◌+◌}
use Rattle.object_layout.specs.declared.TheConstants.{OBJECT_WORDS}
use Rattle.heap_words.specs.Contents.{Sound, contents}
use Rattle.remember_sets.specs.Filed.{ChainsBecome, SetsHold, with_sets}
use Rattle.forwarding.specs.Slots.{moved_run}
use Rattle.forwarding.proofs.following.follow_object.Given as goal

abbrev pub invariant-loop-f : goal.invariant-loop-f
invariant-loop-f g l =
    let was = contents l.map (g.W.Words.words l.fn.words) in
    let now = contents l.map (g.W.Words.words l.words) in
    record {
      moved : ChainsBecome l.map was now (λ _ slots. moved_run (l.old + OBJECT_WORDS) (l.new + OBJECT_WORDS) l.f slots);
      sets : SetsHold l.map now;
      others : now ≡ with_sets was now;
      sound : Sound l.map (g.W.Words.words l.words);
      base : g.W.Words.base l.words ≡ g.W.Words.base l.fn.words;
    }
