use Rattle.std.proofs.Common.{◌≡◌}
use Rattle.heap_words.specs.Contents.{Sound, contents}
use Rattle.relocation.specs.Moves.{move_at}
use Rattle.remember_sets.specs.Filed.{ChainsBecome, SetsHold, with_sets}
use Rattle.forwarding.specs.Slots.{followed}
use Rattle.forwarding.proofs.following.follow_moves.Given as goal

abbrev pub invariant-loop-k : goal.invariant-loop-k
invariant-loop-k g l =
    let was = contents l.map (g.W.Words.words l.fn.words) in
    let now = contents l.map (g.W.Words.words l.words) in
    record {
      moved : ChainsBecome l.map was now (λ _ slots. followed was.heap l.k (move_at was.scratch) slots);
      sets : SetsHold l.map now;
      others : now ≡ with_sets was now;
      sound : Sound l.map (g.W.Words.words l.words);
      base : g.W.Words.base l.words ≡ g.W.Words.base l.fn.words;
    }
