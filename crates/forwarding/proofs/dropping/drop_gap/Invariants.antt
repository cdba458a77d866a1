use Rattle.std.proofs.Common.{◌≡◌, ltb}
use Rattle.std.specs.List.{filter}
use Rattle.heap_words.specs.Contents.{Sound, contents}
use Rattle.remember_sets.specs.Filed.{ChainsBecome, SetsHold, page_word, with_sets}
use Rattle.forwarding.proofs.Gaps.{beside}
use Rattle.forwarding.proofs.dropping.drop_gap.Given as goal

abbrev pub invariant-loop-a : goal.invariant-loop-a
invariant-loop-a g l =
    let was = contents l.map (g.W.Words.words l.fn.words) in
    let now = contents l.map (g.W.Words.words l.words) in
    record {
      dropped : ChainsBecome l.map was now (λ _ slots. filter (beside (λ b. ltb (page_word l.map was b) 2) l.from l.a) slots);
      sets : SetsHold l.map now;
      others : now ≡ with_sets was now;
      sound : Sound l.map (g.W.Words.words l.words);
      base : g.W.Words.base l.words ≡ g.W.Words.base l.fn.words;
    }
