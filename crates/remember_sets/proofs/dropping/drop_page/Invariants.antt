use Rattle.std.proofs.Common.{◌≡◌, ◌≤◌, ◌+◌, ◌*◌}
use Rattle.std.specs.List.{filter}
use Rattle.heap_words.specs.Map.{page_words}
use Rattle.heap_words.specs.Contents.{contents, Sound}
use Rattle.remember_sets.specs.Filed.{ChainsBecome, SetsHold, with_sets}
use Rattle.remember_sets.proofs.Outside.{beyond}
use Rattle.remember_sets.proofs.dropping.drop_page.Given as goal

abbrev pub invariant-loop-k : goal.invariant-loop-k
invariant-loop-k g l =
    let was = contents l.map (g.W.Words.words l.fn.words) in
    let now = contents l.map (g.W.Words.words l.words) in
    record {
      sound : Sound l.map (g.W.Words.words l.words);
      base : g.W.Words.base l.words ≡ g.W.Words.base l.fn.words;
      sets : SetsHold l.map now;
      others : now ≡ with_sets was now;
      dropped : ChainsBecome l.map was now (λ _ slots. filter (beyond (page_words l.map * l.page) l.k) slots);
      reads : g.W.Words.reads l.words ≤ g.W.Words.reads l.fn.words + 2 * l.k;
    }
