use Rattle.std.proofs.Common.{◌≡◌, ◌≤◌, ◌+◌, ◌*◌, ℕ, List, eqb, count_by, get_or, take}
use Rattle.std.specs.List.{filter}
use Rattle.heap_words.specs.Map.{page_words}
use Rattle.heap_words.specs.Contents.{contents, Sound}
use Rattle.remember_sets.specs.Filed.{ChainsBecome, SetsHold, page_word, with_sets}
use Rattle.remember_sets.proofs.Outside.{past}
use Rattle.remember_sets.proofs.dropping.drop_slots_below.Given as goal

abbrev pub invariant-loop-page : goal.invariant-loop-page
invariant-loop-page g l =
    let was = contents l.map (g.W.Words.words l.fn.words) in
    let now = contents l.map (g.W.Words.words l.words) in
    record {
      sound : Sound l.map (g.W.Words.words l.words);
      base : g.W.Words.base l.words ≡ g.W.Words.base l.fn.words;
      sets : SetsHold l.map now;
      others : now ≡ with_sets was now;
      dropped : ChainsBecome l.map was now (λ _ slots. filter (past (λ a. eqb (page_word l.map was a) l.word) (page_words l.map) l.page) slots);
      reads : g.W.Words.reads l.words ≤ g.W.Words.reads l.fn.words + (l.page + 2 * (page_words l.map * count_by (λ (r : List ℕ). eqb (get_or r 0 0) l.word) (take l.page was.table)));
    }
