use Rattle.std.proofs.Common.{◌≡◌, ◌≤◌, ◌+◌, ◌==◌, ℕ, List, count_by, take, slice_index}
use Rattle.heap_words.specs.Contents.{contents}
use Rattle.region_pages.proofs.counts.pages_with.Given as goal

abbrev pub invariant-loop-page : goal.invariant-loop-page
invariant-loop-page g l = record {
  words : g.W.Words.words l.words ≡ g.W.Words.words l.fn.words;
  base : g.W.Words.base l.words ≡ g.W.Words.base l.fn.words;
  reads : g.W.Words.reads l.words ≤ g.W.Words.reads l.fn.words + l.page;
  most : l.count ≤ l.page;
  count : l.count ≡ count_by (λ (r : List ℕ). slice_index r 0 == l.word) (take l.page (contents l.map (g.W.Words.words l.fn.words)).table);
}
