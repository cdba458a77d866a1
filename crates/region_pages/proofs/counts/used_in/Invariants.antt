use Rattle.std.proofs.Common.{◌≡◌, ◌≤◌, ◌+◌, ◌*◌, sum_by, take}
use Rattle.heap_words.specs.Map.{page_words}
use Rattle.heap_words.specs.Contents.{contents}
use Rattle.region_pages.specs.Counts.{used_by}
use Rattle.region_pages.proofs.counts.used_in.Given as goal

abbrev pub invariant-loop-page : goal.invariant-loop-page
invariant-loop-page g l = record {
  words : g.W.Words.words l.words ≡ g.W.Words.words l.fn.words;
  base : g.W.Words.base l.words ≡ g.W.Words.base l.fn.words;
  reads : g.W.Words.reads l.words ≤ g.W.Words.reads l.fn.words + 2 * l.page;
  most : l.used ≤ page_words l.map * l.page;
  used : l.used ≡ sum_by (used_by l.fn.space) (take l.page (contents l.map (g.W.Words.words l.fn.words)).table);
}
