use Rattle.std.proofs.Common.{◌≡◌, ◌≤◌, length}
use Rattle.heap_words.specs.Contents.{contents, Sound}
use Rattle.region_pages.specs.Freeing.{free_below, pool_with}
use Rattle.region_pages.proofs.freeing.fill_behind.Given as goal

abbrev pub invariant-loop-page : goal.invariant-loop-page
invariant-loop-page g l = record {
  sound : Sound l.map (g.W.Words.words l.words);
  base : g.W.Words.base l.words ≡ g.W.Words.base l.fn.words;
  reads : g.W.Words.reads l.words ≡ g.W.Words.reads l.fn.words;
  most : l.k ≤ l.page;
  count : l.k ≡ length (free_below (contents l.map (g.W.Words.words l.fn.words)).table l.page);
  filled : contents l.map (g.W.Words.words l.words) ≡ (let c = contents l.map (g.W.Words.words l.fn.words) in record c { pool = pool_with (free_below c.table l.page) c.pool });
}
