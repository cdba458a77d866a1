use Rattle.std.proofs.Common.{◌≡◌, ◌≤◌, ◌+◌, ◌-◌, length}
use Rattle.heap_words.specs.Contents.{contents, Sound}
use Rattle.region_pages.specs.Ends.{used_end}
use Rattle.region_pages.specs.Freeing.{free_below, freed_table, pool_with}
use Rattle.region_pages.proofs.Freed.{freed_to}
use Rattle.region_pages.proofs.freeing.free_entries.Given as goal

abbrev pub invariant-loop-page : goal.invariant-loop-page
invariant-loop-page g l = record {
  sound : Sound l.map (g.W.Words.words l.words);
  base : g.W.Words.base l.words ≡ g.W.Words.base l.fn.words;
  reads : g.W.Words.reads l.words ≤ g.W.Words.reads l.fn.words + l.page;
  few : l.left ≡ 0 → g.W.Words.reads l.words ≤ g.W.Words.reads l.fn.words + used_end (contents l.map (g.W.Words.words l.fn.words)).table l.page;
  within : l.page ≤ l.map.pages;
  most : l.count ≤ l.page;
  left : l.left + l.page ≡ l.used + length (free_below (contents l.map (g.W.Words.words l.fn.words)).table l.page);
  count : l.count ≡ length (free_below (freed_table l.word (contents l.map (g.W.Words.words l.fn.words)).table) l.page);
  freed : contents l.map (g.W.Words.words l.words) ≡ (let c = contents l.map (g.W.Words.words l.fn.words) in record c { table = freed_to l.word c.table l.page; pool = pool_with (free_below (freed_table l.word c.table) l.page) c.pool });
}

abbrev pub decreases-loop-page : goal.decreases-loop-page
decreases-loop-page g l = l.map.pages - l.page
