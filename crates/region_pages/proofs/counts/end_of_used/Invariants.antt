use Rattle.std.proofs.Common.{◌≡◌, ◌≤◌, ◌+◌, ◌-◌, length}
use Rattle.heap_words.specs.Contents.{contents}
use Rattle.region_pages.specs.Ends.{used_end}
use Rattle.region_pages.specs.Freeing.{free_below}
use Rattle.region_pages.proofs.counts.end_of_used.Given as goal

abbrev pub invariant-loop-left : goal.invariant-loop-left
invariant-loop-left g l =
    let table = (contents l.map (g.W.Words.words l.fn.words)).table in
    record {
      words : g.W.Words.words l.words ≡ g.W.Words.words l.fn.words;
      base : g.W.Words.base l.words ≡ g.W.Words.base l.fn.words;
      reads : g.W.Words.reads l.words ≤ g.W.Words.reads l.fn.words + l.page;
      most : l.page ≤ l.map.pages;
      count : l.left + l.page ≡ l.used + length (free_below table l.page);
      end : l.left ≡ 0 → used_end table l.page ≡ l.page;
    }

abbrev pub decreases-loop-left : goal.decreases-loop-left
decreases-loop-left g l = l.map.pages - l.page
