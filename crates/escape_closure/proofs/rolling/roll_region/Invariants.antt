use Rattle.std.proofs.Common.{◌≡◌, ◌≤◌, ◌+◌, ◌*◌, take}
use Rattle.epoch_lattice.specs.Lattice.{space_index}
use Rattle.heap_words.specs.Map.{page_words}
use Rattle.heap_words.specs.Contents.{contents, Sound}
use Rattle.yak_model.specs.Stands.{pages_of}
use Rattle.region_pages.specs.Counts.{used_of}
use Rattle.escape_closure.specs.Rolls.{OnlyScratch, Aimed, AimsInside, Rolled, ArePagesRolled}
use Rattle.escape_closure.proofs.rolling.roll_region.Given as goal

abbrev pub invariant-loop-page : goal.invariant-loop-page
invariant-loop-page g l = record {
  sound : Sound l.map (g.W.Words.words l.words);
  base : g.W.Words.base l.words ≡ g.W.Words.base l.fn.words;
  frame : OnlyScratch (contents l.map (g.W.Words.words l.fn.words)) (contents l.map (g.W.Words.words l.words));
  rolled : (q : Aimed) → space_index q.region ≡ l.region → AimsInside l.map q → q.words ≡ contents l.map (g.W.Words.words l.fn.words) → (s : Rolled q (contents l.map (g.W.Words.words l.words)) (page_words l.map * l.page) l.count) × ArePagesRolled q s.name l.count l.page × (g.W.Words.reads l.words ≤ g.W.Words.reads l.fn.words + (l.page + pages_of (take l.page q.words.table) q.region + used_of (take l.page q.words.table) q.region));
}
