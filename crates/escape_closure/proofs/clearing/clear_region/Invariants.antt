use Rattle.std.proofs.Common.{◌≡◌, ◌≤◌, ◌+◌, ◌*◌, take}
use Rattle.epoch_lattice.specs.declared.Space.{Space}
use Rattle.epoch_lattice.specs.Lattice.{space_index}
use Rattle.heap_words.specs.Contents.{contents, Sound}
use Rattle.heap_walks.specs.Laid.{Laid, IsAmong}
use Rattle.relocation.specs.Moves.{OnlyHeap}
use Rattle.region_pages.specs.Counts.{used_of}
use Rattle.escape_closure.specs.Cleared.{ArePagesClear, ClearsOn}
use Rattle.escape_closure.proofs.clearing.clear_region.Given as goal

abbrev pub invariant-loop-page : goal.invariant-loop-page
invariant-loop-page g l =
    let c = contents l.map (g.W.Words.words l.fn.words) in
    let d = contents l.map (g.W.Words.words l.words) in
    record {
      sound : Sound l.map (g.W.Words.words l.words);
      base : g.W.Words.base l.words ≡ g.W.Words.base l.fn.words;
      only_heap : OnlyHeap l.map (g.W.Words.words l.fn.words) (g.W.Words.words l.words);
      reads : (x : Space) → space_index x ≡ l.region → g.W.Words.reads l.words ≤ g.W.Words.reads l.fn.words + (2 * l.page + used_of (take l.page c.table) x);
      cleared : (h : Laid) → IsAmong l.map h c → ClearsOn l.map h c d × ArePagesClear h d c.table l.region l.page;
    }
