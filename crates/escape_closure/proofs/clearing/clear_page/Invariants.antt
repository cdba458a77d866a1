use Rattle.std.proofs.Common.{◌≡◌, ◌≤◌, ◌-◌, ◌+◌}
use Rattle.heap_words.specs.Contents.{contents, Sound}
use Rattle.heap_walks.specs.Laid.{Laid, IsAmong}
use Rattle.heap_walks.specs.Walked.{IsWalked}
use Rattle.relocation.specs.Moves.{OnlyHeap}
use Rattle.escape_closure.specs.Cleared.{ClearsOn, IsClear}
use Rattle.escape_closure.proofs.clearing.clear_page.Given as goal

abbrev pub invariant-loop-offset : goal.invariant-loop-offset
invariant-loop-offset g l =
    let c = contents l.map (g.W.Words.words l.fn.words) in
    let d = contents l.map (g.W.Words.words l.words) in
    record {
      sound : Sound l.map (g.W.Words.words l.words);
      base : g.W.Words.base l.words ≡ g.W.Words.base l.fn.words;
      reads : g.W.Words.reads l.words ≤ g.W.Words.reads l.fn.words + (1 + l.offset);
      only_heap : OnlyHeap l.map (g.W.Words.words l.fn.words) (g.W.Words.words l.words);
      within : l.offset ≤ l.used;
      cleared : (h : Laid) → IsAmong l.map h c → ClearsOn l.map h c d × IsWalked h (IsClear h d) l.page l.offset;
    }

abbrev pub decreases-loop-offset : goal.decreases-loop-offset
decreases-loop-offset g l = l.used - l.offset
