use Rattle.std.proofs.Common.{◌≡◌, ◌≤◌, ◌+◌}
use Rattle.heap_words.specs.Contents.{Sound}
use Rattle.relocation.specs.Moves.{heap_of, OnlyHeap, RunCopied}
use Rattle.relocation.proofs.moves.copy_down.Given as goal

abbrev pub invariant-loop-i : goal.invariant-loop-i
invariant-loop-i g l =
    let now = g.W.Words.words l.words in
    let was = g.W.Words.words l.fn.words in
    record {
      run : RunCopied (heap_of l.map was) (heap_of l.map now) l.from l.to l.i;
      only_heap : OnlyHeap l.map was now;
      sound : Sound l.map now;
      reads : g.W.Words.reads l.words ≤ g.W.Words.reads l.fn.words + l.i;
      base : g.W.Words.base l.words ≡ g.W.Words.base l.fn.words;
    }
