use Rattle.std.proofs.Common.{◌≡◌, ◌≤◌, ◌+◌, ◌*◌}
use Rattle.heap_words.specs.Contents.{Sound}
use Rattle.relocation.specs.Moves.{heap_of, scratch_of, OnlyHeap, Moved, move_at, words_moved}
use Rattle.relocation.proofs.moves.move_all.Given as goal

abbrev pub invariant-loop-k : goal.invariant-loop-k
invariant-loop-k g l =
    let now = g.W.Words.words l.words in
    let was = g.W.Words.words l.fn.words in
    record {
      moved : Moved (heap_of l.map was) (heap_of l.map now) l.k (move_at (scratch_of l.map was));
      only_heap : OnlyHeap l.map was now;
      sound : Sound l.map now;
      reads : g.W.Words.reads l.words ≤ g.W.Words.reads l.fn.words + words_moved (heap_of l.map was) l.k (move_at (scratch_of l.map was)) + 4 * l.k;
      base : g.W.Words.base l.words ≡ g.W.Words.base l.fn.words;
    }
