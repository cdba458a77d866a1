use Rattle.std.proofs.Common.{◌≡◌, ◌≤◌, ◌+◌, ◌*◌}
use Rattle.heap_words.specs.Contents.{Sound}
use Rattle.relocation.specs.Moves.{scratch_of}
use Rattle.relocation.specs.Moves.{heap_of, words_moved, OnlyHeap, move_at, Numbered}
use Rattle.yak_model.specs.Plans.{forward}
use Rattle.relocation.specs.Fields.{MovesCorrected}
use Rattle.relocation.proofs.fields.correct_moves.Given as goal

abbrev pub invariant-loop-k : goal.invariant-loop-k
invariant-loop-k g l =
    let now = g.W.Words.words l.words in
    let was = g.W.Words.words l.fn.words in
    let moves = move_at (scratch_of l.map was) in
    record {
      fields : MovesCorrected (forward l.plan.count moves) (heap_of l.map was) (heap_of l.map now) l.k moves;
      only_heap : OnlyHeap l.map was now;
      plan : Numbered l.map (heap_of l.map now) l.plan.count moves;
      sound : Sound l.map now;
      reads : g.W.Words.reads l.words ≤ g.W.Words.reads l.fn.words + 4 * words_moved (heap_of l.map was) l.k moves + 3 * l.k;
      base : g.W.Words.base l.words ≡ g.W.Words.base l.fn.words;
    }
