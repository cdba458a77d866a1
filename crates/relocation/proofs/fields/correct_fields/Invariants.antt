use Rattle.std.proofs.Common.{◌≡◌, ◌≤◌, ◌+◌, ◌*◌}
use Rattle.heap_words.specs.Contents.{Sound}
use Rattle.relocation.specs.Moves.{scratch_of}
use Rattle.relocation.specs.Moves.{heap_of, OnlyHeap, move_at, Numbered}
use Rattle.yak_model.specs.Plans.{forward}
use Rattle.relocation.specs.Fields.{FieldsCorrected}
use Rattle.relocation.proofs.fields.correct_fields.Given as goal

abbrev pub invariant-loop-f : goal.invariant-loop-f
invariant-loop-f g l =
    let now = g.W.Words.words l.words in
    let was = g.W.Words.words l.fn.words in
    record {
      fields : FieldsCorrected (forward l.plan.count (move_at (scratch_of l.map was))) (heap_of l.map was) (heap_of l.map now) l.a l.f;
      only_heap : OnlyHeap l.map was now;
      plan : Numbered l.map (heap_of l.map now) l.plan.count (move_at (scratch_of l.map was));
      sound : Sound l.map now;
      reads : g.W.Words.reads l.words + 11 ≤ g.W.Words.reads l.fn.words + 4 * l.f;
      base : g.W.Words.base l.words ≡ g.W.Words.base l.fn.words;
    }
