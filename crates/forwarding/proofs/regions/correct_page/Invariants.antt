use Rattle.std.proofs.Common.{◌≡◌, ◌≤◌, ◌+◌, ◌-◌, ◌*◌}
use Rattle.heap_words.specs.Contents.{Sound, contents}
use Rattle.yak_model.specs.Placed.{used_mark}
use Rattle.yak_model.specs.Plans.{forward}
use Rattle.relocation.specs.Moves.{Numbered, OnlyHeap, move_at}
use Rattle.forwarding.proofs.RegionSteps.{RowDone}
use Rattle.forwarding.proofs.regions.correct_page.Given as goal

abbrev pub invariant-loop-a : goal.invariant-loop-a
invariant-loop-a g l =
    let was = contents l.map (g.W.Words.words l.fn.words) in
    let now = contents l.map (g.W.Words.words l.words) in
    record {
      row : RowDone l.map (forward l.plan.count (move_at was.scratch)) was.heap now.heap l.page (used_mark was.table l.page) l.a;
      start : l.start ≤ l.a;
      only_heap : OnlyHeap l.map (g.W.Words.words l.fn.words) (g.W.Words.words l.words);
      plan : Numbered l.map now.heap l.plan.count (move_at was.scratch);
      sound : Sound l.map (g.W.Words.words l.words);
      reads : g.W.Words.reads l.words + 5 * l.start ≤ g.W.Words.reads l.fn.words + 1 + 5 * l.a;
      base : g.W.Words.base l.words ≡ g.W.Words.base l.fn.words;
    }

abbrev pub decreases-loop-a : goal.decreases-loop-a
decreases-loop-a g l = l.end - l.a
