use Rattle.std.proofs.Common.{◌≡◌, ◌≤◌, ◌+◌, ◌*◌, List, ℕ, get_or, sum_by, take}
use Rattle.heap_words.specs.Contents.{Sound, contents}
use Rattle.yak_model.specs.Plans.{forward}
use Rattle.relocation.specs.Moves.{Numbered, OnlyHeap, move_at}
use Rattle.forwarding.specs.Corrected.{RegionRuns}
use Rattle.forwarding.proofs.RegionSteps.{PagesDone}
use Rattle.forwarding.proofs.regions.correct_regions.Given as goal

abbrev pub invariant-loop-page : goal.invariant-loop-page
invariant-loop-page g l =
    let was = contents l.map (g.W.Words.words l.fn.words) in
    let now = contents l.map (g.W.Words.words l.words) in
    let moves = move_at was.scratch in
    record {
      pages : (r : RegionRuns l.map was l.plan.count moves) → PagesDone l.map (forward l.plan.count moves) was l.plan.count moves r now.heap l.page;
      only_heap : OnlyHeap l.map (g.W.Words.words l.fn.words) (g.W.Words.words l.words);
      plan : Numbered l.map now.heap l.plan.count moves;
      sound : Sound l.map (g.W.Words.words l.words);
      reads : g.W.Words.reads l.words ≤ g.W.Words.reads l.fn.words + 2 * l.page + 5 * sum_by (λ (r : List ℕ). get_or r 1 0) (take l.page was.table);
      base : g.W.Words.base l.words ≡ g.W.Words.base l.fn.words;
    }
