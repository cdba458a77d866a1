use Rattle.std.proofs.Common.{◌≡◌, ◌≤◌, ◌+◌, ◌*◌, ℕ, List, [], length, map, sum_by, take}
use Rattle.heap_words.specs.Contents.{Contents, Sound, contents}
use Rattle.relocation.specs.Moves.{corrected_word, move_at}
use Rattle.yak_model.specs.Plans.{forward}
use Rattle.forwarding.proofs.StackSteps.{Done}
use Rattle.forwarding.proofs.stacks.correct_stacks.Given as goal

abbrev pub invariant-loop-t : goal.invariant-loop-t
invariant-loop-t g l =
    let was : Contents = contents l.map (g.W.Words.words l.fn.words) in
    let now : Contents = contents l.map (g.W.Words.words l.words) in
    record {
      stacks : Done (map (corrected_word (forward l.plan.count (move_at was.scratch)))) [] was.stacks now.stacks l.t;
      frame : now ≡ record was { stacks = now.stacks };
      sound : Sound l.map (g.W.Words.words l.words);
      reads : g.W.Words.reads l.words ≤ g.W.Words.reads l.fn.words + l.t + 4 * sum_by (λ (st : List ℕ). length st) (take l.t was.stacks);
      base : g.W.Words.base l.words ≡ g.W.Words.base l.fn.words;
    }
