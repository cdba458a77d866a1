use Rattle.std.proofs.Common.{◌≡◌, ◌≤◌, ◌+◌, ◌*◌}
use Rattle.heap_words.specs.Contents.{Sound, contents, stack_of, with_stack}
use Rattle.relocation.specs.Moves.{corrected_word, move_at}
use Rattle.yak_model.specs.Plans.{forward}
use Rattle.forwarding.proofs.StackSteps.{Done}
use Rattle.forwarding.proofs.stacks.correct_stack.Given as goal

abbrev pub invariant-loop-slot : goal.invariant-loop-slot
invariant-loop-slot g l =
    let was = contents l.map (g.W.Words.words l.fn.words) in
    let now = contents l.map (g.W.Words.words l.words) in
    record {
      slots : Done (corrected_word (forward l.plan.count (move_at was.scratch))) 0 (stack_of was l.thread) (stack_of now l.thread) l.slot;
      frame : now ≡ with_stack was l.thread (stack_of now l.thread);
      sound : Sound l.map (g.W.Words.words l.words);
      reads : g.W.Words.reads l.words ≤ g.W.Words.reads l.fn.words + 1 + 4 * l.slot;
      base : g.W.Words.base l.words ≡ g.W.Words.base l.fn.words;
    }
