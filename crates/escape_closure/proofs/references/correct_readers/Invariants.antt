use Rattle.std.proofs.Common.{◌≡◌, ◌≤◌, ◌+◌, ◌*◌}
use Rattle.heap_words.specs.declared.TheConstants.{STACK_SLOTS}
use Rattle.heap_words.specs.Contents.{contents, Sound}
use Rattle.yak_model.specs.Plans.{forward}
use Rattle.relocation.specs.Moves.{move_at}
use Rattle.escape_closure.specs.Referring.{ReadersCorrected}
use Rattle.escape_closure.proofs.references.correct_readers.Given as goal

abbrev pub invariant-loop-t : goal.invariant-loop-t
invariant-loop-t g l =
    let c = contents l.map (g.W.Words.words l.fn.words) in
    record {
      sound : Sound l.map (g.W.Words.words l.words);
      base : g.W.Words.base l.words ≡ g.W.Words.base l.fn.words;
      reads : g.W.Words.reads l.words ≤ g.W.Words.reads l.fn.words + (1 + 4 * STACK_SLOTS) * l.t;
      corrected : ReadersCorrected (forward l.plan.count (move_at c.scratch)) c (contents l.map (g.W.Words.words l.words)) l.thread l.readers 0 l.t;
    }
