use Rattle.std.proofs.Common.{◌≡◌}
use Rattle.heap_words.specs.Contents.{contents, Sound}
use Rattle.mark_compact.specs.Collecting.{ControlPages}
use Rattle.mark_compact.proofs.resetting.set_control_pages.Given as goal

abbrev pub invariant-loop-t : goal.invariant-loop-t
invariant-loop-t g l =
    let now = g.W.Words.words l.words in
    let first = g.W.Words.words l.fn.words in
    record {
      pages : ControlPages (contents l.map first) (contents l.map now) l.thread l.fn.page l.t;
      sound : Sound l.map now;
      base : g.W.Words.base l.words ≡ g.W.Words.base l.fn.words;
    }
