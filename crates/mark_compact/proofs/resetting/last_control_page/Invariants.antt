use Rattle.std.proofs.Common.{◌≡◌}
use Rattle.heap_words.specs.Contents.{contents}
use Rattle.mark_compact.specs.Collecting.{IsLast}
use Rattle.mark_compact.proofs.resetting.last_control_page.Given as goal

abbrev pub invariant-loop-page : goal.invariant-loop-page
invariant-loop-page g l =
    let now = g.W.Words.words l.words in
    let first = g.W.Words.words l.fn.words in
    record {
      last : IsLast (contents l.map first).table l.page l.last;
      same : now ≡ first;
      base : g.W.Words.base l.words ≡ g.W.Words.base l.fn.words;
    }
