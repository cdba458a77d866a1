use Rattle.std.proofs.Common.{◌≡◌, ◌≤◌}
use Rattle.heap_words.specs.Contents.{Sound, contents}
use Rattle.mark_compact.proofs.Tables.{FreedTo}
use Rattle.mark_compact.proofs.sliding.give_back.Given as goal

abbrev pub invariant-loop-page : goal.invariant-loop-page
invariant-loop-page g l =
    let now = g.W.Words.words l.words in
    let first = g.W.Words.words l.fn.words in
    record {
      freed : FreedTo l.map (contents l.map first) (contents l.map now) l.next l.page;
      range : l.next ≤ l.page;
      sound : Sound l.map now;
      base : g.W.Words.base l.words ≡ g.W.Words.base l.fn.words;
    }
