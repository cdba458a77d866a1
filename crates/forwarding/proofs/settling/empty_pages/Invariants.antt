use Rattle.std.proofs.Common.{◌≡◌, ◌≤◌, ◌+◌}
use Rattle.heap_words.specs.Contents.{Sound, contents}
use Rattle.forwarding.specs.Settled.{Emptied}
use Rattle.forwarding.proofs.settling.empty_pages.Given as goal

abbrev pub invariant-loop-page : goal.invariant-loop-page
invariant-loop-page g l =
    let was = contents l.map (g.W.Words.words l.fn.words) in
    let now = contents l.map (g.W.Words.words l.words) in
    record {
      emptied : Emptied l.slid was.table now.table l.next l.page;
      frame : now ≡ record was { table = now.table };
      sound : Sound l.map (g.W.Words.words l.words);
      reads : g.W.Words.reads l.words ≤ g.W.Words.reads l.fn.words + l.page;
      base : g.W.Words.base l.words ≡ g.W.Words.base l.fn.words;
    }
