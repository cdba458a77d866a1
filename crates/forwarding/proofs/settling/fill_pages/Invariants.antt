use Rattle.std.proofs.Common.{◌≡◌, ◌≤◌, ◌+◌, ◌*◌}
use Rattle.heap_words.specs.Contents.{Sound, contents}
use Rattle.relocation.specs.Moves.{move_at}
use Rattle.forwarding.specs.Settled.{Filled}
use Rattle.forwarding.proofs.settling.fill_pages.Given as goal

abbrev pub invariant-loop-k : goal.invariant-loop-k
invariant-loop-k g l =
    let was = contents l.map (g.W.Words.words l.fn.words) in
    let now = contents l.map (g.W.Words.words l.words) in
    record {
      filled : Filled l.map was.heap was.table now.table l.k (move_at was.scratch);
      frame : now ≡ record was { table = now.table };
      sound : Sound l.map (g.W.Words.words l.words);
      reads : g.W.Words.reads l.words ≤ g.W.Words.reads l.fn.words + 4 * l.k;
      base : g.W.Words.base l.words ≡ g.W.Words.base l.fn.words;
    }
