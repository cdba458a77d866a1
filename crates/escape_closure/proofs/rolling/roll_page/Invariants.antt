use Rattle.std.proofs.Common.{◌≡◌, ◌≤◌, ◌-◌, ◌+◌, ◌*◌}
use Rattle.heap_words.specs.Map.{page_words}
use Rattle.heap_words.specs.Contents.{contents, Sound}
use Rattle.heap_walks.specs.Walked.{IsWalked}
use Rattle.escape_closure.specs.Rolls.{OnlyScratch, Aimed, AimsInside, Rolled, Grows, IsOnRoll}
use Rattle.escape_closure.proofs.rolling.roll_page.Given as goal

abbrev pub invariant-loop-offset : goal.invariant-loop-offset
invariant-loop-offset g l = record {
  sound : Sound l.map (g.W.Words.words l.words);
  base : g.W.Words.base l.words ≡ g.W.Words.base l.fn.words;
  reads : g.W.Words.reads l.words ≤ g.W.Words.reads l.fn.words + (1 + l.offset);
  frame : OnlyScratch (contents l.map (g.W.Words.words l.fn.words)) (contents l.map (g.W.Words.words l.words));
  within : l.offset ≤ l.used;
  rolled : (q : Aimed) → AimsInside l.map q → (r : Rolled q (contents l.map (g.W.Words.words l.fn.words)) (page_words l.map * l.page) l.fn.count) → (s : Grows q (contents l.map (g.W.Words.words l.words)) (page_words l.map * l.page + l.offset) l.count r.name l.fn.count) × IsWalked q.laid (IsOnRoll q s.roll.name l.count) l.page l.offset;
}

abbrev pub decreases-loop-offset : goal.decreases-loop-offset
decreases-loop-offset g l = l.used - l.offset
