use Rattle.std.proofs.Common.{◌≡◌, ◌≤◌, ◌*◌, take}
use Rattle.heap_words.specs.Map.{page_words}
use Rattle.heap_words.specs.Contents.{contents}
use Rattle.heap_core.specs.Callers.{words_used}
use Rattle.heap_picture.proofs.pages.words_used.Given as goal

abbrev pub invariant-loop-page : goal.invariant-loop-page
invariant-loop-page g l = record {
  words : g.W.Words.words l.words ≡ g.W.Words.words l.fn.words;
  base : g.W.Words.base l.words ≡ g.W.Words.base l.fn.words;
  most : l.used ≤ page_words l.map * l.page;
  used : l.used ≡ words_used (take l.page (contents l.map (g.W.Words.words l.fn.words)).table);
}
