use Rattle.std.proofs.Common.{◌≡◌, ◌++◌}
use Rattle.std.specs.List.{flat_map, range_with_len}
use Rattle.heap_words.specs.Contents.{contents}
use Rattle.heap_picture.specs.Pictures.{page_text}
use Rattle.heap_picture.proofs.picture.append_boxes.Given as goal

-- the boxes so far
abbrev pub invariant-loop-page : goal.invariant-loop-page
invariant-loop-page g l = record {
  words : g.W.Words.words l.words ≡ g.W.Words.words l.fn.words;
  base : g.W.Words.base l.words ≡ g.W.Words.base l.fn.words;
  text : l.text.items ≡ l.fn.text.items ++ flat_map (page_text l.map (contents l.map (g.W.Words.words l.fn.words)).table) (range_with_len 0 l.page);
}
