use Rattle.std.proofs.Common.{◌≡◌}
use Rattle.heap_words.specs.Contents.{contents, Sound}
use Rattle.standing_calls.specs.Objects.{IsWritten}
use Rattle.heap_core.proofs.objects.write_object.Given as goal

abbrev pub invariant-loop-i : goal.invariant-loop-i
invariant-loop-i g l =
    let now = g.W.Words.words l.words in
    let was = g.W.Words.words l.fn.words in
    record {
      written : IsWritten (contents l.map was) (contents l.map now) l.a l.header l.name l.size l.i;
      sound : Sound l.map now;
      base : g.W.Words.base l.words ≡ g.W.Words.base l.fn.words;
    }
