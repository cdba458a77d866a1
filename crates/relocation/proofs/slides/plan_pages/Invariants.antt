use Rattle.std.proofs.Common.{◌≡◌, ◌*◌}
use Rattle.heap_words.specs.Map.{page_words}
use Rattle.heap_words.specs.Contents.{Sound, contents}
use Rattle.relocation.specs.Moves.{scratch_of}
use Rattle.relocation.specs.Moves.{move_at}
use Rattle.relocation.specs.Slide.{Runs, Sliding}
use Rattle.relocation.proofs.slides.plan_pages.Given as goal

abbrev pub invariant-loop-page : goal.invariant-loop-page
invariant-loop-page g l =
    let now = g.W.Words.words l.words in
    let first = g.W.Words.words l.fn.words in
    record {
      sliding : (runs : Runs l.map l.slid (contents l.map first)) → Sliding l.map l.slid (contents l.map first) runs (contents l.map now) l.plan.count (move_at (scratch_of l.map now)) l.cursor.next l.cursor.room (page_words l.map * l.page);
      sound : Sound l.map now;
      base : g.W.Words.base l.words ≡ g.W.Words.base l.fn.words;
    }
