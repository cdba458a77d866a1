use Rattle.std.proofs.Common.{◌≡◌, ℕ, ◌-◌, ◌*◌, ◌≤◌, ◌<◌}
use Rattle.heap_words.specs.Map.{page_words}
use Rattle.heap_words.specs.Contents.{Contents, Sound, contents}
use Rattle.relocation.specs.Moves.{scratch_of}
use Rattle.relocation.specs.Moves.{move_at}
use Rattle.relocation.specs.Slide.{IsPageOf, object_at, Runs, Sliding}
use Rattle.relocation.proofs.slides.plan_page.Given as goal

abbrev pub invariant-loop-a : goal.invariant-loop-a
invariant-loop-a g l =
    let now = g.W.Words.words l.words in
    let first = g.W.Words.words l.fn.words in
    record {
      sliding : (was : Contents) (runs : Runs l.map l.slid was) → Sliding l.map l.slid was runs (contents l.map first) l.fn.plan.count (move_at (scratch_of l.map first)) l.fn.cursor.next l.fn.cursor.room (page_words l.map * l.page) → IsPageOf l.slid was.table l.page → Sliding l.map l.slid was runs (contents l.map now) l.plan.count (move_at (scratch_of l.map now)) l.cursor.next l.cursor.room l.a;
      reached : (was : Contents) (runs : Runs l.map l.slid was) → Sliding l.map l.slid was runs (contents l.map first) l.fn.plan.count (move_at (scratch_of l.map first)) l.fn.cursor.next l.fn.cursor.room (page_words l.map * l.page) → (h : l.page < l.map.pages) → (control : IsPageOf l.slid was.table l.page) → (j : ℕ) × (j ≤ (runs l.page h control).objects) × (l.a ≡ object_at l.map was.heap l.page j);
      sound : Sound l.map now;
      base : g.W.Words.base l.words ≡ g.W.Words.base l.fn.words;
    }

abbrev pub decreases-loop-a : goal.decreases-loop-a
decreases-loop-a g l = l.end - l.a
