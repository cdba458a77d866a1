use Rattle.std.proofs.Common.{◌≡◌, ℕ, ◌≤◌, ◌<◌}
use Rattle.heap_words.specs.Contents.{contents}
use Rattle.relocation.specs.Slide.{IsPageOf}
use Rattle.relocation.proofs.slides.next_page.Given as goal

abbrev pub invariant-loop-page : goal.invariant-loop-page
invariant-loop-page g l =
    record {
      words : g.W.Words.words l.words ≡ g.W.Words.words l.fn.words;
      base : g.W.Words.base l.words ≡ g.W.Words.base l.fn.words;
      range : (l.from ≤ l.page) × (l.page ≤ l.map.pages);
      none : (p : ℕ) → l.from ≤ p → p < l.page → IsPageOf l.slid (contents l.map (g.W.Words.words l.fn.words)).table p → ⊥;
    }
