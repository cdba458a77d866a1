use Rattle.std.proofs.Props.{props}
use Rattle.std.proofs.Math.Logic.{∥∥₁_elim, ∥∥₁_map}
use Rattle.std.proofs.Common.{◌≡◌, arith, ap}
use Rattle.heap_words.specs.Contents.{contents}
use Rattle.heap_words.proofs.Contents.{length-heap, length-scratch}
use Rattle.heap_walks.specs.Laid.{Laid}
use Rattle.mark_compact.proofs.Stacks.{stack_still}
use Rattle.mark_compact.proofs.Costs.{tables_now}
use Rattle.mark_compact.specs.Marked.{words_used}
use Rattle.mark_compact.proofs.Pages.{page_still}
use Rattle.mark_compact.proofs.Whole.{laid, begins, marks_live}
use Rattle.mark_compact.proofs.marking.mark.Goals as goal

pub mark_stacks-held-requires-clause-some : goal.mark_stacks-held-requires-clause-some
mark_stacks-held-requires-clause-some g c =
    let m = c.args.map in
    let ws = g.W.Words.words c.args.words.now in
    let old = contents m ws in
    ∥∥₁_map c.requires.stands (λ q. (laid m old q.0 q.1, begins m old q.0 q.1 c.requires.sound.areas (length-heap m ws c.requires.sound.whole) (length-scratch m ws c.requires.sound.whole)))

pub mark_pages-begun-requires-clause-some : goal.mark_pages-begun-requires-clause-some
mark_pages-begun-requires-clause-some g c =
    let m = c.args.map in
    let ws = g.W.Words.words c.args.words.now in
    let old = contents m ws in
    ∥∥₁_map c.requires.stands (λ q.
    let h : Laid = laid m old q.0 q.1 in
    let first = begins m old q.0 q.1 c.requires.sound.areas (length-heap m ws c.requires.sound.whole) (length-scratch m ws c.requires.sound.whole) in
    (h, (c.mark_stacks-held.ensures.marking h first).0.marking))

pub drain-count-requires-clause-some : goal.drain-count-requires-clause-some
drain-count-requires-clause-some g c =
    let m = c.args.map in
    let ws = g.W.Words.words c.args.words.now in
    let old = contents m ws in
    ∥∥₁_map c.requires.stands (λ q.
    let h : Laid = laid m old q.0 q.1 in
    let first = begins m old q.0 q.1 c.requires.sound.areas (length-heap m ws c.requires.sound.whole) (length-scratch m ws c.requires.sound.whole) in
    (h, (c.mark_pages-begun.ensures.marking h (c.mark_stacks-held.ensures.marking h first).0.marking).0.marking))

pub overflow_cast-result : goal.overflow_cast-result
overflow_cast-result g c =
    let m = c.args.map in
    let ws = g.W.Words.words c.args.words.now in
    let old = contents m ws in
    ∥∥₁_elim c.requires.stands (hlevel props) (λ q.
    let h : Laid = laid m old q.0 q.1 in
    let first = begins m old q.0 q.1 c.requires.sound.areas (length-heap m ws c.requires.sound.whole) (length-scratch m ws c.requires.sound.whole) in
    let last = c.drain-count.ensures.marking h (c.mark_pages-begun.ensures.marking h (c.mark_stacks-held.ensures.marking h first).0.marking).0.marking in
    let fits = last.0.marking.fits in
    let areas = c.requires.sound.areas in
    omega (arith, fits, areas))

pub returns-clause-marked : goal.returns-clause-marked
returns-clause-marked g c s st =
    let m = c.args.map in
    let ws = g.W.Words.words c.args.words.now in
    let old = contents m ws in
    let h : Laid = laid m old s st in
    let first = begins m old s st c.requires.sound.areas (length-heap m ws c.requires.sound.whole) (length-scratch m ws c.requires.sound.whole) in
    let held = c.mark_stacks-held.ensures.marking h first in
    let begun = c.mark_pages-begun.ensures.marking h held.0.marking in
    let last = c.drain-count.ensures.marking h begun.0.marking in
    let a = contents m (g.W.Words.words c.mark_stacks-held.new.words) in
    let b = contents m (g.W.Words.words c.mark_pages-begun.new.words) in
    let d = contents m (g.W.Words.words c.drain-count.new.words) in
    marks_live m old d s st c.drain-count.result last.0.marking (length-heap m ws c.requires.sound.whole)
    (λ t lt. stack_still h b d _ _ t last.0.grows (stack_still h a b _ _ t begun.0.grows (held.1 t lt)))
    (λ p lt region. page_still h b d _ _ p last.0.grows (begun.1 p lt region))
    last.1

pub returns-clause-reads : goal.returns-clause-reads
returns-clause-reads g c =
    let m = c.args.map in
    let ws = g.W.Words.words c.args.words.now in
    let old = contents m ws in
    let a = contents m (g.W.Words.words c.mark_stacks-held.new.words) in
    let b = contents m (g.W.Words.words c.mark_pages-begun.new.words) in
    ∥∥₁_elim c.requires.stands (hlevel props) (λ q.
    let h : Laid = laid m old q.0 q.1 in
    let first = begins m old q.0 q.1 c.requires.sound.areas (length-heap m ws c.requires.sound.whole) (length-scratch m ws c.requires.sound.whole) in
    let held = (c.mark_stacks-held.ensures.marking h first).0.marking in
    let begun = (c.mark_pages-begun.ensures.marking h held).0.marking in
    let one : words_used a.table ≡ words_used old.table = ap words_used (tables_now m h old a first.among held.among) in
    let two : words_used b.table ≡ words_used old.table = ap words_used (tables_now m h old b first.among begun.among) in
    omega (arith, c.mark_stacks-held.ensures.reads, c.mark_pages-begun.ensures.reads, c.drain-count.ensures.reads, one, two))
