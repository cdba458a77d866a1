use Rattle.std.proofs.Common.{arith, ap, subst}
use Rattle.heap_words.specs.Contents.{contents}
use Rattle.mark_compact.specs.Marking.{Marking, GoesOn, IsPageMarked}
use Rattle.mark_compact.proofs.marking.mark_where_regional.Goals as goal

pub mark_page-requires-clause-region : goal.mark_page-requires-clause-region
mark_page-requires-clause-region g c =
    rw c.get_page-space.ensures.words (omega (arith, c.get_page-space.ensures.value))

pub mark_page-requires-clause-some : goal.mark_page-requires-clause-some
mark_page-requires-clause-some g c = rw c.get_page-space.ensures.words c.requires.some

pub returns-clause-marking : goal.returns-clause-marking
returns-clause-marking g c h mk =
    let m = c.args.map in
    let old = contents m (g.W.Words.words c.args.words.now) in
    let new = contents m (g.W.Words.words c.mark_page.new.words) in
    let same = ap (contents m) c.get_page-space.ensures.words in
    let next : GoesOn m h old c.args.count new c.mark_page.result × IsPageMarked h new c.args.page =
    subst (λ x. Marking m h x c.args.count → GoesOn m h x c.args.count new c.mark_page.result × IsPageMarked h new c.args.page) same (c.mark_page.ensures.marking h) mk in
    (next.0, λ _. next.1)
