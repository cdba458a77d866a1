use Rattle.std.proofs.Common.{◌≡◌, ◌+◌, ◌-◌, ◌≤◌, ◌<◌, arith}
use Rattle.std.proofs.lemmas.Bool.{cases_lt}
use Rattle.std.proofs.Math.Logic.{⊎_elim}
use Rattle.heap_words.specs.Contents.{contents}
use Rattle.relocation.proofs.SlidPages.{dense-taken}
use Rattle.relocation.proofs.slides.next_place.Goals as goal

pub returns-clause-nearest : goal.returns-clause-nearest
returns-clause-nearest g c less =
    let q = c.next_page-page in
    let some = c.requires.page less in
    let within : q.result < c.args.map.pages = ⊎_elim (λ (lt : some.0 < q.result). absurd (q.ensures.first some.0 some.3 lt some.2)) (λ (le : q.result ≤ some.0). omega (arith, some.1)) (cases_lt some.0 q.result) in
    let e : q.result + 1 - 1 ≡ q.result = omega arith in
    rw e (record { beyond = q.ensures.range.0; page = q.ensures.found within; none_between = q.ensures.first })

pub returns-clause-dense : goal.returns-clause-dense
returns-clause-dense g c w h =
    let m = c.args.map in
    let was = g.W.Words.words c.args.words.now in
    let q = c.next_page-page in
    let less = c.if-size-cursor.false in
    let some = c.requires.page less in
    let within : q.result < m.pages = ⊎_elim (λ (lt : some.0 < q.result). absurd (q.ensures.first some.0 some.3 lt some.2)) (λ (le : q.result ≤ some.0). omega (arith, some.1)) (cases_lt some.0 q.result) in
    rw c.page_words-2.ensures (dense-taken m c.args.slid (contents m was).table c.args.cursor.now.next q.result w c.args.cursor.now.room c.args.size h less c.requires.size q.ensures.range.0 q.ensures.first (q.ensures.found within))
