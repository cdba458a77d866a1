use Rattle.std.proofs.Common.{◌≡◌, ℕ, ◌+◌, ◌∷◌, ap, subst, sym, ◌∙◌}
use Rattle.heap_words.specs.Contents.{Contents, contents, with_head}
use Rattle.yak_model.specs.Stands.{PoolStands, claim_counter, free_pages}
use Rattle.region_pages.specs.Pages.{TableFits, with_claimed, with_entry}
use Rattle.region_pages.proofs.Shapes.{Shape, shape}
use Rattle.region_pages.proofs.Claims.{table-claimed, pool-claimed}
use Rattle.region_pages.proofs.claim.claim_page.Goals as goal

pub returns-in-Some-clause-table : goal.returns-in-Some-clause-table
returns-in-Some-clause-table g c =
    let m = c.args.map in
    let x = c.args.space in
    let page = c.in-Some.page in
    let old = contents m (g.W.Words.words c.args.words.now) in
    let s : Shape m old = shape m (g.W.Words.words c.args.words.now) c.requires.sound in
    let t = c.in-Some.ensures.taken in
    let claimed : contents m (g.W.Words.words c.set_entry.new.words) ≡ with_claimed old x page = c.set_entry.ensures.entry ∙ ap (λ (y : Contents). with_entry y page (c.index_of.result + 1) 0) t.4 ∙ ap (λ (i : ℕ). with_entry (with_head old 1 (claim_counter old.heads + 1)) page (i + 1) 0) c.index_of.ensures.index in
    subst (λ (y : Contents). TableFits m y.table) (sym claimed) (table-claimed m old.table page x s.table t.0 c.requires.space c.requires.table)

pub returns-in-Some-clause-pool : goal.returns-in-Some-clause-pool
returns-in-Some-clause-pool g c =
    let m = c.args.map in
    let x = c.args.space in
    let page = c.in-Some.page in
    let old = contents m (g.W.Words.words c.args.words.now) in
    let s : Shape m old = shape m (g.W.Words.words c.args.words.now) c.requires.sound in
    let t = c.in-Some.ensures.taken in
    let claimed : contents m (g.W.Words.words c.set_entry.new.words) ≡ with_claimed old x page = c.set_entry.ensures.entry ∙ ap (λ (y : Contents). with_entry y page (c.index_of.result + 1) 0) t.4 ∙ ap (λ (i : ℕ). with_entry (with_head old 1 (claim_counter old.heads + 1)) page (i + 1) 0) c.index_of.ensures.index in
    let taken = t.3 ∙ ap (λ (y : Contents). page ∷ free_pages y.heads y.pool) t.4 in
    subst (λ (y : Contents). PoolStands m y.heads y.pool y.table) (sym claimed) (pool-claimed m old.heads old.pool old.table page x s.heads s.table c.requires.pool t.2 taken)
