use Rattle.std.proofs.Common.{◌<◌, ◌+◌, ◌≢◌, ◌-◌, ◌*◌, length, ◌≡◌, ℕ, ◌≤◌, List, ap, subst, sym, ◌∙◌, arith}
use Rattle.heap_words.specs.Map.{page_words}
use Rattle.heap_words.specs.Cells.{row, row_set}
use Rattle.heap_words.specs.Contents.{Contents, contents, with_page}
use Rattle.epoch_lattice.specs.Lattice.{inner_of, space_index}
use Rattle.yak_model.specs.Placed.{space_word, used_mark}
use Rattle.yak_model.specs.Stands.{current, PoolStands, CurrentsStand}
use Rattle.region_pages.specs.Pages.{TableFits}
use Rattle.region_pages.specs.Placement.{IsPlacedInCurrent, IsLastInPage, with_used}
use Rattle.region_pages.proofs.Shapes.{Shape, shape}
use Rattle.region_pages.proofs.Entries.{space-with_used}
use Rattle.region_pages.proofs.Placing.{table-used, pool-spaces, currents-spaces, is_placed, is_last}
use Rattle.region_pages.proofs.placement.place_in_current.Goals as goal

pub returns-clause-table : goal.returns-clause-table
returns-clause-table g c =
    let m = c.args.map in
    let page = c.in_ok-page.page in
    let u = c.from-2.result in
    let old = contents m (g.W.Words.words c.args.words.now) in
    let s : Shape m old = shape m (g.W.Words.words c.args.words.now) c.requires.sound in
    let lt = c.in_ok-page.ensures.page.0 in
    let small : u ≤ page_words m = omega arith in
    let new : contents m (g.W.Words.words c.set_page.new.words) ≡ with_page old page 1 u = c.set_page.ensures.set ∙ ap (λ (ws : List ℕ). with_page (contents m ws) page 1 u) (c.get_page-used.ensures.words ∙ c.current_page.ensures.words) in
    subst (λ (y : Contents). TableFits m y.table) (sym new) (table-used m old.table page u s.table lt (s.entries page lt) small c.requires.table)

pub returns-clause-pool : goal.returns-clause-pool
returns-clause-pool g c =
    let m = c.args.map in
    let page = c.in_ok-page.page in
    let u = c.from-2.result in
    let old = contents m (g.W.Words.words c.args.words.now) in
    let new : contents m (g.W.Words.words c.set_page.new.words) ≡ with_page old page 1 u = c.set_page.ensures.set ∙ ap (λ (ws : List ℕ). with_page (contents m ws) page 1 u) (c.get_page-used.ensures.words ∙ c.current_page.ensures.words) in
    subst (λ (y : Contents). PoolStands m y.heads y.pool y.table) (sym new) (pool-spaces m old.heads old.pool old.table (row_set old.table page 1 u) (λ q. space-with_used old.table page q u) c.requires.pool)

pub returns-clause-currents : goal.returns-clause-currents
returns-clause-currents g c =
    let m = c.args.map in
    let page = c.in_ok-page.page in
    let u = c.from-2.result in
    let old = contents m (g.W.Words.words c.args.words.now) in
    let new : contents m (g.W.Words.words c.set_page.new.words) ≡ with_page old page 1 u = c.set_page.ensures.set ∙ ap (λ (ws : List ℕ). with_page (contents m ws) page 1 u) (c.get_page-used.ensures.words ∙ c.current_page.ensures.words) in
    subst (λ (y : Contents). CurrentsStand m y.currents y.table) (sym new) (currents-spaces m old.currents old.table (row_set old.table page 1 u) (λ q. space-with_used old.table page q u) c.requires.currents)

pub returns-clause-placed : goal.returns-clause-placed
returns-clause-placed g c =
    let m = c.args.map in
    let t = c.args.thread in
    let d = c.args.depth in
    let page = c.in_ok-page.page in
    let size = c.args.size in
    let used = c.get_page-used.result in
    let old = contents m (g.W.Words.words c.args.words.now) in
    let new = contents m (g.W.Words.words c.set_page.new.words) in
    let s : Shape m old = shape m (g.W.Words.words c.args.words.now) c.requires.sound in
    let there = c.in_ok-page.ensures.page in
    let ht = c.requires.thread in
    let mark : used ≡ used_mark old.table page = c.get_page-used.ensures.value ∙ ap (λ (ws : List ℕ). used_mark (contents m ws).table page) c.current_page.ensures.words in
    let fits : used + size ≤ page_words m = omega arith in
    let sum : c.from-2.result ≡ used + size = omega arith in
    let changed : new ≡ with_used old page (used + size) = c.set_page.ensures.set ∙ ap (λ (ws : List ℕ). with_page (contents m ws) page 1 c.from-2.result) (c.get_page-used.ensures.words ∙ c.current_page.ensures.words) ∙ ap (λ (v : ℕ). with_page old page 1 v) sum in
    let slot : d < length (row old.currents (t - 1)) = omega (arith, s.slots t ht, c.requires.depth) in
    let some : current old.currents t d ≢ 0 = omega (arith, there.1) in
    let at : page ≡ current old.currents t d - 1 = omega (arith, there.1) in
    let entered : space_word old.table page ≡ space_index (inner_of t d) + 1 = ap (λ (q : ℕ). space_word old.table q) at ∙ (c.requires.currents.belong t d ht.0 ht.1 slot some).1 in
    let P : ℕ → Type 0 = λ a. IsPlacedInCurrent m old t d size a new × IsLastInPage m new.table (inner_of t d) a size in
    let last = subst (λ (y : Contents). IsLastInPage m y.table (inner_of t d) (page_words m * page + used) size) (sym changed) (is_last m old.table (inner_of t d) page used size s.table there.0 (s.entries page there.0) entered fits) in
    let whole : P (page_words m * page + used) = (is_placed m old new t d size page used there.1 mark fits changed, last) in
    subst (λ (w : ℕ). P (w * page + used)) (sym c.page_words-2.ensures) whole
