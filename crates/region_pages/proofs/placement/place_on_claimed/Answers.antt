use Rattle.std.proofs.Common.{refl, ◌*◌, ◌∷◌, ◌≡◌, ℕ, ◌+◌, ◌≤◌, ap, subst, sym, ◌∙◌, arith}
use Rattle.heap_words.specs.Map.{page_words}
use Rattle.heap_words.specs.Cells.{row_set}
use Rattle.heap_words.specs.Contents.{Contents, contents, with_page, with_current}
use Rattle.yak_model.specs.Stands.{free_pages, PoolStands, CurrentsStand}
use Rattle.region_pages.specs.Pages.{TableFits}
use Rattle.region_pages.specs.Placement.{depth_in, IsPlacedOnClaimed, IsLastInPage}
use Rattle.region_pages.proofs.Shapes.{Shape, shape}
use Rattle.region_pages.proofs.Entries.{space-with_used}
use Rattle.region_pages.proofs.Claims.{free_page}
use Rattle.region_pages.proofs.Placing.{table-used, pool-spaces, currents-placed, claimed_word, is_last_front}
use Rattle.region_pages.proofs.placement.place_on_claimed.Goals as goal

pub returns-clause-table : goal.returns-clause-table
returns-clause-table g c =
    let m = c.args.map in
    let page = c.in_ok-page.page in
    let u = c.from.result in
    let claimed = contents m (g.W.Words.words c.claim_page.new.words) in
    let s : Shape m claimed = shape m (g.W.Words.words c.claim_page.new.words) c.claim_page.ensures.sound in
    let lt = c.in_ok-page.ensures.claimed.0 in
    let small : u ≤ page_words m = omega arith in
    let new : (contents m (g.W.Words.words c.set_current.new.words)).table ≡ row_set claimed.table page 1 u = ap (λ (y : Contents). y.table) c.set_current.ensures.set ∙ ap (λ (y : Contents). y.table) c.set_page.ensures.set in
    subst (TableFits m) (sym new) (table-used m claimed.table page u s.table lt (s.entries page lt) small c.claim_page.ensures.table)

pub returns-clause-pool : goal.returns-clause-pool
returns-clause-pool g c =
    let m = c.args.map in
    let page = c.in_ok-page.page in
    let u = c.from.result in
    let d = c.depth_of.result in
    let claimed = contents m (g.W.Words.words c.claim_page.new.words) in
    let new : contents m (g.W.Words.words c.set_current.new.words) ≡ with_current (with_page claimed page 1 u) c.args.thread d (c.from-2.result + 1) = c.set_current.ensures.set ∙ ap (λ (y : Contents). with_current y c.args.thread d (c.from-2.result + 1)) c.set_page.ensures.set in
    subst (λ (y : Contents). PoolStands m y.heads y.pool y.table) (sym new) (pool-spaces m claimed.heads claimed.pool claimed.table (row_set claimed.table page 1 u) (λ q. space-with_used claimed.table page q u) c.claim_page.ensures.pool)

pub returns-clause-currents : goal.returns-clause-currents
returns-clause-currents g c =
    let m = c.args.map in
    let x = c.args.space in
    let t = c.args.thread in
    let page = c.in_ok-page.page in
    let u = c.from.result in
    let old = contents m (g.W.Words.words c.args.words.now) in
    let claimed = contents m (g.W.Words.words c.claim_page.new.words) in
    let s : Shape m old = shape m (g.W.Words.words c.args.words.now) c.requires.sound in
    let s' : Shape m claimed = shape m (g.W.Words.words c.claim_page.new.words) c.claim_page.ensures.sound in
    let taken = c.in_ok-page.ensures.claimed in
    let free = free_page m old.heads old.pool old.table page _ c.requires.pool taken.1 in
    let value : c.from-2.result + 1 ≡ page + 1 = omega arith in
    let new : contents m (g.W.Words.words c.set_current.new.words) ≡ with_current (with_page claimed page 1 u) t (depth_in x) (page + 1) = c.set_current.ensures.set ∙ ap (λ (y : Contents). with_current y t c.depth_of.result (c.from-2.result + 1)) c.set_page.ensures.set ∙ ap (λ (d : ℕ). with_current (with_page claimed page 1 u) t d (c.from-2.result + 1)) c.depth_of.ensures ∙ ap (λ (v : ℕ). with_current (with_page claimed page 1 u) t (depth_in x) v) value in
    subst (λ (y : Contents). CurrentsStand m y.currents y.table) (sym new) (currents-placed m old claimed x t page u s s' c.requires.thread c.requires.space c.requires.own taken.0 free.1 c.requires.currents c.claim_page.ensures.currents taken.2)

pub returns-clause-placed : goal.returns-clause-placed
returns-clause-placed g c =
    let m = c.args.map in
    let x = c.args.space in
    let t = c.args.thread in
    let page = c.in_ok-page.page in
    let size = c.args.size in
    let old = contents m (g.W.Words.words c.args.words.now) in
    let claimed = contents m (g.W.Words.words c.claim_page.new.words) in
    let new = contents m (g.W.Words.words c.set_current.new.words) in
    let s : Shape m old = shape m (g.W.Words.words c.args.words.now) c.requires.sound in
    let s' : Shape m claimed = shape m (g.W.Words.words c.claim_page.new.words) c.claim_page.ensures.sound in
    let taken = c.in_ok-page.ensures.claimed in
    let value : c.from-2.result + 1 ≡ page + 1 = omega arith in
    let placed : new ≡ with_current (with_page claimed page 1 size) t (depth_in x) (page + 1) = c.set_current.ensures.set ∙ ap (λ (y : Contents). with_current y t c.depth_of.result (c.from-2.result + 1)) c.set_page.ensures.set ∙ ap (λ (u : ℕ). with_current (with_page claimed page 1 u) t c.depth_of.result (c.from-2.result + 1)) c.from.ensures ∙ ap (λ (d : ℕ). with_current (with_page claimed page 1 size) t d (c.from-2.result + 1)) c.depth_of.ensures ∙ ap (λ (v : ℕ). with_current (with_page claimed page 1 size) t (depth_in x) v) value in
    let P : ℕ → Type 0 = λ a. IsPlacedOnClaimed m old t x size a new × IsLastInPage m new.table x a size in
    let front : IsPlacedOnClaimed m old t x size (page_words m * page) new = record {
      page = page;
      free = taken.1 ∙ ap (λ (y : Contents). page ∷ free_pages y.heads y.pool) (sym placed);
      address = refl;
      changed = placed ∙ ap (λ (y : Contents). with_current (with_page y page 1 size) t (depth_in x) (page + 1)) taken.2;
    } in
    let last = subst (λ (y : Contents). IsLastInPage m y.table x (page_words m * page) size) (sym placed) (is_last_front m claimed.table x page size s'.table taken.0 (s'.entries page taken.0) (claimed_word m old claimed x page s taken.0 taken.2) c.requires.most) in
    let whole : P (page_words m * page) = (front, last) in
    subst (λ (w : ℕ). P (w * page)) (sym c.page_words.ensures) whole
