use Rattle.std.proofs.Common.{◌≡◌, ◌+◌, ◌-◌, ℕ, List, ap, sym, ◌∙◌, subst, arith}
use Rattle.heap_words.specs.Cells.{row_set}
use Rattle.heap_words.specs.Contents.{Contents, contents, with_current, with_head}
use Rattle.epoch_lattice.specs.declared.Space.TheVariants.{Region}
use Rattle.epoch_lattice.specs.Lattice.{space_index}
use Rattle.yak_model.specs.Placed.{space_word}
use Rattle.yak_model.specs.Stands.{CurrentsStand, PoolStands}
use Rattle.region_pages.specs.Pages.{TableFits}
use Rattle.yak_model.specs.Chains.{IsRegionOf}
use Rattle.region_pages.specs.Freeing.{freed_table, with_pool_rebuilt, with_released}
use Rattle.region_pages.proofs.Shapes.{Shape, shape}
use Rattle.region_pages.proofs.Released.{freed_free, table-freed, currents-freed, released_at, released_stands}
use Rattle.region_pages.proofs.freeing.release_used.Goals as goal

pub returns-clause-released : goal.returns-clause-released
returns-clause-released g c =
    let m = c.args.map in
    let t = c.in-Region.thread in
    let d = c.in-Region.depth in
    let word : ℕ = c.from.result + 1 in
    let old = contents m (g.W.Words.words c.args.words.now) in
    let s : Shape m old = shape m (g.W.Words.words c.args.words.now) c.requires.sound in
    let done : contents m (g.W.Words.words c.open_pool.new.words) ≡ with_pool_rebuilt (with_current (record old { table = freed_table word old.table }) t d 0) =
    c.open_pool.ensures.opened
    ∙ ap (λ (x : Contents). with_head (with_head x 1 0) 2 c.free_entries-free.result) (c.set_current.ensures.set ∙ ap (λ (x : Contents). with_current x t d 0) c.free_entries-free.ensures.freed)
    ∙ released_at m old t d word c.free_entries-free.result s.table c.free_entries-free.ensures.count in
    let is : word ≡ space_index (Region t d) + 1 = omega (arith, c.from.ensures, c.index_of.ensures.index) in
    done ∙ ap (λ (w : ℕ). with_pool_rebuilt (with_current (record old { table = freed_table w old.table }) t d 0)) is ∙ ap (with_released old) (sym c.in-Region.is)

pub returns-clause-pool : goal.returns-clause-pool
returns-clause-pool g c =
    let m = c.args.map in
    let t = c.in-Region.thread in
    let d = c.in-Region.depth in
    let word : ℕ = c.from.result + 1 in
    let old = contents m (g.W.Words.words c.args.words.now) in
    let s : Shape m old = shape m (g.W.Words.words c.args.words.now) c.requires.sound in
    let done : contents m (g.W.Words.words c.open_pool.new.words) ≡ with_pool_rebuilt (with_current (record old { table = freed_table word old.table }) t d 0) =
    c.open_pool.ensures.opened
    ∙ ap (λ (x : Contents). with_head (with_head x 1 0) 2 c.free_entries-free.result) (c.set_current.ensures.set ∙ ap (λ (x : Contents). with_current x t d 0) c.free_entries-free.ensures.freed)
    ∙ released_at m old t d word c.free_entries-free.result s.table c.free_entries-free.ensures.count in
    subst (λ (x : Contents). PoolStands m x.heads x.pool x.table) (sym done) (released_stands m old t d word s.table s.heads)

pub returns-clause-free : goal.returns-clause-free
returns-clause-free g c p =
    let m = c.args.map in
    let t = c.in-Region.thread in
    let d = c.in-Region.depth in
    let word : ℕ = space_index c.args.space + 1 in
    let old = contents m (g.W.Words.words c.args.words.now) in
    let new = contents m (g.W.Words.words c.open_pool.new.words) in
    let s : Shape m old = shape m (g.W.Words.words c.args.words.now) c.requires.sound in
    let is : c.from.result + 1 ≡ word = omega (arith, c.from.ensures, c.index_of.ensures.index ∙ sym (ap space_index c.in-Region.is)) in
    let table : new.table ≡ freed_table word old.table = ap (λ (x : Contents). x.table) c.open_pool.ensures.opened ∙ ap (λ (x : Contents). x.table) c.set_current.ensures.set ∙ ap (λ (x : Contents). x.table) c.free_entries-free.ensures.freed ∙ ap (λ (w : ℕ). freed_table w old.table) is in
    let here : ℕ = c.from.result + 1 in
    let done : new ≡ with_pool_rebuilt (with_current (record old { table = freed_table here old.table }) t d 0) =
    c.open_pool.ensures.opened
    ∙ ap (λ (x : Contents). with_head (with_head x 1 0) 2 c.free_entries-free.result) (c.set_current.ensures.set ∙ ap (λ (x : Contents). with_current x t d 0) c.free_entries-free.ensures.freed)
    ∙ released_at m old t d here c.free_entries-free.result s.table c.free_entries-free.ensures.count in
    let pool : PoolStands m new.heads new.pool new.table = subst (λ (x : Contents). PoolStands m x.heads x.pool x.table) (sym done) (released_stands m old t d here s.table s.heads) in
    let stands = pool.free p in (
      λ h.
          let f = stands.0 h in
          (f.0, (freed_free word old.table p (omega (arith, f.0, s.table))).0 (sym (ap (λ (t : List (List ℕ)). space_word t p) table) ∙ f.1)),
      λ h. stands.1 (h.0, ap (λ (t : List (List ℕ)). space_word t p) table ∙ (freed_free word old.table p (omega (arith, h.0, s.table))).1 h.1),
    )

pub returns-clause-table : goal.returns-clause-table
returns-clause-table g c fits =
    let m = c.args.map in
    let word : ℕ = c.from.result + 1 in
    let old = contents m (g.W.Words.words c.args.words.now) in
    let new = contents m (g.W.Words.words c.open_pool.new.words) in
    let s : Shape m old = shape m (g.W.Words.words c.args.words.now) c.requires.sound in
    let table : new.table ≡ freed_table word old.table = ap (λ (x : Contents). x.table) c.open_pool.ensures.opened ∙ ap (λ (x : Contents). x.table) c.set_current.ensures.set ∙ ap (λ (x : Contents). x.table) c.free_entries-free.ensures.freed in
    subst (TableFits m) (sym table) (table-freed m word old.table s.table fits)

pub returns-clause-currents : goal.returns-clause-currents
returns-clause-currents g c stands =
    let m = c.args.map in
    let t = c.in-Region.thread in
    let d = c.in-Region.depth in
    let word : ℕ = space_index (Region t d) + 1 in
    let old = contents m (g.W.Words.words c.args.words.now) in
    let new = contents m (g.W.Words.words c.open_pool.new.words) in
    let s : Shape m old = shape m (g.W.Words.words c.args.words.now) c.requires.sound in
    let region = subst (IsRegionOf m) c.in-Region.is c.requires.region in
    let is : c.from.result + 1 ≡ word = omega (arith, c.from.ensures, c.index_of.ensures.index) in
    let table : new.table ≡ freed_table word old.table = ap (λ (x : Contents). x.table) c.open_pool.ensures.opened ∙ ap (λ (x : Contents). x.table) c.set_current.ensures.set ∙ ap (λ (x : Contents). x.table) c.free_entries-free.ensures.freed ∙ ap (λ (w : ℕ). freed_table w old.table) is in
    let currents : new.currents ≡ row_set old.currents (t - 1) d 0 = ap (λ (x : Contents). x.currents) c.open_pool.ensures.opened ∙ ap (λ (x : Contents). x.currents) c.set_current.ensures.set ∙ ap (λ (x : Contents). row_set x.currents (t - 1) d 0) c.free_entries-free.ensures.freed in
    subst (λ (x : List (List ℕ)). CurrentsStand m x new.table) (sym currents) (subst (CurrentsStand m (row_set old.currents (t - 1) d 0)) (sym table) (currents-freed m old t d s c.requires.sound.areas region stands))
