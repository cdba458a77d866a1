use Rattle.std.proofs.Common.{◌≡◌, ℕ, List, ap, sym, ◌∙◌, subst}
use Rattle.heap_words.specs.Contents.{Contents, contents, with_head}
use Rattle.yak_model.specs.Stands.{PoolStands, free_pages}
use Rattle.region_pages.specs.Freeing.{free_below, pool_with}
use Rattle.region_pages.proofs.Shapes.{Shape, shape}
use Rattle.region_pages.proofs.Freed.{rebuilt_at, rebuilt_free, rebuilt_stands}
use Rattle.region_pages.proofs.freeing.rebuild_pool.Goals as goal

pub returns-clause-rebuilt : goal.returns-clause-rebuilt
returns-clause-rebuilt g c =
    let m = c.args.map in
    let old = contents m (g.W.Words.words c.args.words.now) in
    let s : Shape m old = shape m (g.W.Words.words c.args.words.now) c.requires in
    let pages : List ℕ = free_below old.table m.pages in
    let filled : Contents = record old { pool = pool_with pages old.pool } in
    let new : contents m (g.W.Words.words c.open_pool.new.words) ≡ rebuilt_at m.pages old = c.open_pool.ensures.opened ∙ ap (λ (x : Contents). with_head (with_head x 1 0) 2 c.fill_pool-length.result) c.fill_pool-length.ensures.filled ∙ ap (λ (n : ℕ). with_head (with_head filled 1 0) 2 n) c.fill_pool-length.ensures.count in
    new ∙ ap (λ (n : ℕ). rebuilt_at n old) (sym s.table)

pub returns-clause-pool : goal.returns-clause-pool
returns-clause-pool g c =
    let m = c.args.map in
    let old = contents m (g.W.Words.words c.args.words.now) in
    let s : Shape m old = shape m (g.W.Words.words c.args.words.now) c.requires in
    let pages : List ℕ = free_below old.table m.pages in
    let filled : Contents = record old { pool = pool_with pages old.pool } in
    let new : contents m (g.W.Words.words c.open_pool.new.words) ≡ rebuilt_at m.pages old = c.open_pool.ensures.opened ∙ ap (λ (x : Contents). with_head (with_head x 1 0) 2 c.fill_pool-length.result) c.fill_pool-length.ensures.filled ∙ ap (λ (n : ℕ). with_head (with_head filled 1 0) 2 n) c.fill_pool-length.ensures.count in
    subst (λ (x : Contents). PoolStands m x.heads x.pool x.table) (sym new) (rebuilt_stands m old.heads old.pool old.table s.heads)

pub returns-clause-free : goal.returns-clause-free
returns-clause-free g c =
    let m = c.args.map in
    let old = contents m (g.W.Words.words c.args.words.now) in
    let s : Shape m old = shape m (g.W.Words.words c.args.words.now) c.requires in
    let pages : List ℕ = free_below old.table m.pages in
    let filled : Contents = record old { pool = pool_with pages old.pool } in
    let new : contents m (g.W.Words.words c.open_pool.new.words) ≡ rebuilt_at m.pages old = c.open_pool.ensures.opened ∙ ap (λ (x : Contents). with_head (with_head x 1 0) 2 c.fill_pool-length.result) c.fill_pool-length.ensures.filled ∙ ap (λ (n : ℕ). with_head (with_head filled 1 0) 2 n) c.fill_pool-length.ensures.count in
    subst (λ (x : Contents). free_pages x.heads x.pool ≡ free_below x.table m.pages) (sym new) (rebuilt_free old.heads pages old.pool s.heads)
