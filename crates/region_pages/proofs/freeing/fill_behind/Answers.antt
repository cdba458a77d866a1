use Rattle.std.proofs.Common.{◌≡◌, ◌<◌, ◌+◌, ℕ, List, [], ◌∷◌, ◌++◌, length, set, refl, sym, ap, ◌∙◌, arith}
use Rattle.std.proofs.lemmas.List.{length_push}
use Rattle.heap_words.specs.Contents.{Contents, contents, with_pool}
use Rattle.yak_model.specs.Placed.{space_word}
use Rattle.region_pages.specs.Freeing.{free_below, pool_with}
use Rattle.region_pages.proofs.Shapes.{Shape, shape}
use Rattle.region_pages.proofs.Freed.{below_more_free, length-below_le, pool_more}
use Rattle.region_pages.proofs.freeing.fill_behind.Goals as goal

pub loop-page-init : goal.loop-page-init
loop-page-init g c =
    let m = c.args.map in
    let old = contents m (g.W.Words.words c.args.words.now) in
    record {
      sound = c.requires.sound;
      base = refl;
      reads = refl;
      most = omega (arith, c.requires.count, length-below_le old.table c.args.first);
      count = c.requires.count;
      filled = sym (ap (λ (xs : List ℕ). record old { pool = xs }) c.requires.begun);
    }

pub loop-page-preserved : goal.loop-page-preserved
loop-page-preserved g c =
    let m = c.args.map in
    let i = c.loop-page.page in
    let inv = c.loop-page.invariant in
    let old = contents m (g.W.Words.words c.args.words.now) in
    let s : Shape m old = shape m (g.W.Words.words c.args.words.now) c.requires.sound in
    let pages : List ℕ = free_below old.table i in
    let free : space_word old.table i ≡ 0 = c.requires.free i (omega arith) (omega arith) in
    let more = below_more_free old.table i free in
    let lt : length pages < length old.pool = omega (arith, inv.count, inv.most, s.pool) in
    let put : set (pool_with pages old.pool) c.loop-page.k c.from.result ≡ pool_with (free_below old.table (i + 1)) old.pool = ap (λ (k : ℕ). set (pool_with pages old.pool) k c.from.result) inv.count ∙ pool_more pages old.pool c.from.result lt ∙ ap (λ (v : ℕ). pool_with (pages ++ v ∷ []) old.pool) c.from.ensures ∙ ap (λ (xs : List ℕ). pool_with xs old.pool) (sym more) in
    record {
      sound = c.set_pool.ensures.sound;
      base = c.set_pool.ensures.base ∙ inv.base;
      reads = c.set_pool.ensures.reads ∙ inv.reads;
      most = omega (arith, inv.most);
      count = omega (arith, inv.count, ap (λ (xs : List ℕ). length xs) more, length_push pages i);
      filled = c.set_pool.ensures.set ∙ ap (λ (x : Contents). with_pool x c.loop-page.k c.from.result) inv.filled ∙ ap (λ (xs : List ℕ). record old { pool = xs }) put;
    }
