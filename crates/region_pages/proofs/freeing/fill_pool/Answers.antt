use Rattle.std.proofs.Common.{◌≡◌, ◌≢◌, ◌<◌, ◌+◌, ℕ, List, [], ◌∷◌, ◌++◌, length, set, ap, sym, ◌∙◌, arith}
use Rattle.std.proofs.lemmas.List.{length_push}
use Rattle.heap_words.specs.Contents.{Contents, contents, with_pool}
use Rattle.yak_model.specs.Placed.{space_word}
use Rattle.region_pages.specs.Freeing.{free_below, pool_with}
use Rattle.region_pages.proofs.Shapes.{Shape, shape}
use Rattle.region_pages.proofs.Freed.{below_more_free, below_more_taken, pool_more}
use Rattle.region_pages.proofs.freeing.fill_pool.Goals as goal
use Rattle.region_pages.proofs.freeing.fill_pool.Goals.{then-get_page-eq0, else-get_page-eq0}

pub loop-page-preserved : goal.loop-page-preserved
loop-page-preserved g c =
    let m = c.args.map in
    let i = c.loop-page.page in
    let inv = c.loop-page.invariant in
    let old = contents m (g.W.Words.words c.args.words.now) in
    let s : Shape m old = shape m (g.W.Words.words c.args.words.now) c.requires in
    let pages : List ℕ = free_below old.table i in
    let value : c.get_page.result ≡ space_word old.table i = c.get_page.ensures.value ∙ ap (λ (x : Contents). space_word x.table i) inv.filled in
    elim c.if-get_page-eq0.branch [
      | then-get_page-eq0 w ↦
          let free : space_word old.table i ≡ 0 = sym value ∙ w.if-get_page-eq0.true in
          let more = below_more_free old.table i free in
          let lt : length pages < length old.pool = omega (arith, inv.count, inv.most, s.pool) in
          let put : set (pool_with pages old.pool) c.loop-page.count w.from.result ≡ pool_with (free_below old.table (i + 1)) old.pool = ap (λ (k : ℕ). set (pool_with pages old.pool) k w.from.result) inv.count ∙ pool_more pages old.pool w.from.result lt ∙ ap (λ (v : ℕ). pool_with (pages ++ v ∷ []) old.pool) w.from.ensures ∙ ap (λ (xs : List ℕ). pool_with xs old.pool) (sym more) in
          record {
            sound = rw w.words-is w.set_pool.ensures.sound;
            base = rw w.words-is (w.set_pool.ensures.base ∙ c.get_page.ensures.base ∙ inv.base);
            reads = rw w.words-is (omega (arith, w.set_pool.ensures.reads, c.get_page.ensures.reads, inv.reads));
            most = omega (arith, w.count-is, inv.most);
            count = omega (arith, w.count-is, inv.count, ap (λ (xs : List ℕ). length xs) more, length_push pages i);
            filled = rw w.words-is (w.set_pool.ensures.set ∙ ap (λ (ws : List ℕ). with_pool (contents m ws) c.loop-page.count w.from.result) c.get_page.ensures.words ∙ ap (λ (x : Contents). with_pool x c.loop-page.count w.from.result) inv.filled ∙ ap (λ (xs : List ℕ). record old { pool = xs }) put);
          }
      | else-get_page-eq0 w ↦
          let taken : space_word old.table i ≢ 0 = λ e. w.if-get_page-eq0.false (value ∙ e) in
          let same = below_more_taken old.table i taken in
          record {
            sound = rw (w.words-is, c.get_page.ensures.words) inv.sound;
            base = rw w.words-is (c.get_page.ensures.base ∙ inv.base);
            reads = rw w.words-is (omega (arith, c.get_page.ensures.reads, inv.reads));
            most = omega (arith, w.count-is, inv.most);
            count = omega (arith, w.count-is, inv.count, ap (λ (xs : List ℕ). length xs) same);
            filled = rw w.words-is (ap (λ (ws : List ℕ). contents m ws) c.get_page.ensures.words ∙ inv.filled ∙ ap (λ (xs : List ℕ). record old { pool = pool_with xs old.pool }) (sym same));
          }
    ]
