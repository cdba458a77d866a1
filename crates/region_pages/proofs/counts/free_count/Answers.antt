use Rattle.std.proofs.Common.{◌≡◌, ℕ, List, ap, ◌∙◌, arith}
use Rattle.heap_words.specs.Contents.{contents}
use Rattle.yak_model.specs.Stands.{claim_counter, pool_length}
use Rattle.region_pages.proofs.Shapes.{Shape, shape}
use Rattle.region_pages.proofs.Counting.{length-free}
use Rattle.region_pages.proofs.counts.free_count.Goals as goal

pub returns-clause-count : goal.returns-clause-count
returns-clause-count g c =
    let m = c.args.map in
    let old = contents m (g.W.Words.words c.args.words.now) in
    let s : Shape m old = shape m (g.W.Words.words c.args.words.now) c.requires.sound in
    let k : c.get_head-claimed.result ≡ claim_counter old.heads = c.get_head-claimed.ensures.value in
    let n : c.get_head-length.result ≡ pool_length old.heads = c.get_head-length.ensures.value ∙ ap (λ (ws : List ℕ). pool_length (contents m ws).heads) c.get_head-claimed.ensures.words in
    omega (arith, k, n, length-free old.heads old.pool (omega (arith, s.pool, c.requires.pool.within)))
