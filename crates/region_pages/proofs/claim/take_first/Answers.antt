use Rattle.std.proofs.Common.{◌≡◌, ℕ, ◌+◌, List, ◌∷◌, get_or, ap, sym, ◌∙◌, arith}
use Rattle.heap_words.specs.Contents.{Contents, contents, with_head}
use Rattle.yak_model.specs.Stands.{claim_counter, pool_length, free_pages}
use Rattle.region_pages.proofs.Shapes.{shape}
use Rattle.region_pages.proofs.Claims.{first_read}
use Rattle.region_pages.proofs.claim.take_first.Goals as goal

pub overflow_cast-result : goal.overflow_cast-result
overflow_cast-result g c =
    let m = c.args.map in
    let old = contents m (g.W.Words.words c.args.words.now) in
    let w1 = c.get_head-claimed.ensures.words in
    let n : c.get_head-length.result ≡ pool_length old.heads = c.get_head-length.ensures.value ∙ ap (λ (ws : List ℕ). pool_length (contents m ws).heads) w1 in
    let page : c.get_pool-page.result ≡ get_or old.pool c.get_head-claimed.result 0 = c.get_pool-page.ensures.value ∙ ap (λ (ws : List ℕ). get_or (contents m ws).pool c.get_head-claimed.result 0) (c.get_head-length.ensures.words ∙ w1) in
    let first = first_read m old _ _ _ (shape m _ c.requires.sound) c.requires.pool c.get_head-claimed.ensures.value n (omega arith) page in
    omega (arith, first.0, c.requires.sound.areas)

pub returns-clause-taken : goal.returns-clause-taken
returns-clause-taken g c =
    let m = c.args.map in
    let old = contents m (g.W.Words.words c.args.words.now) in
    let k : c.get_head-claimed.result ≡ claim_counter old.heads = c.get_head-claimed.ensures.value in
    let w1 = c.get_head-claimed.ensures.words in
    let w2 = c.get_head-length.ensures.words ∙ w1 in
    let n : c.get_head-length.result ≡ pool_length old.heads = c.get_head-length.ensures.value ∙ ap (λ (ws : List ℕ). pool_length (contents m ws).heads) w1 in
    let page : c.get_pool-page.result ≡ get_or old.pool c.get_head-claimed.result 0 = c.get_pool-page.ensures.value ∙ ap (λ (ws : List ℕ). get_or (contents m ws).pool c.get_head-claimed.result 0) w2 in
    let first = first_read m old _ _ _ (shape m _ c.requires.sound) c.requires.pool k n (omega arith) page in
    let raised : contents m (g.W.Words.words c.set_head.new.words) ≡ with_head old 1 (claim_counter old.heads + 1) = c.set_head.ensures.set ∙ ap (λ (ws : List ℕ). with_head (contents m ws) 1 (c.get_head-claimed.result + 1)) (c.get_pool-page.ensures.words ∙ w2) ∙ ap (λ (i : ℕ). with_head old 1 (i + 1)) k in
    (first.0, first.1, first.2, first.3 ∙ ap (λ (x : Contents). c.get_pool-page.result ∷ free_pages x.heads x.pool) (sym raised), raised)
