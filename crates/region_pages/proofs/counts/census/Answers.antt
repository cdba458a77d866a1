use Rattle.std.proofs.Common.{◌≡◌, ℕ, List, ap, ◌∙◌, arith}
use Rattle.heap_words.specs.Contents.{contents}
use Rattle.epoch_lattice.specs.declared.Space.TheVariants.{Control}
use Rattle.yak_model.specs.Stands.{pages_of}
use Rattle.region_pages.specs.Counts.{free_in}
use Rattle.region_pages.proofs.Shapes.{Shape, shape}
use Rattle.region_pages.proofs.Counting.{free_is, parts}
use Rattle.region_pages.proofs.counts.census.Goals as goal

pub overflow_sub-result : goal.overflow_sub-result
overflow_sub-result g c =
    let m = c.args.map in
    let old = contents m (g.W.Words.words c.args.words.now) in
    let s : Shape m old = shape m (g.W.Words.words c.args.words.now) c.requires.sound in
    let free : c.free_count-free.result ≡ free_in old.table = c.free_count-free.ensures.count ∙ free_is m old.heads old.pool old.table s.table c.requires.pool in
    let control : c.pages_of-control.result ≡ pages_of old.table Control = c.pages_of-control.ensures.count ∙ ap (λ (ws : List ℕ). pages_of (contents m ws).table Control) c.free_count-free.ensures.words in
    omega (arith, free, control, parts old.table, s.table)

pub returns-clause-entered_free : goal.returns-clause-entered_free
returns-clause-entered_free g c =
    let m = c.args.map in
    let old = contents m (g.W.Words.words c.args.words.now) in
    let s : Shape m old = shape m (g.W.Words.words c.args.words.now) c.requires.sound in
    c.free_count-free.ensures.count ∙ free_is m old.heads old.pool old.table s.table c.requires.pool

pub returns-clause-region : goal.returns-clause-region
returns-clause-region g c =
    let m = c.args.map in
    let old = contents m (g.W.Words.words c.args.words.now) in
    let s : Shape m old = shape m (g.W.Words.words c.args.words.now) c.requires.sound in
    let free : c.free_count-free.result ≡ free_in old.table = c.free_count-free.ensures.count ∙ free_is m old.heads old.pool old.table s.table c.requires.pool in
    let control : c.pages_of-control.result ≡ pages_of old.table Control = c.pages_of-control.ensures.count ∙ ap (λ (ws : List ℕ). pages_of (contents m ws).table Control) c.free_count-free.ensures.words in
    omega (arith, free, control, parts old.table, s.table)

pub returns-clause-total : goal.returns-clause-total
returns-clause-total g c =
    let m = c.args.map in
    let old = contents m (g.W.Words.words c.args.words.now) in
    let s : Shape m old = shape m (g.W.Words.words c.args.words.now) c.requires.sound in
    let free : c.free_count-free.result ≡ free_in old.table = c.free_count-free.ensures.count ∙ free_is m old.heads old.pool old.table s.table c.requires.pool in
    let control : c.pages_of-control.result ≡ pages_of old.table Control = c.pages_of-control.ensures.count ∙ ap (λ (ws : List ℕ). pages_of (contents m ws).table Control) c.free_count-free.ensures.words in
    omega (arith, free, control, parts old.table, s.table)
