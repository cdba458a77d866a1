use Rattle.std.proofs.Common.{◌≡◌, ◌∙◌, arith}
use Rattle.heap_words.specs.Contents.{contents}
use Rattle.region_pages.specs.Counts.{free_in}
use Rattle.region_pages.proofs.Shapes.{Shape, shape}
use Rattle.region_pages.proofs.Counting.{free_is, parts}
use Rattle.region_pages.proofs.counts.used_count.Goals as goal

pub overflow_sub-result : goal.overflow_sub-result
overflow_sub-result g c =
    let m = c.args.map in
    let old = contents m (g.W.Words.words c.args.words.now) in
    let s : Shape m old = shape m (g.W.Words.words c.args.words.now) c.requires.sound in
    let free : c.free_count-free.result ≡ free_in old.table = c.free_count-free.ensures.count ∙ free_is m old.heads old.pool old.table s.table c.requires.pool in
    omega (arith, free, parts old.table, s.table)

pub returns-clause-used : goal.returns-clause-used
returns-clause-used g c =
    let m = c.args.map in
    let old = contents m (g.W.Words.words c.args.words.now) in
    let s : Shape m old = shape m (g.W.Words.words c.args.words.now) c.requires.sound in
    let free : c.free_count-free.result ≡ free_in old.table = c.free_count-free.ensures.count ∙ free_is m old.heads old.pool old.table s.table c.requires.pool in
    omega (arith, free, parts old.table, s.table)
