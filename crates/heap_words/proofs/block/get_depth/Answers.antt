use Rattle.std.proofs.Common.{◌≡◌, arith}
use Rattle.heap_words.specs.Contents.{contents, depth_of}
use Rattle.heap_words.proofs.Contents.{depth_of-word, depth_of-fits}
use Rattle.heap_words.proofs.block.get_depth.Goals as goal

pub overflow_cast-result : goal.overflow_cast-result
overflow_cast-result g c =
    let m = c.args.map in
    let ws = g.W.Words.words c.args.words.now in
    let e : c.get.result ≡ depth_of (contents m ws) c.args.thread = rw (c.get.ensures.value, c.block.ensures) (depth_of-word m ws c.args.thread c.requires.thread) in
    omega (arith, e, depth_of-fits m ws c.args.thread c.requires.thread c.requires.sound)

pub returns-clause-at_most : goal.returns-clause-at_most
returns-clause-at_most g c =
    let m = c.args.map in
    let ws = g.W.Words.words c.args.words.now in
    let e : c.get.result ≡ depth_of (contents m ws) c.args.thread = rw (c.get.ensures.value, c.block.ensures) (depth_of-word m ws c.args.thread c.requires.thread) in
    omega (arith, e, depth_of-fits m ws c.args.thread c.requires.thread c.requires.sound)
