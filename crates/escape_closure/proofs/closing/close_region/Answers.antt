use Rattle.std.proofs.Common.{◌-◌, ℕ, List, arith, ap, ◌∙◌}
use Rattle.heap_words.specs.Contents.{Contents, contents, with_depth, with_readers}
use Rattle.escape_closure.proofs.closing.close_region.Goals as goal

pub clear_readers-requires-clause-region : goal.clear_readers-requires-clause-region
clear_readers-requires-clause-region g c = (c.requires.thread.0, c.requires.thread.1, omega (arith, c.depth-innermost.ensures.depth, c.requires.depth), c.depth-innermost.ensures.at_most)

pub returns-clause-closed : goal.returns-clause-closed
returns-clause-closed g c =
    let m = c.args.map in
    let t = c.args.thread in
    let old = contents m (g.W.Words.words c.args.words.now) in
    c.set_depth.ensures.set ∙ ap (λ (x : Contents). with_depth x t (c.depth-innermost.result - 1)) (c.clear_readers.ensures.set ∙ ap (λ (ws : List ℕ). with_readers (contents m ws) t c.depth-innermost.result 0) c.depth-innermost.ensures.words) ∙ ap (λ k. with_depth (with_readers old t k 0) t (k - 1)) c.depth-innermost.ensures.depth
