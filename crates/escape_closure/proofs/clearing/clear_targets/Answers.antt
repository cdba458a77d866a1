use Rattle.std.proofs.Math.Logic.{∥∥₁_map}
use Rattle.std.proofs.Common.{◌≡◌, ◌≤◌, arith, ap, sym, subst, ◌∙◌}
use Rattle.epoch_lattice.specs.declared.Space.TheVariants.{Region}
use Rattle.heap_words.specs.Contents.{Contents, contents, depth_of}
use Rattle.heap_words.proofs.Contents.{length-heap, length-scratch}
use Rattle.heap_walks.specs.Laid.{IsAmong}
use Rattle.region_pages.specs.Counts.{used_of}
use Rattle.escape_closure.specs.Cleared.{ArePagesClear, ClearsOn}
use Rattle.escape_closure.proofs.Clears.{among, as_before, laid}
use Rattle.escape_closure.proofs.Written.{region_is}
use Rattle.escape_closure.proofs.clearing.clear_targets.Goals as goal

pub clear_region-requires-clause-some : goal.clear_region-requires-clause-some
clear_region-requires-clause-some g c =
    let m = c.args.map in
    let t = c.args.thread in
    let ws = g.W.Words.words c.args.words.now in
    let old = contents m ws in
    let depth = c.depth-innermost.result in
    let low : 1 ≤ depth = omega (arith, c.depth-innermost.ensures.depth, c.requires.depth) in
    rw c.depth-innermost.ensures.words (∥∥₁_map c.requires.aimed (λ q.
    let table = ap (λ (x : Contents). depth_of x t) q.5.frame in
    let only = ap (λ (x : Contents). depth_of x t) q.6 in
    let is : depth ≡ depth_of q.1 t = omega (arith, c.depth-innermost.ensures.depth, table, only) in
    let a = among m q.1 q.4 old q.0 q.2 t depth q.3 c.requires.sound.areas c.requires.thread low c.depth-innermost.ensures.at_most q.5 q.6 (region_is m q.1 q.0 q.2 t depth c.requires.thread is low) (length-heap m ws c.requires.sound.whole) (length-scratch m ws c.requires.sound.whole) in
    (laid m q.1 q.4 old q.0 q.2 t depth q.3 c.requires.sound.areas c.requires.thread low c.depth-innermost.ensures.at_most q.5 q.6 (region_is m q.1 q.0 q.2 t depth c.requires.thread is low) (length-heap m ws c.requires.sound.whole) (length-scratch m ws c.requires.sound.whole), a)))

pub returns-clause-cleared : goal.returns-clause-cleared
returns-clause-cleared g c s before stands escaping now w only =
    let m = c.args.map in
    let t = c.args.thread in
    let ws = g.W.Words.words c.args.words.now in
    let old = contents m ws in
    let new = contents m (g.W.Words.words c.clear_region.new.words) in
    let depth = c.depth-innermost.result in
    let high = c.depth-innermost.ensures.at_most in
    let low : 1 ≤ depth = omega (arith, c.depth-innermost.ensures.depth, c.requires.depth) in
    let table = ap (λ (x : Contents). depth_of x t) w.frame in
    let scratch = ap (λ (x : Contents). depth_of x t) only in
    let is : depth ≡ depth_of before t = omega (arith, c.depth-innermost.ensures.depth, table, scratch) in
    let region = region_is m before s stands t depth c.requires.thread is low in
    let h = laid m before now old s stands t depth escaping c.requires.sound.areas c.requires.thread low high w only region (length-heap m ws c.requires.sound.whole) (length-scratch m ws c.requires.sound.whole) in
    let a : IsAmong m h old = among m before now old s stands t depth escaping c.requires.sound.areas c.requires.thread low high w only region (length-heap m ws c.requires.sound.whole) (length-scratch m ws c.requires.sound.whole) in
    let same : contents m (g.W.Words.words c.depth-innermost.new.words) ≡ old = ap (contents m) c.depth-innermost.ensures.words in
    let done : ClearsOn m h old new × ArePagesClear h new old.table c.index_of-region.result m.pages = subst (λ (x : Contents). ClearsOn m h x new × ArePagesClear h new x.table c.index_of-region.result m.pages) same (c.clear_region.ensures.cleared h (subst (IsAmong m h) (sym same) a)) in
    as_before m before now old s stands t depth escaping c.requires.sound.areas c.requires.thread low high w only region (length-heap m ws c.requires.sound.whole) (length-scratch m ws c.requires.sound.whole) new done.0 (subst (λ i. ArePagesClear h new old.table i m.pages) c.index_of-region.ensures.index done.1)

pub returns-clause-reads : goal.returns-clause-reads
returns-clause-reads g c s before stands escaping now w only =
    let m = c.args.map in
    let t = c.args.thread in
    let ws = g.W.Words.words c.args.words.now in
    let old = contents m ws in
    let depth = c.depth-innermost.result in
    let low : 1 ≤ depth = omega (arith, c.depth-innermost.ensures.depth, c.requires.depth) in
    let table = ap (λ (x : Contents). depth_of x t) w.frame in
    let scratch = ap (λ (x : Contents). depth_of x t) only in
    let is : depth ≡ depth_of before t = omega (arith, c.depth-innermost.ensures.depth, table, scratch) in
    let region = region_is m before s stands t depth c.requires.thread is low in
    let same : contents m (g.W.Words.words c.depth-innermost.new.words) ≡ old = ap (contents m) c.depth-innermost.ensures.words in
    let used : used_of (contents m (g.W.Words.words c.depth-innermost.new.words)).table (Region t depth) ≡ used_of before.table (Region t depth) = ap (λ (x : Contents). used_of x.table (Region t depth)) (same ∙ only ∙ ap (λ (x : Contents). record x { scratch = old.scratch }) w.frame) in
    let there = ap (used_of before.table) region in
    let reads = c.clear_region.ensures.reads (Region t depth) (sym c.index_of-region.ensures.index) in
    omega (arith, reads, c.depth-innermost.ensures.reads, used, there)
