use Rattle.std.proofs.Math.Logic.{∥∥₁_map}
use Rattle.std.proofs.Common.{◌≤◌, ℕ, List, arith, sym, subst}
use Rattle.heap_words.specs.Contents.{contents}
use Rattle.heap_words.proofs.Contents.{length-heap, length-scratch}
use Rattle.escape_closure.specs.Raising.{EndsAt, TargetsStand}
use Rattle.escape_closure.proofs.Written.{ended, ends_at, few_reads, region_is, targets_written}
use Rattle.escape_closure.proofs.ending.targets.Goals as goal

pub settle_targets-requires-clause-some : goal.settle_targets-requires-clause-some
settle_targets-requires-clause-some g c =
    let m = c.args.map in
    let ws = g.W.Words.words c.args.words.now in
    let old = contents m ws in
    let t = c.args.thread in
    let depth = c.depth-innermost.result in
    rw c.depth-innermost.ensures.words (∥∥₁_map c.requires.stands (λ q.
    (ended m old q.0 q.1 t depth, ends_at m old q.0 q.1 t depth c.requires.sound.areas c.requires.thread (omega (arith, c.depth-innermost.ensures.depth, c.requires.depth)) c.depth-innermost.ensures.at_most (length-heap m ws c.requires.sound.whole) (length-scratch m ws c.requires.sound.whole) c.requires.filed q.2)))

pub returns-clause-targets : goal.returns-clause-targets
returns-clause-targets g c s st recorded =
    let m = c.args.map in
    let ws = g.W.Words.words c.args.words.now in
    let old = contents m ws in
    let new = contents m (g.W.Words.words c.settle_targets.new.words) in
    let t = c.args.thread in
    let depth = c.depth-innermost.result in
    let low : 1 ≤ depth = omega (arith, c.depth-innermost.ensures.depth, c.requires.depth) in
    let high = c.depth-innermost.ensures.at_most in
    let areas = c.requires.sound.areas in
    let has = c.requires.thread in
    let heap = length-heap m ws c.requires.sound.whole in
    let begins : EndsAt m (ended m old s st t depth) old t depth = ends_at m old s st t depth areas has low high heap (length-scratch m ws c.requires.sound.whole) c.requires.filed recorded in
    let stand : TargetsStand m (ended m old s st t depth) (g.W.Words.reads c.depth-innermost.new.words) new (g.W.Words.reads c.settle_targets.new.words) c.settle_targets.result =
    c.settle_targets.ensures.targets (ended m old s st t depth) (subst (λ (x : List ℕ). EndsAt m (ended m old s st t depth) (contents m x) t depth) (sym c.depth-innermost.ensures.words) begins) in
    targets_written m old s st t depth areas has low high new _ _ c.settle_targets.result (region_is m old s st t depth has c.depth-innermost.ensures.depth low) stand heap

pub returns-clause-reads : goal.returns-clause-reads
returns-clause-reads g c s st recorded =
    let m = c.args.map in
    let ws = g.W.Words.words c.args.words.now in
    let old = contents m ws in
    let new = contents m (g.W.Words.words c.settle_targets.new.words) in
    let t = c.args.thread in
    let depth = c.depth-innermost.result in
    let low : 1 ≤ depth = omega (arith, c.depth-innermost.ensures.depth, c.requires.depth) in
    let high = c.depth-innermost.ensures.at_most in
    let areas = c.requires.sound.areas in
    let has = c.requires.thread in
    let heap = length-heap m ws c.requires.sound.whole in
    let begins : EndsAt m (ended m old s st t depth) old t depth = ends_at m old s st t depth areas has low high heap (length-scratch m ws c.requires.sound.whole) c.requires.filed recorded in
    let stand : TargetsStand m (ended m old s st t depth) (g.W.Words.reads c.depth-innermost.new.words) new (g.W.Words.reads c.settle_targets.new.words) c.settle_targets.result =
    c.settle_targets.ensures.targets (ended m old s st t depth) (subst (λ (x : List ℕ). EndsAt m (ended m old s st t depth) (contents m x) t depth) (sym c.depth-innermost.ensures.words) begins) in
    let few = few_reads m old s st t depth areas has low high new (g.W.Words.reads c.depth-innermost.new.words) (g.W.Words.reads c.settle_targets.new.words) c.settle_targets.result (region_is m old s st t depth has c.depth-innermost.ensures.depth low) stand in
    omega (arith, few, c.depth-innermost.ensures.reads)
