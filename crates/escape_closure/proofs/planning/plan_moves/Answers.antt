use Rattle.std.proofs.Common.{◌+◌, ◌==◌, ℕ, List, slice_index, arith}
use Rattle.std.proofs.lemmas.List.Sums.{count_by-le-length}
use Rattle.heap_words.specs.Contents.{contents}
use Rattle.epoch_lattice.specs.Lattice.{space_index}
use Rattle.yak_model.specs.Spaces.{innermost}
use Rattle.region_pages.proofs.Shapes.{shape}
use Rattle.escape_closure.proofs.planning.plan_moves.Goals as goal

pub plan_moves_below-requires-clause-none_from : goal.plan_moves_below-requires-clause-none_from
plan_moves_below-requires-clause-none_from g c p from lt = absurd (omega (arith, from, lt))

pub returns-clause-reads : goal.returns-clause-reads
returns-clause-reads g c s before st escaping written =
    let m = c.args.map in
    let ws = g.W.Words.words c.args.words.now in
    let table = (contents m ws).table in
    let few = count_by-le-length (λ (r : List ℕ). slice_index r 0 == space_index (innermost s.graph c.args.thread) + 1) table in
    omega (arith, few, (shape m ws c.requires.sound).table, c.plan_moves_below.ensures.reads s before st escaping written)
