use Rattle.std.proofs.Common.{◌≤◌, arith}
use Rattle.std.proofs.lemmas.List.Sums.{sum_by-take-le}
use Rattle.yak_model.specs.declared.TheConstants.{MOST_WORDS}
use Rattle.yak_model.specs.Machine.{region_size}
use Rattle.yak_model.proofs.Words.{region_most}
use Rattle.yak_model.proofs.space_state.words_in_regions.Goals as goal

pub overflow_add-words : goal.overflow_add-words
overflow_add-words c =
    let g = c.args.graph.now in
    let homes = c.args.homes.now in
    let before : c.loop-home.words ≤ MOST_WORDS = omega (arith, c.loop-home.invariant, sum_by-take-le (region_size g) homes c.loop-home.home-index, region_most g homes c.requires) in
    omega (arith, before, c.size_of-words.ensures.few)

pub returns-clause-few : goal.returns-clause-few
returns-clause-few c =
    let g = c.args.graph.now in
    let homes = c.args.homes.now in
    omega (arith, c.loop-home.invariant, sum_by-take-le (region_size g) homes c.loop-home.home-index, region_most g homes c.requires)
