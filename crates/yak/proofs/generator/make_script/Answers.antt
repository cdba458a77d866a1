use Rattle.std.proofs.Common.{arith}
use Rattle.yak.specs.Generator.{rounds}
use Rattle.yak.proofs.Rounds.{few_rounds, lines_few}
use Rattle.yak.proofs.generator.make_script.Goals as goal

pub push_lines-requires : goal.push_lines-requires
push_lines-requires c =
    let e = lines_few c.push_rounds.new.lines.items (rounds c.args.seed c.args.seed) c.in_ok-push_rounds.ensures in
    let few = few_rounds c.args.seed c.args.seed in
    let seed = c.requires in
    omega (arith, e, few, seed)
