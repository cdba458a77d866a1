use Rattle.std.proofs.Common.{arith}
use Rattle.yak.specs.Generator.{rounds}
use Rattle.yak.proofs.Rounds.{few_rounds, lines_few, lines_of_round, number_after}
use Rattle.yak.proofs.generator.push_rounds.Goals as goal

pub push_round-requires-clause-few : goal.push_round-requires-clause-few
push_round-requires-clause-few c =
    let e = lines_few c.rounds.lines.items (rounds c.args.seed c.rounds.before) c.rounds.invariant.lines in
    let few = few_rounds c.args.seed c.rounds.before in
    let seed = c.requires.1 in
    let before = c.rounds.invariant.few in
    omega (arith, e, few, seed, before)

pub rounds-preserved : goal.rounds-preserved
rounds-preserved c =
    let at = number_after c.args.seed c.rounds.before c.rounds.x c.next_number-x.result c.next_number-x.ensures.next c.rounds.invariant.number in
    let inside = c.rounds-test.true in
    record {
      lines = lines_of_round c.rounds.lines.items c.push_round.new.lines.items c.args.seed c.rounds.before c.next_number-x.result at c.rounds.invariant.lines c.in_ok-push_round.ensures;
      number = at;
      small = c.next_number-x.ensures.small;
      few = omega (arith, inside);
    }
