use Rattle.std.proofs.Common.{◌%◌, ◌/◌, ◌+◌}
use Rattle.yak.proofs.Rounds.{last_kind}
use Rattle.yak.proofs.generator.push_round.Goals as goal

pub returns : goal.returns
returns c =
    rw (last_kind c.args.t (c.args.t % 4 + 1) (c.args.x / 3 % 16) (c.args.x / 48 % 20) (c.args.x % 3) c.if-rest-eq0.false c.if-rest-eq1.false) c.push_held.ensures

pub returns-then-rest-eq0 : goal.returns-then-rest-eq0
returns-then-rest-eq0 c = rw c.if-rest-eq0.true (c.push_moving.ensures (c.args.t % 4 + 1))

pub returns-then-rest-eq1 : goal.returns-then-rest-eq1
returns-then-rest-eq1 c = rw c.if-rest-eq1.true (c.push_dying.ensures (c.args.t % 4 + 1) (c.args.x / 3 % 16))
