use Rattle.std.proofs.Common.{arith}
use Rattle.heap_tables.proofs.Climbs.{climb_end, climb_found, climb_more, climb_start, climbed_size}
use Rattle.heap_tables.proofs.RunOn.{ran_none, ran_more}
use Rattle.heap_tables.proofs.chains.climb.Goals as goal

pub loop-n-init : goal.loop-n-init
loop-n-init g c = let C = g.C.Caller in record {
  ran = ran_none C.base C.tells C.tells_known C.standing c.args.caller.now;
  keeps = λ known k. k;
  climbed = λ known links k chain. climb_start (C.standing c.args.caller.now).own known c.args.word.now links c.args.at chain;
}

pub look_once-requires-clause-chain : goal.look_once-requires-clause-chain
look_once-requires-clause-chain g c =
    let h = c.requires.chain in
    let at = c.loop-n.invariant.climbed h.0 h.1 h.2 h.3 in
    (h.0, at.rest, c.loop-n.invariant.keeps h.0 h.2, at.chain)

pub look_once-requires-clause-room : goal.look_once-requires-clause-room
look_once-requires-clause-room g c =
    let h = c.requires.chain in
    omega (arith, c.requires.room, c.loop-n-test.true, climbed_size (g.C.Caller.standing c.args.caller.now).own h.0 c.args.word.now h.1 c.args.at _ _ _ (c.loop-n.invariant.climbed h.0 h.1 h.2 h.3))

pub look_once-requires-clause-top : goal.look_once-requires-clause-top
look_once-requires-clause-top g c =
    let h = c.requires.chain in
    omega (arith, c.requires.top, climbed_size (g.C.Caller.standing c.args.caller.now).own h.0 c.args.word.now h.1 c.args.at _ _ _ (c.loop-n.invariant.climbed h.0 h.1 h.2 h.3))

pub returns-in-End-clause-ran : goal.returns-in-End-clause-ran
returns-in-End-clause-ran g c = let C = g.C.Caller in ran_more C.base C.tells C.tells_known C.standing _ _ _ c.loop-n.invariant.ran c.look_once.ensures.ran

pub returns-in-End-clause-climbed : goal.returns-in-End-clause-climbed
returns-in-End-clause-climbed g c known links k chain =
    let at = c.loop-n.invariant.climbed known links k chain in
    climb_end (g.C.Caller.standing c.args.caller.now).own known c.args.word.now links c.args.at c.loop-n.n _ _ at (c.in-End.ensures.looked known at.rest (c.loop-n.invariant.keeps known k) at.chain)

pub returns-in-Found-clause-ran : goal.returns-in-Found-clause-ran
returns-in-Found-clause-ran g c = let C = g.C.Caller in ran_more C.base C.tells C.tells_known C.standing _ _ _ c.loop-n.invariant.ran c.look_once.ensures.ran

pub returns-in-Found-clause-climbed : goal.returns-in-Found-clause-climbed
returns-in-Found-clause-climbed g c known links k chain =
    let at = c.loop-n.invariant.climbed known links k chain in
    climb_found (g.C.Caller.standing c.args.caller.now).own known c.args.word.now links c.args.at c.loop-n.n _ _ at (c.in-Found.ensures.looked known at.rest (c.loop-n.invariant.keeps known k) at.chain)

pub loop-n-preserved : goal.loop-n-preserved
loop-n-preserved g c = let C = g.C.Caller in record {
  ran = ran_more C.base C.tells C.tells_known C.standing _ _ _ c.loop-n.invariant.ran c.look_once.ensures.ran;
  keeps = λ known k. c.look_once.ensures.keeps known (c.loop-n.invariant.keeps known k);
  climbed = λ known links k chain.
      let at = c.loop-n.invariant.climbed known links k chain in
      climb_more (C.standing c.args.caller.now).own known c.args.word.now links c.args.at c.loop-n.n _ _ at c.requires.top (c.in-Further.ensures.looked known at.rest (c.loop-n.invariant.keeps known k) at.chain);
}
