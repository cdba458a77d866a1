use Rattle.std.proofs.Common.{◌∙◌, ap, sym, arith, length}
use Rattle.yak_model.specs.Graph.{Thread}
use Rattle.heap_tables.specs.Runs.{popped}
use Rattle.heap_tables.proofs.Effects.{drop_next, drop_none, drop_size}
use Rattle.heap_tables.proofs.RunOn.{ran_none, ran_more}
use Rattle.heap_tables.proofs.steps.pop_all.Goals as goal

pub loop-i-init : goal.loop-i-init
loop-i-init g c = let C = g.C.Caller in record {
  ran = ran_none C.base C.tells C.tells_known C.standing c.args.caller.now;
  keeps = λ known k. k;
  own = sym (drop_none (C.standing c.args.caller.now).own);
}

pub pop-requires-clause-some : goal.pop-requires-clause-some
pop-requires-clause-some g c = let h = c.requires.some in (h.0, c.loop-i.invariant.keeps h.0 h.1)

pub pop-requires-clause-slot : goal.pop-requires-clause-slot
pop-requires-clause-slot g c =
    omega (arith, c.requires.slots, c.loop-i-test.true, ap (λ (o : Thread). length o.stack) c.loop-i.invariant.own, drop_size (g.C.Caller.standing c.args.caller.now).own c.loop-i.i)

pub loop-i-preserved : goal.loop-i-preserved
loop-i-preserved g c = let C = g.C.Caller in record {
  ran = ran_more C.base C.tells C.tells_known C.standing _ _ _ c.loop-i.invariant.ran c.pop.ensures.ran;
  keeps = λ known k. c.pop.ensures.keeps known (c.loop-i.invariant.keeps known k);
  own = c.pop.ensures.popped ∙ ap popped c.loop-i.invariant.own ∙ drop_next (C.standing c.args.caller.now).own c.loop-i.i (omega (arith, c.requires.slots, c.loop-i-test.true));
}
