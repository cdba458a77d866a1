use Rattle.std.proofs.Common.{◌+◌, ◌∙◌, ap, refl, arith, length}
use Rattle.yak_model.specs.Graph.{Thread}
use Rattle.heap_tables.proofs.Effects.{value_same}
use Rattle.heap_tables.proofs.Laid.{laid_entry}
use Rattle.heap_tables.proofs.RunOn.{ran_more, ran_none}
use Rattle.heap_tables.proofs.layouts.find_laid.Goals as goal

pub loop-i-init : goal.loop-i-init
loop-i-init g c = let C = g.C.Caller in record {
  ran = ran_none C.base C.tells C.tells_known C.standing c.args.caller.now;
  keeps = λ known k. k;
  own = refl;
}

pub is_entry_of-requires-clause-entry : goal.is_entry_of-requires-clause-entry
is_entry_of-requires-clause-entry g c =
    let C = g.C.Caller in
    let h = c.requires.laid in
    let inv = c.loop-i.invariant in
    let r = laid_entry h.0 h.1 h.2 h.4 c.args.laid c.args.at (C.standing c.args.caller.now).own h.5 h.6 c.loop-i.i c.loop-i-test.true in
    (h.0, r.2, r.0, inv.keeps h.0 h.3, (value_same _ _ (c.args.at + c.loop-i.i) inv.own ∙ r.4, r.5))

pub is_entry_of-requires-clause-room : goal.is_entry_of-requires-clause-room
is_entry_of-requires-clause-room g c = omega (arith, c.requires.room, ap (λ (o : Thread). length o.stack) c.loop-i.invariant.own)

pub is_entry_of-requires-clause-top : goal.is_entry_of-requires-clause-top
is_entry_of-requires-clause-top g c = omega (arith, c.requires.top, ap (λ (o : Thread). length o.stack) c.loop-i.invariant.own)

pub returns-then-is_entry_of-clause-ran : goal.returns-then-is_entry_of-clause-ran
returns-then-is_entry_of-clause-ran g c = let C = g.C.Caller in ran_more C.base C.tells C.tells_known C.standing _ _ _ c.loop-i.invariant.ran c.is_entry_of.ensures.ran

pub returns-then-is_entry_of-clause-found : goal.returns-then-is_entry_of-clause-found
returns-then-is_entry_of-clause-found g c known own links k chain laid size =
    let C = g.C.Caller in
    let inv = c.loop-i.invariant in
    let r = laid_entry known own links chain c.args.laid c.args.at (C.standing c.args.caller.now).own laid size c.loop-i.i c.loop-i-test.true in
    (c.loop-i-test.true, (r.0, r.1, r.3, c.is_entry_of.ensures.answer known r.2 r.0 (inv.keeps known k) (value_same _ _ (c.args.at + c.loop-i.i) inv.own ∙ r.4, r.5) c.if-is_entry_of.true))

pub loop-i-preserved : goal.loop-i-preserved
loop-i-preserved g c = let C = g.C.Caller in record {
  ran = ran_more C.base C.tells C.tells_known C.standing _ _ _ c.loop-i.invariant.ran c.is_entry_of.ensures.ran;
  keeps = λ known k. c.is_entry_of.ensures.keeps known (c.loop-i.invariant.keeps known k);
  own = c.is_entry_of.ensures.own ∙ c.loop-i.invariant.own;
}
