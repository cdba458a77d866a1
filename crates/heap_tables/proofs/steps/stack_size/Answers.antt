use Rattle.std.proofs.Common.{inl, inr, ◌<◌, ◌∙◌, ap, sym, refl, arith, length, true≢false}
use Rattle.std.proofs.lemmas.Bool.{cases_lt}
use Rattle.yak_model.specs.Graph.{Thread}
use Rattle.heap_tables.proofs.RunOn.{ran_none, ran_more}
use Rattle.heap_tables.proofs.Effects.{not_bad}
use Rattle.heap_tables.proofs.steps.stack_size.Goals as goal

pub loop-top-init : goal.loop-top-init
loop-top-init g c = let C = g.C.Caller in record {
  ran = ran_none C.base C.tells C.tells_known C.standing c.args.caller.now;
  keeps = λ known k. k;
  own = refl;
  below = omega arith;
}

pub get-requires : goal.get-requires
get-requires g c = let h = c.requires.some in record { some = (h.0, c.loop-top.invariant.keeps h.0 h.1) }

pub loop-top-preserved : goal.loop-top-preserved
loop-top-preserved g c =
    let C = g.C.Caller in
    let inv = c.loop-top.invariant in
    let size = ap (λ (o : Thread). length o.stack) inv.own in
    let there : c.loop-top.top < length (C.standing c.args.caller.now).own.stack = elim (cases_lt c.loop-top.top (length (C.standing c.args.caller.now).own.stack)) [
      | inl lt ↦ lt
      | inr past ↦ absurd (true≢false (sym (c.if-is_bad_slot.ensures.1 (c.get.ensures.past (omega (arith, size, past))))))
    ] in
    record {
      ran = ran_more C.base C.tells C.tells_known C.standing _ _ _ inv.ran c.get.ensures.ran;
      keeps = λ known k. c.get.ensures.keeps known (inv.keeps known k);
      own = c.get.ensures.own ∙ inv.own;
      below = omega (arith, there);
    }

pub returns-then-is_bad_slot-clause-size : goal.returns-then-is_bad_slot-clause-size
returns-then-is_bad_slot-clause-size g c =
    let C = g.C.Caller in
    let inv = c.loop-top.invariant in
    let size = ap (λ (o : Thread). length o.stack) inv.own in
    elim (cases_lt c.loop-top.top (length (C.standing c.loop-top.caller).own.stack)) [
      | inl lt ↦ absurd (not_bad _ _ (c.get.ensures.shown lt) (c.if-is_bad_slot.ensures.0 refl))
      | inr past ↦ let below = inv.below in omega (arith, size, past, below)
    ]
