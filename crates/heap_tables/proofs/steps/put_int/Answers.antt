use Rattle.heap_tables.proofs.RunOn.{ran_more}
use Rattle.std.proofs.Common.{◌∙◌, ap, subst, arith, sym}
use Rattle.yak_model.specs.declared.datum.Datum.TheVariants as datum
use Rattle.heap_tables.specs.Runs.{popped, with_field}
use Rattle.heap_tables.proofs.Effects.{popped_pushed, slot_after, top_after, size_after}
use Rattle.heap_tables.proofs.Asides.{gives_none, lacks_as}
use Rattle.heap_tables.proofs.steps.put_int.Goals as goal

pub push_int-requires-clause-some : goal.push_int-requires-clause-some
push_int-requires-clause-some g c = let h = c.requires.field in (h.0, h.3)

pub store-requires-clause-field : goal.store-requires-clause-field
store-requires-clause-field g c =
    let h = c.requires.field in
    (h.0, h.1, h.2, c.push_int.ensures.keeps h.0 h.3, slot_after _ _ _ h.0 _ h.1 h.2 c.push_int.ensures.pushed h.4, h.5)

pub store-requires-clause-value : goal.store-requires-clause-value
store-requires-clause-value g c = omega (arith, c.requires.top, size_after (g.C.Caller.standing c.args.caller.now).own _ (datum.Int c.args.n) c.push_int.ensures.pushed)

pub pop-requires-clause-some : goal.pop-requires-clause-some
pop-requires-clause-some g c =
    let h = c.requires.field in
    (_, c.store.ensures.stored h.0 h.1 h.2 (c.push_int.ensures.keeps h.0 h.3) (slot_after _ _ _ h.0 _ h.1 h.2 c.push_int.ensures.pushed h.4) h.5)

pub pop-requires-clause-slot : goal.pop-requires-clause-slot
pop-requires-clause-slot g c = omega (arith, size_after (g.C.Caller.standing c.args.caller.now).own _ (datum.Int c.args.n) (c.store.ensures.own ∙ c.push_int.ensures.pushed))

pub returns-clause-own : goal.returns-clause-own
returns-clause-own g c = c.pop.ensures.popped ∙ ap popped (c.store.ensures.own ∙ c.push_int.ensures.pushed) ∙ popped_pushed _ _

pub returns-clause-stored : goal.returns-clause-stored
returns-clause-stored g c known name values k slot bound =
    let there = top_after (g.C.Caller.standing c.args.caller.now).own _ (datum.Int c.args.n) c.args.top c.push_int.ensures.pushed c.requires.top in
    subst (λ v. g.C.Caller.knows c.pop.new.caller (with_field known name values c.args.f v)) there
    (c.pop.ensures.keeps _ (c.store.ensures.stored known name values (c.push_int.ensures.keeps known k) (slot_after _ _ _ known _ name values c.push_int.ensures.pushed slot) bound))

pub returns-clause-ran : goal.returns-clause-ran
returns-clause-ran g c = let C = g.C.Caller in ran_more C.base C.tells C.tells_known C.standing _ _ _ (ran_more C.base C.tells C.tells_known C.standing _ _ _ c.push_int.ensures.ran c.store.ensures.ran) c.pop.ensures.ran

pub returns-clause-aside : goal.returns-clause-aside
returns-clause-aside g c other k lacks =
    let h = c.requires.field in
    let e = c.push_int.ensures.pushed in
    let there = slot_after (g.C.Caller.standing c.args.caller.now).own _ (datum.Int c.args.n) h.0 c.args.s h.1 h.2 e h.4 in
    let top = top_after (g.C.Caller.standing c.args.caller.now).own _ (datum.Int c.args.n) c.args.top e c.requires.top in
    c.pop.ensures.keeps other (c.store.ensures.aside other other (c.push_int.ensures.keeps other k)
    (lacks_as other _ _ (h.4.0 ∙ sym there.0) lacks) (gives_none other _ (lacks_as other _ _ (sym top) tt)))
