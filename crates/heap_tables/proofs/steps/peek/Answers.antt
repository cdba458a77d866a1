use Rattle.heap_tables.proofs.RunOn.{ran_more}
use Rattle.std.proofs.Common.{◌≡◌, ◌<◌, ◌∙◌, ap, subst, arith, length, get_or}
use Rattle.yak_model.specs.Graph.{Thread}
use Rattle.yak_model.specs.declared.datum.Datum.TheVariants as datum
use Rattle.heap_tables.specs.Runs.{IsShown, slot_in, stack_in, popped}
use Rattle.heap_tables.proofs.Effects.{popped_pushed, slot_push, length_push}
use Rattle.heap_tables.proofs.steps.peek.Goals as goal

pub get-shown-requires : goal.get-shown-requires
get-shown-requires g c = let h = c.requires.field in record { some = (h.0, c.load.ensures.keeps h.0 h.3) }

pub pop-requires-clause-some : goal.pop-requires-clause-some
pop-requires-clause-some g c = let h = c.requires.field in (h.0, c.get-shown.ensures.keeps h.0 (c.load.ensures.keeps h.0 h.3))

pub pop-requires-clause-slot : goal.pop-requires-clause-slot
pop-requires-clause-slot g c =
    let h = c.requires.field in
    let e = c.load.ensures.pushed h.0 h.1 h.2 h.3 h.4 h.5 in
    omega (arith, ap (λ (o : Thread). length o.stack) (c.get-shown.ensures.own ∙ e), length_push (stack_in (g.C.Caller.standing c.args.caller.now)) (get_or h.2 c.args.f datum.Null))

pub returns-clause-own : goal.returns-clause-own
returns-clause-own g c =
    let h = c.requires.field in
    let e = c.load.ensures.pushed h.0 h.1 h.2 h.3 h.4 h.5 in
    c.pop.ensures.popped ∙ ap popped (c.get-shown.ensures.own ∙ e) ∙ popped_pushed _ _

pub returns-clause-shown : goal.returns-clause-shown
returns-clause-shown g c known name values k slot bound =
    let e = c.load.ensures.pushed known name values k slot bound in
    let there : slot_in (g.C.Caller.standing c.load.new.caller) c.args.top ≡ get_or values c.args.f datum.Null =
    ap (λ (o : Thread). get_or o.stack c.args.top datum.Null) e ∙ slot_push (stack_in (g.C.Caller.standing c.args.caller.now)) (get_or values c.args.f datum.Null) c.args.top c.requires.top in
    let within : c.args.top < length (stack_in (g.C.Caller.standing c.load.new.caller)) =
    omega (arith, c.requires.top, ap (λ (o : Thread). length o.stack) e, length_push (stack_in (g.C.Caller.standing c.args.caller.now)) (get_or values c.args.f datum.Null)) in
    subst (λ v. IsShown v c.get-shown.result) there (c.get-shown.ensures.shown within)

pub returns-clause-ran : goal.returns-clause-ran
returns-clause-ran g c = let C = g.C.Caller in ran_more C.base C.tells C.tells_known C.standing _ _ _ (ran_more C.base C.tells C.tells_known C.standing _ _ _ c.load.ensures.ran c.get-shown.ensures.ran) c.pop.ensures.ran
