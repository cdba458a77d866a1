use Rattle.std.proofs.Common.{◌∙◌, ap, arith, length, get_or}
use Rattle.yak_model.specs.declared.datum.Datum.TheVariants as datum
use Rattle.heap_tables.specs.Runs.{popped}
use Rattle.heap_tables.proofs.Effects.{loaded, popped_pushed, size_after, unloaded}
use Rattle.heap_tables.proofs.RunOn.{ran_more}
use Rattle.heap_tables.proofs.keys.first_group.Goals as goal

pub returns-then-not-try_load-clause-own : goal.returns-then-not-try_load-clause-own
returns-then-not-try_load-clause-own g c =
    let h = c.requires.key in
    unloaded 1 (length h.4.1.0) (λ b. c.if-not-try_load.ensures.pushed h.0 h.1 h.4.1.0 h.3 (h.4.0, h.4.1.1) b) (λ b. c.if-not-try_load.ensures.past h.0 h.1 h.4.1.0 h.3 (h.4.0, h.4.1.1) b)

pub get-shown-requires : goal.get-shown-requires
get-shown-requires g c = let h = c.requires.key in record { some = (h.0, c.if-not-try_load.ensures.keeps h.0 h.3) }

pub pop-requires-clause-some : goal.pop-requires-clause-some
pop-requires-clause-some g c = let h = c.requires.key in (h.0, c.get-shown.ensures.keeps h.0 (c.if-not-try_load.ensures.keeps h.0 h.3))

pub pop-requires-clause-slot : goal.pop-requires-clause-slot
pop-requires-clause-slot g c =
    let h = c.requires.key in
    let e = loaded 1 (length h.4.1.0) (λ b. c.if-not-try_load.ensures.pushed h.0 h.1 h.4.1.0 h.3 (h.4.0, h.4.1.1) b) (λ b. c.if-not-try_load.ensures.past h.0 h.1 h.4.1.0 h.3 (h.4.0, h.4.1.1) b) in
    omega (arith, size_after (g.C.Caller.standing c.args.caller.now).own _ (get_or h.4.1.0 1 datum.Null) (c.get-shown.ensures.own ∙ e))

pub returns-clause-ran : goal.returns-clause-ran
returns-clause-ran g c = let C = g.C.Caller in ran_more C.base C.tells C.tells_known C.standing _ _ _ (ran_more C.base C.tells C.tells_known C.standing _ _ _ c.if-not-try_load.ensures.ran c.get-shown.ensures.ran) c.pop.ensures.ran

pub returns-clause-own : goal.returns-clause-own
returns-clause-own g c =
    let h = c.requires.key in
    let e = loaded 1 (length h.4.1.0) (λ b. c.if-not-try_load.ensures.pushed h.0 h.1 h.4.1.0 h.3 (h.4.0, h.4.1.1) b) (λ b. c.if-not-try_load.ensures.past h.0 h.1 h.4.1.0 h.3 (h.4.0, h.4.1.1) b) in
    c.pop.ensures.popped ∙ ap popped (c.get-shown.ensures.own ∙ e) ∙ popped_pushed _ _
