use Rattle.std.proofs.Common.{false, refl, subst}
use Rattle.heap_tables.proofs.OnResult.{either, err_map, ok_both, ok_map}
use Rattle.group_jobs.specs.Tallies.{IsProgress}
use Rattle.group_jobs.proofs.Aside.{aside_same}
use Rattle.group_jobs.proofs.Grown.{grows_none, within_out, within_ran}
use Rattle.group_jobs.proofs.Opened.{opened_total}
use Rattle.group_jobs.proofs.tallies.open_total.Goals as goal

pub returns-then-has_total-clause-opened : goal.returns-then-has_total-clause-opened
returns-then-has_total-clause-opened g c known done k progress =
    (known, k, (subst (λ b. IsProgress b (g.C.Caller.standing c.args.caller.now) known done) c.if-has_total.true progress).1, aside_same (g.C.Caller.standing c.args.caller.now) (g.C.Caller.standing c.args.caller.now) known refl)

pub returns-clause-opened : goal.returns-clause-opened
returns-clause-opened g c = ok_map c.make.result _ _
    (λ both known done k progress.
    let C = g.C.Caller in
    let m = both.1 known k in
    let before : IsProgress false (C.standing c.args.caller.now) known done = subst (λ b. IsProgress b (C.standing c.args.caller.now) known done) c.if-has_total.false progress in
    opened_total (C.standing c.args.caller.now) (C.standing c.make.new.caller) known (C.knows c.make.new.caller) done both.0 before.0 before.1 m.0 m.1.0 m.2)
    (ok_both c.make.result _ _ c.make.ensures.pushed c.make.ensures.made)

pub returns-then-has_total-clause-list : goal.returns-then-has_total-clause-list
returns-then-has_total-clause-list g c = grows_none (g.C.Caller.standing c.args.caller.now).list

pub returns-clause-list : goal.returns-clause-list
returns-clause-list g c =
    let C = g.C.Caller in
    let s = c.args.caller.now in
    let w = c.make.new.caller in
    either c.make.result _
    (ok_map c.make.result _ _ (within_ran C.base C.tells C.tells_known C.standing s w _) c.make.ensures.ran)
    (err_map c.make.result _ _ (within_out C.base C.tells C.tells_known C.standing s w _ _) c.make.ensures.ran_out)
