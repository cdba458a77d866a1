use Rattle.heap_tables.proofs.OnResult.{either, err_map, ok_both, ok_map}
use Rattle.group_jobs.proofs.Grown.{within_out, within_ran}
use Rattle.group_jobs.proofs.Opened.{opened_part}
use Rattle.group_jobs.proofs.tallies.open_part.Goals as goal

pub returns-clause-opened : goal.returns-clause-opened
returns-clause-opened g c = ok_map c.make.result _ _
    (λ both known done k t.
    let C = g.C.Caller in
    let m = both.1 known k in
    opened_part (C.standing c.args.caller.now) (C.standing c.make.new.caller) known (C.knows c.make.new.caller) done both.0.0 c.requires.slots t m.0 m.1.0 m.2 both.0.1.since.thread)
    (ok_both c.make.result _ _ (ok_both c.make.result _ _ c.make.ensures.pushed c.make.ensures.ran) c.make.ensures.made)

pub returns-clause-list : goal.returns-clause-list
returns-clause-list g c =
    let C = g.C.Caller in
    let s = c.args.caller.now in
    let w = c.make.new.caller in
    either c.make.result _
    (ok_map c.make.result _ _ (within_ran C.base C.tells C.tells_known C.standing s w _) c.make.ensures.ran)
    (err_map c.make.result _ _ (within_out C.base C.tells C.tells_known C.standing s w _ _) c.make.ensures.ran_out)
