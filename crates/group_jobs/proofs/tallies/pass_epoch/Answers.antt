use Rattle.std.proofs.Common.{ap, arith}
use Rattle.yak_model.specs.Graph.{Limits}
use Rattle.group_jobs.proofs.Grown.{begun_ended, end_list}
use Rattle.group_jobs.proofs.tallies.pass_epoch.Goals as goal

pub begin-requires-clause-depth : goal.begin-requires-clause-depth
begin-requires-clause-depth g c =
    let deep = ap (λ (l : Limits). l.depth) (g.met.C.Caller.standard c.args.caller.now) in
    omega (arith, deep, c.requires.outside)

pub end-requires-clause-some : goal.end-requires-clause-some
end-requires-clause-some g c = let h = c.requires.some in (h.0, c.begin.ensures.keeps h.0 h.1)

pub returns-clause-list : goal.returns-clause-list
returns-clause-list g c =
    let C = g.C.Caller in
    begun_ended (C.standing c.args.caller.now).thread (C.standing c.begin.new.caller).thread c.begin.ensures.went.makes.thread
    (C.standing c.args.caller.now).list (C.standing c.begin.new.caller).list (C.standing c.end.new.caller).list c.begin.ensures.list (end_list (C.standing c.begin.new.caller).thread (C.standing c.begin.new.caller).list (C.standing c.end.new.caller).list c.end.ensures.list)
