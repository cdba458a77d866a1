use Rattle.heap_tables.proofs.Endings.{ended_list}
use Rattle.heap_tables.proofs.epochs.end.Goals as goal

pub returns-clause-list : goal.returns-clause-list
returns-clause-list g c =
    let C = g.C.Caller in
    let h = c.requires.some in
    ended_list (C.standing c.args.caller.now) (C.standing c.make_call-reply.new.self) h.0 c.make_call-reply.result _ _ c.requires.depth c.make_call-reply.ensures.counted (c.make_call-reply.ensures.known h.0 h.1)
