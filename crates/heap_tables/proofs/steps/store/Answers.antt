use Rattle.heap_tables.proofs.Effects.{store_aside, store_does}
use Rattle.heap_tables.proofs.steps.store.Goals as goal

pub returns-clause-aside : goal.returns-clause-aside
returns-clause-aside g c other after k lacks gives =
    let C = g.C.Caller in
    let h = c.requires.field in
    let s = C.standing c.args.caller.now in
    let ok = store_does s h.0 _ _ _ c.args.s c.args.f c.args.x (c.make_call-reply.ensures.known h.0 h.3) h.1 h.2 h.4 h.5 c.requires.value in
    store_aside s other _ _ _ c.args.s c.args.f c.args.x (c.make_call-reply.ensures.known other k) ok h.1 h.4.0 lacks after gives
