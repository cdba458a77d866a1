use Rattle.heap_tables.proofs.Effects.{is_false, load_null, load_past, load_said, load_effect}
use Rattle.heap_tables.proofs.steps.try_load.Goals as goal

pub returns-clause-null : goal.returns-clause-null
returns-clause-null g c null =
    let h = c.requires.some in
    let r = load_null _ h.0 _ _ _ c.args.s c.args.f (c.make_call-reply.ensures.known h.0 h.1) null in
    (is_false c.is_ok.result (λ t. r.0 (c.is_ok.ensures.0 t)), r.1)

pub returns-clause-past : goal.returns-clause-past
returns-clause-past g c known name values k slot past =
    let r = load_past _ known _ _ _ c.args.s c.args.f (c.make_call-reply.ensures.known known k) name values slot past in
    (is_false c.is_ok.result (λ t. r.0 (c.is_ok.ensures.0 t)), r.1)

pub returns-clause-pushed : goal.returns-clause-pushed
returns-clause-pushed g c known name values k slot bound =
    let m = c.make_call-reply.ensures.known known k in
    (c.is_ok.ensures.1 (load_said _ known _ _ _ c.args.s c.args.f m name values slot bound c.requires.room), load_effect _ known _ _ _ c.args.s c.args.f m name values slot bound c.requires.room)
