use Rattle.heap_tables.proofs.Effects.{load_effect}
use Rattle.heap_tables.proofs.steps.load.Goals as goal

pub returns-clause-pushed : goal.returns-clause-pushed
returns-clause-pushed g c known name values k slot bound =
    load_effect _ known _ _ _ c.args.s c.args.f (c.make_call-reply.ensures.known known k) name values slot bound c.requires.room
