use Rattle.heap_core.proofs.collections.collect_control.Goals as goal

pub returns-clause-collected : goal.returns-clause-collected
returns-clause-collected g c = record { state = c.collect.ensures.state; room = c.collect.ensures.room }
