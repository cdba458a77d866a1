use Rattle.mutator.specs.Quick.{closed}
use Rattle.mutator.specs.Running.{view_in}
use Rattle.mutator.proofs.running.Mutator.new_or_collect.Goals as goal

pub returns-in-Err-clause-makes : goal.returns-in-Err-clause-makes
returns-in-Err-clause-makes g c = closed (view_in c.new_object.new.self.inside) c.in-Err.ensures.none c.call_closed.ensures.makes
