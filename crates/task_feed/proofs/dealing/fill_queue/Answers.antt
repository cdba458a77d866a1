use Rattle.task_feed.proofs.Deals.{begins}
use Rattle.task_feed.proofs.dealing.fill_queue.Goals as goal

pub ruled-requires-clause-rule : goal.ruled-requires-clause-rule
ruled-requires-clause-rule g c = begins
