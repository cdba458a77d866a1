use Rattle.yak.proofs.SharedCounts.{answers_shared}
use Rattle.yak.proofs.shared.count_shared.Goals as goal

pub returns : goal.returns
returns g c = answers_shared c.args.options c.written.result _ _ _ c.written.ensures
