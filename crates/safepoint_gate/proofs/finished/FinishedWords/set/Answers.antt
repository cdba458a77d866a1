use Rattle.std.proofs.Common.{rules}
use Rattle.safepoint_gate.proofs.Closers.{sets_keeps}
use Rattle.safepoint_gate.proofs.finished.FinishedWords.set.Goals as goal

pub store-requires : goal.store-requires
store-requires c = (search rules, search rules, sets_keeps _ _ _ _ _ _ c.args.self.now.closed c.requires.above_gate)
