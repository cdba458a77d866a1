use Rattle.std.proofs.Common.{rules}
use Rattle.safepoint_gate.proofs.Closers.{gets_keeps}
use Rattle.safepoint_gate.proofs.closing.ClosedWords.get.Goals as goal

pub load-requires : goal.load-requires
load-requires c = (search rules, search rules, gets_keeps _ _ _ _ _ c.args.self.now.closed c.requires.above_gate)
