use Rattle.std.proofs.Common.{rules}
use Rattle.safepoint_gate.proofs.Keeps.{looks_keeps}
use Rattle.safepoint_gate.proofs.gate.Gate.look.Goals as goal

pub load-requires : goal.load-requires
load-requires c = (search rules, search rules, looks_keeps _ _ _ _ c.requires.asked c.requires.single)
