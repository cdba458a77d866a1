use Rattle.std.proofs.Common.{rules}
use Rattle.safepoint_gate.proofs.Keeps.{enters_keeps}
use Rattle.safepoint_gate.proofs.gate.Gate.arrive.Goals as goal

pub fetch_add-requires : goal.fetch_add-requires
fetch_add-requires c = (search rules, search rules, enters_keeps _ _ _ _ c.requires.away c.requires.single)
