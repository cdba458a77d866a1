use Rattle.std.proofs.Common.{rules}
use Rattle.safepoint_gate.proofs.Keeps.{leaves_keeps}
use Rattle.safepoint_gate.proofs.gate.Gate.go.Goals as goal

pub fetch_sub-requires : goal.fetch_sub-requires
fetch_sub-requires c = (search rules, search rules, leaves_keeps _ _ _ _ c.requires.present.0 c.requires.present.1 c.requires.present.2 c.requires.rests)
