use Rattle.std.proofs.Common.{rules}
use Rattle.safepoint_gate.proofs.Keeps.{asks_keeps}
use Rattle.safepoint_gate.proofs.gate.Gate.ask.Goals as goal

pub fetch_or-requires : goal.fetch_or-requires
fetch_or-requires c = (search rules, search rules, asks_keeps _ _ _ _ c.requires.inside c.requires.single c.requires.rests)
