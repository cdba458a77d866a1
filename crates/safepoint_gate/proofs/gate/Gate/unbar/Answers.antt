use Rattle.std.proofs.Common.{rules}
use Rattle.safepoint_gate.proofs.Closers.{opens_keeps}
use Rattle.safepoint_gate.proofs.gate.Gate.unbar.Goals as goal

pub fetch_and-requires : goal.fetch_and-requires
fetch_and-requires c = (search rules, search rules, opens_keeps _ _ _ _ c.requires.closed c.requires.single c.requires.still)
