use Rattle.std.proofs.Common.{◌-◌, length}
use Rattle.yak_io.proofs.Transfers.{Reading}
use Rattle.yak_io.proofs.whole.read_all.Given as goal

abbrev pub invariant-turns : goal.invariant-turns
invariant-turns g l = Reading (g.S.Source.faults l.initial.source) (g.S.Source.faults l.source) (g.S.Source.left l.initial.source) (g.S.Source.left l.source) l.bytes.items l.limit

-- each turn that goes on takes at least one byte, and the bytes stay within the limit
abbrev pub decreases-turns : goal.decreases-turns
decreases-turns g l = l.limit - length l.bytes.items
