use Rattle.std.proofs.Common.{take}
use Rattle.group_jobs.proofs.Cutting.{PartsNowhere}
use Rattle.group_jobs.proofs.words.cut.Given as goal

abbrev pub invariant-loop-i : goal.invariant-loop-i
invariant-loop-i l = PartsNowhere (take l.i l.bytes)
