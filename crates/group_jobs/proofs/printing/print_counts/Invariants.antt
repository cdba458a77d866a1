use Rattle.std.proofs.Common.{◌≡◌, take}
use Rattle.std.specs.List.{flat_map}
use Rattle.group_jobs.specs.Printing.{count_line}
use Rattle.group_jobs.proofs.printing.print_counts.Given as goal

abbrev pub invariant-loop-counted : goal.invariant-loop-counted
invariant-loop-counted l = l.text.items ≡ flat_map count_line (take l.counted-index l.list)
