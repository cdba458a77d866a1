use Rattle.std.proofs.Common.{◌≡◌, ◌^◌, ◌<◌}
use Rattle.yak_model.specs.declared.TheConstants.{BYTE_VALUES}
use Rattle.yak_model.specs.Tables.{digits}
use Rattle.heap_tables.proofs.keys.group.Given as goal

abbrev pub invariant-loop-j : goal.invariant-loop-j
invariant-loop-j l = (l.value < BYTE_VALUES ^ l.j) × (l.value ≡ digits l.word l.start l.j)
