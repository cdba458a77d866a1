use Rattle.std.proofs.Common.{◌≡◌, ◌++◌, map, length}
use Rattle.sums_by_key.specs.Held.{AreSummable}
use Rattle.sums_by_key.specs.Sums.{line_text, total_of}
use Rattle.sums_by_key.proofs.lines.read_lines.Given as goal

abbrev pub invariant-texts : goal.invariant-texts
invariant-texts l = record {
  summable : AreSummable l.lines.items;
  total : l.total ≡ total_of l.lines.items;
  read : l.initial.texts ≡ map line_text l.lines.items ++ l.texts;
}

abbrev pub decreases-texts : goal.decreases-texts
decreases-texts l = length l.texts
