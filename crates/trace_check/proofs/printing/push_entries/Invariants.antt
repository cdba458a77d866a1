use Rattle.std.proofs.Common.{◌≡◌, ◌++◌, drop}
use Rattle.trace_check.specs.Reading.{HaveNumbers}
use Rattle.trace_check.specs.Texts.{entries_text}
use Rattle.trace_check.proofs.printing.push_entries.Given as goal

abbrev pub invariant-entries : goal.invariant-entries
invariant-entries l = record {
  text : l.text.items ++ entries_text (drop l.entry-index l.entries) ≡ l.initial.text.items ++ entries_text l.entries;
  numbers : HaveNumbers (drop l.entry-index l.entries) → HaveNumbers l.entries;
}
