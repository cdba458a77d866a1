use Rattle.std.proofs.Common.{◌+◌, drop, string_bytes}
use Rattle.script_text.proofs.Spelling.{IsPrintedTo}
use Rattle.script_text.proofs.printing.script_string.Given as goal

abbrev pub invariant-lines : goal.invariant-lines
invariant-lines l = IsPrintedTo l.script (string_bytes l.text) (l.printed + 1) (drop l.line-index l.script.lines)
