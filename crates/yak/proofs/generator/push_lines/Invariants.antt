use Rattle.std.proofs.Common.{◌≡◌, ◌+◌, ◌++◌, length, take}
use Rattle.yak.specs.Generator.{numbered}
use Rattle.yak.proofs.generator.push_lines.Given as goal

-- the commands so far are on lines
abbrev pub invariant-commands : goal.invariant-commands
invariant-commands l = l.lines.items ≡ l.fn.lines.items ++ numbered (length l.fn.lines.items + 2) (take l.command-index l.commands)
