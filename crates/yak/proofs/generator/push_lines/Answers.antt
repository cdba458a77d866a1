use Rattle.std.proofs.Common.{take}
use Rattle.std.proofs.lemmas.List.{take_more}
use Rattle.object_layout.specs.declared.calls.Call.TheVariants.{Int}
use Rattle.yak.proofs.Rounds.{lines_fit, lines_more}
use Rattle.yak.proofs.generator.push_lines.Goals as goal

pub push_line-requires : goal.push_line-requires
push_line-requires c = lines_fit c.args.lines.now.items c.commands.lines.items c.args.commands.now c.commands.command-index c.commands.invariant c.commands-test.true c.requires

pub commands-preserved : goal.commands-preserved
commands-preserved c =
    rw (take_more c.args.commands.now c.commands.command-index (0, Int 0) c.commands-test.true)
    (lines_more c.args.lines.now.items c.commands.lines.items c.push_line.new.lines.items (take c.commands.command-index c.args.commands.now) _
    c.commands.invariant c.in_ok-push_line.ensures)
