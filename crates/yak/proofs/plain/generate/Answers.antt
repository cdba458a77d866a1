use Rattle.std.proofs.Common.{List, length, ap, arith}
use Rattle.object_layout.specs.declared.replies.Reply.{Reply}
use Rattle.script_text.specs.ScriptContents.{ScriptContents}
use Rattle.yak.proofs.Rounds.{few_lines, some_lines}
use Rattle.yak.proofs.plain.generate.Goals as goal

pub summed_up-text-requires-clause-some : goal.summed_up-text-requires-clause-some
summed_up-text-requires-clause-some c = λ empty.
    let none = ap length empty in
    let value = ap (λ (l : List Reply). length l) c.deref-in-Ok-replay.ensures.value in
    let each = c.in-Ok-replay.ensures.each in
    let script = ap (λ (s : ScriptContents). length s.lines) c.in-Ok.ensures.script in
    let some = some_lines c.args.rounds in
    omega (arith, none, value, each, script, some)

pub summed_up-text-requires-clause-few : goal.summed_up-text-requires-clause-few
summed_up-text-requires-clause-few c =
    let value = ap (λ (l : List Reply). length l) c.deref-in-Ok-replay.ensures.value in
    let each = c.in-Ok-replay.ensures.each in
    let script = ap (λ (s : ScriptContents). length s.lines) c.in-Ok.ensures.script in
    let few = few_lines c.args.rounds c.requires in
    omega (arith, value, each, script, few)
