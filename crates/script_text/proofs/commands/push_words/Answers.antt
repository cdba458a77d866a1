use Rattle.std.proofs.Common.{decimal, map, append_assoc}
use Rattle.script_text.proofs.Spelling.{spaced_first}
use Rattle.script_text.proofs.commands.push_words.Goals as goal

pub loop-number-init : goal.loop-number-init
loop-number-init c = rw (c.in_ok-write.ensures.bytes, spaced_first c.args.word.now (map decimal c.args.numbers.now)) (simp append_assoc)
