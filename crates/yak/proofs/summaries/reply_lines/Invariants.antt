use Rattle.std.proofs.Common.{◌≡◌, take}
use Rattle.yak.specs.Texts.{replies_text}
use Rattle.yak.proofs.summaries.reply_lines.Given as goal

-- the text of the replies so far
abbrev pub invariant-lines : goal.invariant-lines
invariant-lines l = l.text.items ≡ replies_text (take l.at l.lines) (take l.at l.replies)
