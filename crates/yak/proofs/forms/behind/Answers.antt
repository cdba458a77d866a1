use Rattle.std.proofs.Common.{sym, ◌∙◌}
use Rattle.yak.proofs.Settings.{is_front, no_front, too_short}
use Rattle.yak.proofs.forms.behind.Goals.{then-text-size-via-then-text-size, then-text-size-via-else-text-size+then-ne}
use Rattle.yak.proofs.forms.behind.Goals as goal

pub returns-then-text-size : goal.returns-then-text-size
returns-then-text-size c = elim c.then-text-size.branch [
  | then-text-size-via-then-text-size w ↦ λ rest. too_short c.args.text.now c.args.front.now rest w.if-text-size.true
  | then-text-size-via-else-text-size+then-ne w ↦ λ rest. no_front c.args.text.now c.args.front.now rest (sym w.ne.ensures ∙ w.if-ne.true)
]

pub returns : goal.returns
returns c = is_front c.args.text.now c.args.front.now (sym c.ne.ensures ∙ c.if-ne.false)
