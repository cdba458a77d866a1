use Rattle.std.proofs.Common.{ℕ, List, ◌++◌, codes, sym, ap, ◌∙◌, append_assoc}
use Rattle.script_text.specs.Replies.{reply_line, reply_text}
use Rattle.yak.proofs.Told.{behind_zero}
use Rattle.yak.proofs.summaries.push_reply.Goals as goal

pub returns-in-Ok : goal.returns-in-Ok
returns-in-Ok c =
    c.in-Ok.ensures.items
    ∙ ap (λ (l : List ℕ). c.args.text.now.items ++ l)
    (behind_zero c.deref.result.now c.args.reply (c.deref.ensures.value ∙ c.in_ok-print_reply.ensures.ok ∙ ap (λ (l : List ℕ). l ++ reply_line 0 c.args.reply) c.new-line.ensures.items))
    ∙ sym (append_assoc c.args.text.now.items (reply_text c.args.reply) (codes "\n"))
