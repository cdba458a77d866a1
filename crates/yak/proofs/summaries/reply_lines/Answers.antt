use Rattle.std.proofs.Common.{◌<◌, length, take, sym, ◌∙◌, arith}
use Rattle.std.proofs.lemmas.List.{length-take-le, take_more}
use Rattle.object_layout.specs.declared.calls.Call.TheVariants.{Int}
use Rattle.object_layout.specs.declared.replies.Reply.TheVariants.{Ok}
use Rattle.yak.proofs.Told.{lines_text_more}
use Rattle.yak.proofs.summaries.reply_lines.Goals as goal

pub lines-preserved : goal.lines-preserved
lines-preserved c =
    let inside = c.lines-test.true in
    let each = c.requires in
    let fits : c.lines.at < length c.args.replies.now = omega (arith, inside, each) in
    let few = length-take-le c.lines.at c.args.lines.now (omega (arith, inside)) in
    let many = length-take-le c.lines.at c.args.replies.now (omega (arith, fits)) in
    rw (take_more c.args.lines.now c.lines.at (record { number = 0; thread = 0; call = Int 0 }) inside, take_more c.args.replies.now c.lines.at Ok fits)
    (c.in_ok-print_reply.ensures.ok ∙ rw c.lines.invariant (sym (lines_text_more (take c.lines.at c.args.lines.now) (take c.lines.at c.args.replies.now) _ _ (many ∙ sym few))))
