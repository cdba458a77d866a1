use Rattle.std.proofs.Common.{sym, subst, arith, []}
use Rattle.object_layout.specs.declared.replies.Reply.{Reply}
use Rattle.object_layout.specs.declared.replies.Reply.TheVariants as reply
use Rattle.object_layout.specs.declared.replies.Refusal.TheVariants as refusal
use Rattle.safepoint_gate.specs.Singles.{actor}
use Rattle.mutator.specs.Quick.{Answered}
use Rattle.mutator.proofs.Asking.{answers_from, length_still, looks_length, rests_still}
use Rattle.mutator.proofs.Refusing.{tells_full}
use Rattle.mutator.proofs.quick_calls.push_word.Goals as goal

pub refuse-requires-clause-event : goal.refuse-requires-clause-event
refuse-requires-clause-event c =
    let v = c.args.inside.now.seat.me.0 in
    let u = c.stack_length-length.new.inside.seat.me.0 in
    let one = c.args.inside.now.single in
    let searched = looks_length v u c.stack_length-length.result one c.stack_length-length.ensures.loaded in
    let long = length_still v u one searched c.stack_length-length.result c.stack_length-length.ensures.length in
    let full = c.if-length-ge-STACK_SLOTS.true in
    tells_full u.map (actor u) c.args.call c.args.word (c.requires.push u.map (actor u)) (rests_still v u one searched c.requires.quiet) (omega (arith, long, full))

pub returns-then-length-ge-STACK_SLOTS-clause-answered : goal.returns-then-length-ge-STACK_SLOTS-clause-answered
returns-then-length-ge-STACK_SLOTS-clause-answered c =
    let v = c.args.inside.now.seat.me.0 in
    let u = c.stack_length-length.new.inside.seat.me.0 in
    let one = c.args.inside.now.single in
    let searched = looks_length v u c.stack_length-length.result one c.stack_length-length.ensures.loaded in
    subst (λ (said : Reply). Answered v c.args.call said c.refuse.new.inside.seat.me.0) (sym c.refuse.ensures.reply)
    (answers_from v u one searched c.refuse.new.inside.seat.me.0 c.args.call (reply.Refused refusal.StackFull) _ c.refuse.ensures.answered.1)

pub returns-clause-answered : goal.returns-clause-answered
returns-clause-answered c =
    let v = c.args.inside.now.seat.me.0 in
    let u = c.stack_length-length.new.inside.seat.me.0 in
    let one = c.args.inside.now.single in
    let searched = looks_length v u c.stack_length-length.result one c.stack_length-length.ensures.loaded in
    subst (λ (said : Reply). Answered v c.args.call said c.grow.new.inside.seat.me.0) (sym c.grow.ensures.reply)
    (answers_from v u one searched c.grow.new.inside.seat.me.0 c.args.call reply.Ok [] c.grow.ensures.answered)
