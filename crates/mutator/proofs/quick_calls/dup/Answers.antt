use Rattle.std.proofs.Common.{◌≡◌, ◌∙◌, ℕ, sym, subst, []}
use Rattle.std.specs.Prelude.{None}
use Rattle.object_layout.specs.declared.calls.Call.TheVariants as call
use Rattle.object_layout.specs.declared.replies.Reply.{Reply}
use Rattle.object_layout.specs.declared.replies.Reply.TheVariants as reply
use Rattle.object_layout.specs.declared.replies.Refusal.TheVariants as refusal
use Rattle.calls_in_flight.specs.Steps.{slot_at}
use Rattle.safepoint_gate.specs.Singles.{Loaded, actor}
use Rattle.mutator.specs.Quick.{Answered}
use Rattle.mutator.proofs.Answering.{thread_in}
use Rattle.mutator.proofs.Asking.{answers_from, looks_length, looks_slot, then}
use Rattle.mutator.proofs.quick_calls.dup.Goals as goal

pub returns-then-s-length-clause-answered : goal.returns-then-s-length-clause-answered
returns-then-s-length-clause-answered c =
    let v = c.args.inside.now.seat.me.0 in
    let u = c.stack_length-length.new.inside.seat.me.0 in
    let one = c.args.inside.now.single in
    let searched = looks_length v u c.stack_length-length.result one c.stack_length-length.ensures.loaded in
    subst (λ (said : Reply). Answered v (call.Dup c.args.s) said c.refuse.new.inside.seat.me.0) (sym c.refuse.ensures.reply)
    (answers_from v u one searched c.refuse.new.inside.seat.me.0 (call.Dup c.args.s) (reply.Refused refusal.BadSlot) _ c.refuse.ensures.answered.1)

pub returns-then-length-ge-STACK_SLOTS-clause-answered : goal.returns-then-length-ge-STACK_SLOTS-clause-answered
returns-then-length-ge-STACK_SLOTS-clause-answered c =
    let v = c.args.inside.now.seat.me.0 in
    let u = c.stack_length-length.new.inside.seat.me.0 in
    let one = c.args.inside.now.single in
    let searched = looks_length v u c.stack_length-length.result one c.stack_length-length.ensures.loaded in
    subst (λ (said : Reply). Answered v (call.Dup c.args.s) said c.refuse-then-length-ge-STACK_SLOTS.new.inside.seat.me.0) (sym c.refuse-then-length-ge-STACK_SLOTS.ensures.reply)
    (answers_from v u one searched c.refuse-then-length-ge-STACK_SLOTS.new.inside.seat.me.0 (call.Dup c.args.s) (reply.Refused refusal.StackFull) _ c.refuse-then-length-ge-STACK_SLOTS.ensures.answered.1)

pub returns-clause-answered : goal.returns-clause-answered
returns-clause-answered c =
    let v = c.args.inside.now.seat.me.0 in
    let u = c.stack_length-length.new.inside.seat.me.0 in
    let one = c.args.inside.now.single in
    let searched = looks_length v u c.stack_length-length.result one c.stack_length-length.ensures.loaded in
    let at : c.slot_place-at.result ≡ slot_at u.map (actor u).thread c.args.s = c.slot_place-at.ensures ∙ (λ i. slot_at ((c.map.ensures ∙ sym c.stack_length-length.ensures.gate.1) i) ((c.thread.ensures ∙ sym c.stack_length-length.new.inside.numbered ∙ thread_in u) i) c.args.s) in
    let x = c.load_own-word.new.self.seat.me.0 in
    let loaded = subst (λ (p : ℕ). Loaded u p None c.load_own-word.result x) at c.load_own-word.ensures.loaded in
    let both = then v u x one searched (looks_slot u x c.args.s c.load_own-word.result c.stack_length-length.new.inside.single loaded) in
    subst (λ (said : Reply). Answered v (call.Dup c.args.s) said c.grow.new.inside.seat.me.0) (sym c.grow.ensures.reply)
    (answers_from v x one both c.grow.new.inside.seat.me.0 (call.Dup c.args.s) reply.Ok [] c.grow.ensures.answered)
