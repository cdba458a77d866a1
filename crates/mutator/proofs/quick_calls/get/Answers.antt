use Rattle.std.proofs.Common.{◌≡◌, ◌∙◌, ℕ, sym, subst, arith}
use Rattle.std.specs.Prelude.{None}
use Rattle.object_layout.specs.declared.calls.Call.TheVariants as call
use Rattle.object_layout.specs.declared.replies.Reply.{Reply}
use Rattle.object_layout.specs.declared.replies.Refusal.TheVariants as refusal
use Rattle.object_layout.specs.declared.replies.Reply.TheVariants as reply
use Rattle.calls_in_flight.specs.Steps.{slot_at}
use Rattle.safepoint_gate.specs.Singles.{Loaded, actor}
use Rattle.mutator.specs.Quick.{Answered}
use Rattle.mutator.proofs.Answering.{thread_in}
use Rattle.mutator.proofs.Asking.{answers_from, length_still, looks_length, looks_slot, quiet_still, shows_slot, then}
use Rattle.mutator.proofs.quick_calls.get.Goals as goal

pub returns-then-s-stack_length-clause-answered : goal.returns-then-s-stack_length-clause-answered
returns-then-s-stack_length-clause-answered c =
    let v = c.args.inside.now.seat.me.0 in
    let u = c.stack_length.new.inside.seat.me.0 in
    let one = c.args.inside.now.single in
    let searched = looks_length v u c.stack_length.result one c.stack_length.ensures.loaded in
    subst (λ (said : Reply). Answered v (call.Get c.args.s) said c.refuse.new.inside.seat.me.0) (sym c.refuse.ensures.reply)
    (answers_from v u one searched c.refuse.new.inside.seat.me.0 (call.Get c.args.s) (reply.Refused refusal.BadSlot) _ c.refuse.ensures.answered.1)

pub shown-reply-requires-clause-slot : goal.shown-reply-requires-clause-slot
shown-reply-requires-clause-slot c =
    let v = c.args.inside.now.seat.me.0 in
    let u = c.stack_length.new.inside.seat.me.0 in
    let one = c.args.inside.now.single in
    let searched = looks_length v u c.stack_length.result one c.stack_length.ensures.loaded in
    let x = c.load_own-word.new.self.seat.me.0 in
    let again = c.stack_length.new.inside.single in
    let at : c.slot_place-at.result ≡ slot_at u.map (actor u).thread c.args.s = c.slot_place-at.ensures ∙ (λ i. slot_at ((c.map.ensures ∙ sym c.stack_length.ensures.gate.1) i) ((c.thread.ensures ∙ sym c.stack_length.new.inside.numbered ∙ thread_in u) i) c.args.s) in
    let loaded = subst (λ (p : ℕ). Loaded u p None c.load_own-word.result x) at c.load_own-word.ensures.loaded in
    let long = length_still v u one searched c.stack_length.result c.stack_length.ensures.length in
    let low = c.if-s-stack_length.false in
    (c.args.s, shows_slot u x c.args.s c.load_own-word.result again (quiet_still v u one searched c.requires.quiet) (omega (arith, long, low)) loaded)

pub returns-clause-answered : goal.returns-clause-answered
returns-clause-answered c =
    let v = c.args.inside.now.seat.me.0 in
    let u = c.stack_length.new.inside.seat.me.0 in
    let one = c.args.inside.now.single in
    let searched = looks_length v u c.stack_length.result one c.stack_length.ensures.loaded in
    let x = c.load_own-word.new.self.seat.me.0 in
    let again = c.stack_length.new.inside.single in
    let at : c.slot_place-at.result ≡ slot_at u.map (actor u).thread c.args.s = c.slot_place-at.ensures ∙ (λ i. slot_at ((c.map.ensures ∙ sym c.stack_length.ensures.gate.1) i) ((c.thread.ensures ∙ sym c.stack_length.new.inside.numbered ∙ thread_in u) i) c.args.s) in
    let loaded = subst (λ (p : ℕ). Loaded u p None c.load_own-word.result x) at c.load_own-word.ensures.loaded in
    let y = c.shown-reply.new.inside.seat.me.0 in
    let both = then v u x one searched (looks_slot u x c.args.s c.load_own-word.result again loaded) in
    subst (λ (said : Reply). Answered v (call.Get c.args.s) said c.tell.new.inside.seat.me.0) (sym c.tell.ensures.reply)
    (answers_from v y one (then v x y one both c.shown-reply.ensures.searched) c.tell.new.inside.seat.me.0 (call.Get c.args.s) c.shown-reply.result _ c.tell.ensures.answered.1)
