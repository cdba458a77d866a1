use Rattle.std.proofs.Common.{◌≡◌, ◌∙◌, ◌-◌, ℕ, sym, subst, arith, []}
use Rattle.std.specs.Prelude.{Some}
use Rattle.object_layout.specs.declared.calls.Call.TheVariants as call
use Rattle.object_layout.specs.declared.calls.Event.{Event}
use Rattle.object_layout.specs.declared.replies.Reply.{Reply}
use Rattle.object_layout.specs.declared.replies.Reply.TheVariants as reply
use Rattle.object_layout.specs.declared.replies.Refusal.TheVariants as refusal
use Rattle.calls_in_flight.specs.OwnStores.{MayStore}
use Rattle.calls_in_flight.specs.Steps.{length_at}
use Rattle.safepoint_gate.specs.Singles.{Stored, actor}
use Rattle.mutator.specs.Quick.{Answered}
use Rattle.mutator.proofs.Answering.{thread_in}
use Rattle.mutator.proofs.Asking.{answers_by_store, answers_from, length_still, looks_length, may_pop, quiet_still}
use Rattle.mutator.proofs.quick_calls.pop.Goals as goal

pub returns-then-length-eq0-clause-answered : goal.returns-then-length-eq0-clause-answered
returns-then-length-eq0-clause-answered c =
    let v = c.args.inside.now.seat.me.0 in
    let u = c.stack_length-length.new.inside.seat.me.0 in
    let one = c.args.inside.now.single in
    let searched = looks_length v u c.stack_length-length.result one c.stack_length-length.ensures.loaded in
    subst (λ (said : Reply). Answered v call.Pop said c.refuse.new.inside.seat.me.0) (sym c.refuse.ensures.reply)
    (answers_from v u one searched c.refuse.new.inside.seat.me.0 call.Pop (reply.Refused refusal.StackEmpty) _ c.refuse.ensures.answered.1)

pub store_own-requires-clause-own : goal.store_own-requires-clause-own
store_own-requires-clause-own c =
    let v = c.args.inside.now.seat.me.0 in
    let u = c.stack_length-length.new.inside.seat.me.0 in
    let one = c.args.inside.now.single in
    let searched = looks_length v u c.stack_length-length.result one c.stack_length-length.ensures.loaded in
    let place : c.length_place-at.result ≡ length_at u.map (actor u).thread = c.length_place-at.ensures ∙ (λ i. length_at ((c.map.ensures ∙ sym c.stack_length-length.ensures.gate.1) i) ((c.thread.ensures ∙ sym c.stack_length-length.new.inside.numbered ∙ thread_in u) i)) in
    let long = length_still v u one searched c.stack_length-length.result c.stack_length-length.ensures.length in
    let some = c.if-length-eq0.false in
    subst (λ (y : ℕ × Event). MayStore u.map (actor u) y.0 (c.stack_length-length.result - 1) (Some y.1)) (λ i. (sym place i, sym c.told.ensures i))
    (may_pop u (c.stack_length-length.result - 1) (quiet_still v u one searched c.requires.quiet) (omega (arith, long, some)))

pub returns-clause-answered : goal.returns-clause-answered
returns-clause-answered c =
    let v = c.args.inside.now.seat.me.0 in
    let u = c.stack_length-length.new.inside.seat.me.0 in
    let one = c.args.inside.now.single in
    let searched = looks_length v u c.stack_length-length.result one c.stack_length-length.ensures.loaded in
    let w = c.store_own.new.self.seat.me.0 in
    answers_from v u one searched w call.Pop reply.Ok []
    (answers_by_store u w c.length_place-at.result (c.stack_length-length.result - 1) call.Pop (λ s t must. must)
    (subst (λ (e : Event). Stored u c.length_place-at.result (c.stack_length-length.result - 1) (Some e) w) c.told.ensures c.store_own.ensures.stored))
