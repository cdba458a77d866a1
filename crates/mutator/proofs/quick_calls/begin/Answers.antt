use Rattle.std.proofs.Common.{◌≡◌, ◌∙◌, ◌+◌, ℕ, sym, subst, arith, []}
use Rattle.std.specs.Prelude.{None, Some}
use Rattle.object_layout.specs.declared.calls.Call.TheVariants as call
use Rattle.object_layout.specs.declared.calls.Event.{Event}
use Rattle.object_layout.specs.declared.replies.Reply.{Reply}
use Rattle.object_layout.specs.declared.replies.Reply.TheVariants as reply
use Rattle.object_layout.specs.declared.replies.Refusal.TheVariants as refusal
use Rattle.calls_in_flight.specs.OwnStores.{MayStore}
use Rattle.calls_in_flight.specs.Steps.{depth_at}
use Rattle.safepoint_gate.specs.Singles.{Loaded, Stored, actor}
use Rattle.mutator.specs.Quick.{Answered}
use Rattle.mutator.proofs.Answering.{thread_in}
use Rattle.mutator.proofs.Asking.{answers_by_store, answers_from, looks_depth, depth_known, map_still, thread_still, may_begin, quiet_still, rests_still}
use Rattle.mutator.proofs.Refusing.{tells_deep}
use Rattle.mutator.proofs.quick_calls.begin.Goals as goal

pub tell-requires-clause-event : goal.tell-requires-clause-event
tell-requires-clause-event c =
    let v = c.args.inside.now.seat.me.0 in
    let u = c.load_own-depth.new.self.seat.me.0 in
    let one = c.args.inside.now.single in
    let at : c.depth_place-at.result ≡ depth_at v.map (actor v).thread = c.depth_place-at.ensures ∙ (λ i. depth_at ((c.map.ensures ∙ sym c.requires.gate.1) i) ((c.thread.ensures ∙ sym c.args.inside.now.numbered ∙ thread_in v) i)) in
    let loaded = subst (λ (p : ℕ). Loaded v p None c.load_own-depth.result u) at c.load_own-depth.ensures.loaded in
    let searched = looks_depth v u c.load_own-depth.result one loaded in
    let deep = depth_known v u c.load_own-depth.result one c.requires.quiet loaded in
    let most = c.if-depth-from.true in
    let from = c.from.ensures in
    tells_deep u.map (actor u) (rests_still v u one searched c.requires.quiet) (omega (arith, deep, most, from))

pub returns-then-depth-from-clause-answered : goal.returns-then-depth-from-clause-answered
returns-then-depth-from-clause-answered c =
    let v = c.args.inside.now.seat.me.0 in
    let u = c.load_own-depth.new.self.seat.me.0 in
    let one = c.args.inside.now.single in
    let at : c.depth_place-at.result ≡ depth_at v.map (actor v).thread = c.depth_place-at.ensures ∙ (λ i. depth_at ((c.map.ensures ∙ sym c.requires.gate.1) i) ((c.thread.ensures ∙ sym c.args.inside.now.numbered ∙ thread_in v) i)) in
    let loaded = subst (λ (p : ℕ). Loaded v p None c.load_own-depth.result u) at c.load_own-depth.ensures.loaded in
    let searched = looks_depth v u c.load_own-depth.result one loaded in
    subst (λ (said : Reply). Answered v call.Begin said c.tell.new.inside.seat.me.0) (sym c.tell.ensures.reply)
    (answers_from v u one searched c.tell.new.inside.seat.me.0 call.Begin (reply.Refused refusal.TooDeep) _ c.tell.ensures.answered.1)

pub store_own-requires-clause-own : goal.store_own-requires-clause-own
store_own-requires-clause-own c =
    let v = c.args.inside.now.seat.me.0 in
    let u = c.load_own-depth.new.self.seat.me.0 in
    let one = c.args.inside.now.single in
    let at : c.depth_place-at.result ≡ depth_at v.map (actor v).thread = c.depth_place-at.ensures ∙ (λ i. depth_at ((c.map.ensures ∙ sym c.requires.gate.1) i) ((c.thread.ensures ∙ sym c.args.inside.now.numbered ∙ thread_in v) i)) in
    let loaded = subst (λ (p : ℕ). Loaded v p None c.load_own-depth.result u) at c.load_own-depth.ensures.loaded in
    let searched = looks_depth v u c.load_own-depth.result one loaded in
    let deep = depth_known v u c.load_own-depth.result one c.requires.quiet loaded in
    let low = c.if-depth-from.false in
    let from = c.from.ensures in
    let here : c.depth_place-at.result ≡ depth_at u.map (actor u).thread = at ∙ (λ i. depth_at (sym (map_still v u one searched) i) (sym (thread_still v u one searched) i)) in
    subst (λ (y : ℕ × Event). MayStore u.map (actor u) y.0 (c.load_own-depth.result + 1) (Some y.1)) (λ i. (sym here i, sym c.told.ensures i))
    (may_begin u c.load_own-depth.result (quiet_still v u one searched c.requires.quiet) deep (omega (arith, low, from)))

pub returns-clause-answered : goal.returns-clause-answered
returns-clause-answered c =
    let v = c.args.inside.now.seat.me.0 in
    let u = c.load_own-depth.new.self.seat.me.0 in
    let one = c.args.inside.now.single in
    let at : c.depth_place-at.result ≡ depth_at v.map (actor v).thread = c.depth_place-at.ensures ∙ (λ i. depth_at ((c.map.ensures ∙ sym c.requires.gate.1) i) ((c.thread.ensures ∙ sym c.args.inside.now.numbered ∙ thread_in v) i)) in
    let loaded = subst (λ (p : ℕ). Loaded v p None c.load_own-depth.result u) at c.load_own-depth.ensures.loaded in
    let searched = looks_depth v u c.load_own-depth.result one loaded in
    let w = c.store_own.new.self.seat.me.0 in
    answers_from v u one searched w call.Begin reply.Ok []
    (answers_by_store u w c.depth_place-at.result (c.load_own-depth.result + 1) call.Begin (λ s t must. must)
    (subst (λ (e : Event). Stored u c.depth_place-at.result (c.load_own-depth.result + 1) (Some e) w) c.told.ensures c.store_own.ensures.stored))
