use Rattle.std.proofs.Common.{◌≡◌, ◌∙◌, ◌+◌, ℕ, sym, subst}
use Rattle.std.specs.Prelude.{None, Some}
use Rattle.object_layout.specs.declared.calls.Event.{Event}
use Rattle.calls_in_flight.specs.OwnStores.{MayStore}
use Rattle.calls_in_flight.specs.Steps.{length_at, slot_at}
use Rattle.safepoint_gate.specs.Singles.{Stored, actor}
use Rattle.mutator.proofs.Answering.{thread_in}
use Rattle.mutator.proofs.Asking.{grown, may_grow, may_lay}
use Rattle.mutator.proofs.quick_calls.grow.Goals as goal

pub store_own-requires-clause-own : goal.store_own-requires-clause-own
store_own-requires-clause-own c =
    let v = c.args.inside.now.seat.me.0 in
    let at : c.slot_place.result ≡ slot_at v.map (actor v).thread c.args.length = c.slot_place.ensures ∙ (λ i. slot_at ((c.map-map.ensures ∙ sym c.requires.gate.1) i) ((c.thread-thread.ensures ∙ sym c.args.inside.now.numbered ∙ thread_in v) i) c.args.length) in
    subst (λ (p : ℕ). MayStore v.map (actor v) p c.args.word None) (sym at)
    (may_lay v c.args.inside.now.single c.requires.quiet c.args.length c.requires.length c.requires.room c.args.word c.args.call c.requires.push)

pub store_own-requires-2-clause-own : goal.store_own-requires-2-clause-own
store_own-requires-2-clause-own c =
    let v = c.args.inside.now.seat.me.0 in
    let u = c.store_own.new.self.seat.me.0 in
    let at : c.slot_place.result ≡ slot_at v.map (actor v).thread c.args.length = c.slot_place.ensures ∙ (λ i. slot_at ((c.map-map.ensures ∙ sym c.requires.gate.1) i) ((c.thread-thread.ensures ∙ sym c.args.inside.now.numbered ∙ thread_in v) i) c.args.length) in
    let there : c.length_place.result ≡ length_at v.map (actor v).thread = c.length_place.ensures ∙ (λ i. length_at ((c.map-map.ensures ∙ sym c.requires.gate.1) i) ((c.thread-thread.ensures ∙ sym c.args.inside.now.numbered ∙ thread_in v) i)) in
    let stored = subst (λ (p : ℕ). Stored v p c.args.word None u) at c.store_own.ensures.stored in
    subst (λ (y : ℕ × Event). MayStore u.map (actor u) y.0 (c.args.length + 1) (Some y.1)) (λ i. (sym there i, sym c.told.ensures i))
    (may_grow v c.args.inside.now.single c.requires.quiet c.args.length c.requires.length c.requires.room c.args.word c.args.call c.requires.push u stored)

pub returns-clause-answered : goal.returns-clause-answered
returns-clause-answered c =
    let v = c.args.inside.now.seat.me.0 in
    let u = c.store_own.new.self.seat.me.0 in
    let w = c.store_own-2.new.self.seat.me.0 in
    let at : c.slot_place.result ≡ slot_at v.map (actor v).thread c.args.length = c.slot_place.ensures ∙ (λ i. slot_at ((c.map-map.ensures ∙ sym c.requires.gate.1) i) ((c.thread-thread.ensures ∙ sym c.args.inside.now.numbered ∙ thread_in v) i) c.args.length) in
    let stored = subst (λ (p : ℕ). Stored v p c.args.word None u) at c.store_own.ensures.stored in
    grown v c.args.inside.now.single c.requires.quiet c.args.length c.requires.length c.requires.room c.args.word c.args.call c.requires.push u stored w c.length_place.result
    (subst (λ (e : Event). Stored u c.length_place.result (c.args.length + 1) (Some e) w) c.told.ensures c.store_own-2.ensures.stored)
