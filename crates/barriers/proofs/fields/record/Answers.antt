use Rattle.std.proofs.Common.{◌≡◌, ℕ, ◌+◌, ◌∙◌, sym, ap, subst, arith, None, []}
use Rattle.object_layout.specs.declared.TheConstants.{OBJECT_WORDS}
use Rattle.calls_in_flight.specs.OwnStores.{MayStore}
use Rattle.calls_in_flight.specs.Steps.{entry_at, logged_at}
use Rattle.safepoint_gate.specs.Singles.{Loaded, Stored, actor}
use Rattle.barriers.proofs.StillKnown.{keeps-crossing, keeps-stores, learns-word}
use Rattle.barriers.proofs.MovedViews.{first-actor, in-block, loaded-keeps, loads-quiet}
use Rattle.barriers.proofs.Logging.{has-logged, length-shows, may-fill, may-log, no-room}
use Rattle.barriers.proofs.fields.record.Goals as goal

pub returns-then-length-clause-full : goal.returns-then-length-clause-full
returns-then-length-clause-full c =
    let before = c.args.inside.now in
    let v = before.seat.me.0 in
    let w = c.load_own-length.new.self.seat.me.0 in
    let n = c.load_own-length.result in
    let place = in-block logged_at before c.args.gate.now c.map.result c.thread-thread.result c.logged_place.result c.logged_place.ensures c.map.ensures c.thread-thread.ensures c.requires.gate ∙ ap (logged_at v.map) (sym (first-actor v)) in
    no-room v w n c.requires.quiet (subst (λ p. Loaded v p None n w) place c.load_own-length.ensures.loaded) before.single c.if-length.true

pub store_own-requires-clause-own : goal.store_own-requires-clause-own
store_own-requires-clause-own c =
    let before = c.args.inside.now in
    let after = c.load_own-length.new.self in
    let v = before.seat.me.0 in
    let w = after.seat.me.0 in
    let n = c.load_own-length.result in
    let place = in-block logged_at before c.args.gate.now c.map.result c.thread-thread.result c.logged_place.result c.logged_place.ensures c.map.ensures c.thread-thread.ensures c.requires.gate ∙ ap (logged_at v.map) (sym (first-actor v)) in
    let loaded = subst (λ p. Loaded v p None n w) place c.load_own-length.ensures.loaded in
    let keeps = loaded-keeps v w _ n loaded in
    let entry = in-block (λ m t. entry_at m t n) after c.args.gate.now c.map-2.result c.thread-thread.result c.entry_place.result c.entry_place.ensures c.map-2.ensures (c.thread-thread.ensures ∙ sym c.load_own-length.ensures.thread) c.load_own-length.ensures.gate in
    let slot : c.from.result + c.from-2.result + c.from-3.result ≡ c.args.object.0 + OBJECT_WORDS + c.args.field = omega (arith, c.from.ensures, c.from-2.ensures, c.from-3.ensures) in
    subst (λ (x : ℕ × ℕ). MayStore w.map (actor w) x.0 x.1 None) (λ i. (sym entry i, sym slot i))
    (may-fill w after.single (loads-quiet v w _ _ loaded.0 c.requires.quiet) loaded.1.so n (length-shows v w n c.requires.quiet loaded) c.if-length.false c.args.call c.args.object.0 c.args.field c.args.word
    (keeps-stores v.map w.map (actor v) (actor w) keeps c.args.call c.args.object.0 c.args.field c.args.word c.requires.field)
    (keeps-crossing v.map w.map (actor v) (actor w) keeps c.args.object.0 c.args.word c.requires.crossing))

pub store_own-requires-2-clause-own : goal.store_own-requires-2-clause-own
store_own-requires-2-clause-own c =
    let before = c.args.inside.now in
    let after = c.load_own-length.new.self in
    let later = c.store_own.new.self in
    let v = before.seat.me.0 in
    let w = after.seat.me.0 in
    let u = later.seat.me.0 in
    let n = c.load_own-length.result in
    let place = in-block logged_at before c.args.gate.now c.map.result c.thread-thread.result c.logged_place.result c.logged_place.ensures c.map.ensures c.thread-thread.ensures c.requires.gate ∙ ap (logged_at v.map) (sym (first-actor v)) in
    let loaded = subst (λ p. Loaded v p None n w) place c.load_own-length.ensures.loaded in
    let keeps = loaded-keeps v w _ n loaded in
    let entry = in-block (λ m t. entry_at m t n) after c.args.gate.now c.map-2.result c.thread-thread.result c.entry_place.result c.entry_place.ensures c.map-2.ensures (c.thread-thread.ensures ∙ sym c.load_own-length.ensures.thread) c.load_own-length.ensures.gate in
    let slot : c.from.result + c.from-2.result + c.from-3.result ≡ c.args.object.0 + OBJECT_WORDS + c.args.field = omega (arith, c.from.ensures, c.from-2.ensures, c.from-3.ensures) in
    let stored = subst (λ (x : ℕ × ℕ). Stored w x.0 x.1 None u) (λ i. (entry i, slot i)) c.store_own.ensures.stored in
    let length = in-block logged_at later c.args.gate.now c.map-3.result c.thread-thread.result c.logged_place-2.result c.logged_place-2.ensures c.map-3.ensures (c.thread-thread.ensures ∙ sym c.load_own-length.ensures.thread ∙ sym c.store_own.ensures.thread) c.store_own.ensures.gate in
    subst (λ p. MayStore u.map (actor u) p (n + 1) None) (sym length)
    (may-log w after.single (loads-quiet v w _ _ loaded.0 c.requires.quiet) loaded.1.so n (length-shows v w n c.requires.quiet loaded) c.if-length.false c.args.call c.args.object.0 c.args.field c.args.word
    (keeps-stores v.map w.map (actor v) (actor w) keeps c.args.call c.args.object.0 c.args.field c.args.word c.requires.field)
    (keeps-crossing v.map w.map (actor v) (actor w) keeps c.args.object.0 c.args.word c.requires.crossing) u stored)

pub returns-clause-logged : goal.returns-clause-logged
returns-clause-logged c =
    let before = c.args.inside.now in
    let after = c.load_own-length.new.self in
    let later = c.store_own.new.self in
    let v = before.seat.me.0 in
    let w = after.seat.me.0 in
    let u = later.seat.me.0 in
    let z = c.store_own-2.new.self.seat.me.0 in
    let n = c.load_own-length.result in
    let place = in-block logged_at before c.args.gate.now c.map.result c.thread-thread.result c.logged_place.result c.logged_place.ensures c.map.ensures c.thread-thread.ensures c.requires.gate ∙ ap (logged_at v.map) (sym (first-actor v)) in
    let loaded = subst (λ p. Loaded v p None n w) place c.load_own-length.ensures.loaded in
    let keeps = loaded-keeps v w _ n loaded in
    let entry = in-block (λ m t. entry_at m t n) after c.args.gate.now c.map-2.result c.thread-thread.result c.entry_place.result c.entry_place.ensures c.map-2.ensures (c.thread-thread.ensures ∙ sym c.load_own-length.ensures.thread) c.load_own-length.ensures.gate in
    let slot : c.from.result + c.from-2.result + c.from-3.result ≡ c.args.object.0 + OBJECT_WORDS + c.args.field = omega (arith, c.from.ensures, c.from-2.ensures, c.from-3.ensures) in
    let stored = subst (λ (x : ℕ × ℕ). Stored w x.0 x.1 None u) (λ i. (entry i, slot i)) c.store_own.ensures.stored in
    let length = in-block logged_at later c.args.gate.now c.map-3.result c.thread-thread.result c.logged_place-2.result c.logged_place-2.ensures c.map-3.ensures (c.thread-thread.ensures ∙ sym c.load_own-length.ensures.thread ∙ sym c.store_own.ensures.thread) c.store_own.ensures.gate in
    has-logged w after.single (loads-quiet v w _ _ loaded.0 c.requires.quiet) loaded.1.so n (length-shows v w n c.requires.quiet loaded) c.if-length.false c.args.call c.args.object.0 c.args.field c.args.word
    (keeps-stores v.map w.map (actor v) (actor w) keeps c.args.call c.args.object.0 c.args.field c.args.word c.requires.field)
    (keeps-crossing v.map w.map (actor v) (actor w) keeps c.args.object.0 c.args.word c.requires.crossing) u stored z
    (subst (λ p. Stored u p (n + 1) None z) length c.store_own-2.ensures.stored)
    v _ _ loaded.0 before.single (learns-word _ n [])
