use Rattle.std.proofs.Common.{◌≡◌, ◌<◌, ◌≤◌, ℕ, ◌+◌, ◌∙◌, sym, ap, subst, length, None}
use Rattle.object_layout.specs.declared.calls.Call.TheVariants.{Load}
use Rattle.object_layout.specs.declared.replies.Refusal.TheVariants.{BadSlot, StackFull}
use Rattle.object_layout.specs.declared.replies.Reply.TheVariants.{Ok, Refused}
use Rattle.heap_words.specs.declared.map.Areas.{Areas}
use Rattle.heap_words.specs.declared.TheConstants.{STACK_SLOTS}
use Rattle.yak_model.specs.Graph.{Thread}
use Rattle.calls_in_flight.specs.OwnStores.{MayStore}
use Rattle.calls_in_flight.specs.Steps.{length_at, slot_at}
use Rattle.safepoint_gate.specs.declared.gate.Gate.{Gate}
use Rattle.safepoint_gate.specs.declared.seats.Inside.{Inside}
use Rattle.safepoint_gate.specs.Seats.{IsOf}
use Rattle.safepoint_gate.specs.Singles.{Stored, actor}
use Rattle.barriers.proofs.MovedViews.{in-block, loaded-keeps, loads-quiet}
use Rattle.mutator.proofs.FoundFields.{answered-since, found-keeps, found-loads, tells-full, told-answered}
use Rattle.mutator.proofs.SettledLoads.{answers-load, may-length, may-slot}
use Rattle.mutator.proofs.field_calls.load.Goals as goal

-- a place of the thread's block, as the seat has it at another time
at-time : (place : Areas → ℕ → ℕ) (inside before : Inside) (gate : Gate) (m : Areas) (t p : ℕ) → p ≡ place m t → m ≡ gate.map → t ≡ inside.thread → inside.thread ≡ before.thread → IsOf gate before.seat.table_id before.seat.me.0 → p ≡ place before.seat.me.0.map (actor before.seat.me.0).thread
at-time place inside before gate m t p is map thread same of_gate = in-block place before gate m t p is map (thread ∙ same) of_gate

pub returns-then-s-length-clause-answered : goal.returns-then-s-length-clause-answered
returns-then-s-length-clause-answered c =
    let v = c.args.inside.now.seat.me.0 in
    let w = c.stack_length-length.new.inside.seat.me.0 in
    let z = c.refuse.new.inside.seat.me.0 in
    answered-since v w z (Load c.args.s c.args.f) c.refuse.result _ _ c.args.inside.now.single c.stack_length-length.ensures.loaded.0
    (told-answered w z (Load c.args.s c.args.f) (Refused BadSlot) c.refuse.result _ c.refuse.ensures.reply c.refuse.ensures.answered)

pub returns-in-Err-clause-answered : goal.returns-in-Err-clause-answered
returns-in-Err-clause-answered c =
    let v = c.args.inside.now.seat.me.0 in
    let w = c.stack_length-length.new.inside.seat.me.0 in
    answered-since v w c.field_of.new.inside.seat.me.0 (Load c.args.s c.args.f) c.in-Err.reply _ _ c.args.inside.now.single c.stack_length-length.ensures.loaded.0 c.in-Err.ensures.refused.0

pub refuse-requires-then-length-ge-STACK_SLOTS-clause-event : goal.refuse-requires-then-length-ge-STACK_SLOTS-clause-event
refuse-requires-then-length-ge-STACK_SLOTS-clause-event c =
    let v = c.args.inside.now.seat.me.0 in
    let w = c.stack_length-length.new.inside.seat.me.0 in
    let u = c.field_of.new.inside.seat.me.0 in
    let loaded = c.stack_length-length.ensures.loaded in
    let quiet = loads-quiet v w _ _ loaded.0 c.requires.quiet in
    let found = c.in-Ok.ensures.found in
    let told = (found-keeps w u c.args.s c.args.f c.in-Ok.object.0 quiet found).told ∙ (loaded-keeps v w _ _ loaded).told in
    let n = c.stack_length-length.ensures.length ∙ ap (λ (t : Thread). length t.stack) (sym told) in
    tells-full w u c.args.s c.args.f c.in-Ok.object.0 quiet found (subst (λ k. STACK_SLOTS ≤ k) n c.if-length-ge-STACK_SLOTS.true)

pub returns-then-length-ge-STACK_SLOTS-clause-answered : goal.returns-then-length-ge-STACK_SLOTS-clause-answered
returns-then-length-ge-STACK_SLOTS-clause-answered c =
    let v = c.args.inside.now.seat.me.0 in
    let w = c.stack_length-length.new.inside.seat.me.0 in
    let u = c.field_of.new.inside.seat.me.0 in
    let z = c.refuse-then-length-ge-STACK_SLOTS.new.inside.seat.me.0 in
    let refuse = c.refuse-then-length-ge-STACK_SLOTS in
    answered-since v w z (Load c.args.s c.args.f) refuse.result _ _ c.args.inside.now.single c.stack_length-length.ensures.loaded.0
    (answered-since w u z (Load c.args.s c.args.f) refuse.result _ _ c.stack_length-length.new.inside.single c.in-Ok.ensures.found.view
    (told-answered u z (Load c.args.s c.args.f) (Refused StackFull) refuse.result _ refuse.ensures.reply refuse.ensures.answered))

pub load_barrier-word-requires-clause-field : goal.load_barrier-word-requires-clause-field
load_barrier-word-requires-clause-field c =
    let v = c.args.inside.now.seat.me.0 in
    let w = c.stack_length-length.new.inside.seat.me.0 in
    let u = c.field_of.new.inside.seat.me.0 in
    let loaded = c.stack_length-length.ensures.loaded in
    let quiet = loads-quiet v w _ _ loaded.0 c.requires.quiet in
    let found = c.in-Ok.ensures.found in
    let told = (found-keeps w u c.args.s c.args.f c.in-Ok.object.0 quiet found).told ∙ (loaded-keeps v w _ _ loaded).told in
    let n = c.stack_length-length.ensures.length ∙ ap (λ (t : Thread). length t.stack) (sym told) in
    found-loads w u c.args.s c.args.f c.in-Ok.object.0 quiet found (subst (λ k. k < STACK_SLOTS) n c.if-length-ge-STACK_SLOTS.false)

pub store_own-requires-clause-own : goal.store_own-requires-clause-own
store_own-requires-clause-own c =
    let v = c.args.inside.now.seat.me.0 in
    let w = c.stack_length-length.new.inside.seat.me.0 in
    let before = c.field_of.new.inside in
    let u = before.seat.me.0 in
    let b = c.load_barrier-word.new.inside.seat.me.0 in
    let loaded = c.stack_length-length.ensures.loaded in
    let quiet = loads-quiet v w _ _ loaded.0 c.requires.quiet in
    let found = c.in-Ok.ensures.found in
    let told = (found-keeps w u c.args.s c.args.f c.in-Ok.object.0 quiet found).told ∙ (loaded-keeps v w _ _ loaded).told in
    let n = c.stack_length-length.ensures.length ∙ ap (λ (t : Thread). length t.stack) (sym told) in
    let place = at-time (λ m t. slot_at m t c.stack_length-length.result) c.load_barrier-word.new.inside before c.args.gate.now c.map.result c.thread.result c.slot_place.result c.slot_place.ensures c.map.ensures c.thread.ensures c.load_barrier-word.ensures.thread c.field_of.ensures.gate
    ∙ ap (slot_at u.map (actor u).thread) n in
    subst (λ p. MayStore b.map (actor b) p c.load_barrier-word.result None) (sym place)
    (may-slot u b c.args.s c.args.f c.load_barrier-word.result before.single found.so (subst (λ k. k < STACK_SLOTS) n c.if-length-ge-STACK_SLOTS.false) c.load_barrier-word.ensures.loaded)

pub store_own-requires-2-clause-own : goal.store_own-requires-2-clause-own
store_own-requires-2-clause-own c =
    let v = c.args.inside.now.seat.me.0 in
    let w = c.stack_length-length.new.inside.seat.me.0 in
    let before = c.field_of.new.inside in
    let u = before.seat.me.0 in
    let b = c.load_barrier-word.new.inside.seat.me.0 in
    let y = c.store_own.new.self.seat.me.0 in
    let loaded = c.stack_length-length.ensures.loaded in
    let quiet = loads-quiet v w _ _ loaded.0 c.requires.quiet in
    let found = c.in-Ok.ensures.found in
    let told = (found-keeps w u c.args.s c.args.f c.in-Ok.object.0 quiet found).told ∙ (loaded-keeps v w _ _ loaded).told in
    let n = c.stack_length-length.ensures.length ∙ ap (λ (t : Thread). length t.stack) (sym told) in
    let place = at-time (λ m t. slot_at m t c.stack_length-length.result) c.load_barrier-word.new.inside before c.args.gate.now c.map.result c.thread.result c.slot_place.result c.slot_place.ensures c.map.ensures c.thread.ensures c.load_barrier-word.ensures.thread c.field_of.ensures.gate
    ∙ ap (slot_at u.map (actor u).thread) n in
    let later = at-time length_at c.store_own.new.self before c.args.gate.now c.map-2.result c.thread-2.result c.length_place.result c.length_place.ensures c.map-2.ensures c.thread-2.ensures (c.store_own.ensures.thread ∙ c.load_barrier-word.ensures.thread) c.field_of.ensures.gate in
    subst (λ (x : ℕ × ℕ). MayStore y.map (actor y) x.0 x.1 None) (λ i. (sym later i, sym n i + 1))
    (may-length u b c.args.s c.args.f c.load_barrier-word.result before.single found.so (subst (λ k. k < STACK_SLOTS) n c.if-length-ge-STACK_SLOTS.false) c.load_barrier-word.ensures.loaded y
    (subst (λ p. Stored b p c.load_barrier-word.result None y) place c.store_own.ensures.stored))

pub returns-clause-answered : goal.returns-clause-answered
returns-clause-answered c =
    let v = c.args.inside.now.seat.me.0 in
    let w = c.stack_length-length.new.inside.seat.me.0 in
    let before = c.field_of.new.inside in
    let u = before.seat.me.0 in
    let b = c.load_barrier-word.new.inside.seat.me.0 in
    let y = c.store_own.new.self.seat.me.0 in
    let z = c.store_own-2.new.self.seat.me.0 in
    let loaded = c.stack_length-length.ensures.loaded in
    let quiet = loads-quiet v w _ _ loaded.0 c.requires.quiet in
    let found = c.in-Ok.ensures.found in
    let told = (found-keeps w u c.args.s c.args.f c.in-Ok.object.0 quiet found).told ∙ (loaded-keeps v w _ _ loaded).told in
    let n = c.stack_length-length.ensures.length ∙ ap (λ (t : Thread). length t.stack) (sym told) in
    let place = at-time (λ m t. slot_at m t c.stack_length-length.result) c.load_barrier-word.new.inside before c.args.gate.now c.map.result c.thread.result c.slot_place.result c.slot_place.ensures c.map.ensures c.thread.ensures c.load_barrier-word.ensures.thread c.field_of.ensures.gate
    ∙ ap (slot_at u.map (actor u).thread) n in
    let later = at-time length_at c.store_own.new.self before c.args.gate.now c.map-2.result c.thread-2.result c.length_place.result c.length_place.ensures c.map-2.ensures c.thread-2.ensures (c.store_own.ensures.thread ∙ c.load_barrier-word.ensures.thread) c.field_of.ensures.gate in
    answered-since v w z (Load c.args.s c.args.f) Ok _ _ c.args.inside.now.single loaded.0
    (answered-since w u z (Load c.args.s c.args.f) Ok _ _ c.stack_length-length.new.inside.single found.view
    (answers-load u b c.args.s c.args.f c.load_barrier-word.result before.single found.so (subst (λ k. k < STACK_SLOTS) n c.if-length-ge-STACK_SLOTS.false) c.load_barrier-word.ensures.loaded y
    (subst (λ p. Stored b p c.load_barrier-word.result None y) place c.store_own.ensures.stored) z
    (subst (λ (x : ℕ × ℕ). Stored y x.0 x.1 None z) (λ i. (later i, n i + 1)) c.store_own-2.ensures.stored)))
