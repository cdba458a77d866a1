use Rattle.std.proofs.Common.{◌≡◌, ◌<◌, ◌≤◌, ◌+◌, refl, sym, subst, arith, inr, Some, None, [], ◌∷◌}
use Rattle.object_layout.specs.declared.TheConstants.{MAX_ADDRESS}
use Rattle.object_layout.specs.declared.calls.Event.{Event}
use Rattle.object_layout.specs.declared.replies.Refusal.TheVariants.{BadField, NotAReference}
use Rattle.object_layout.specs.declared.replies.Reply.TheVariants.{Refused}
use Rattle.heap_words.specs.declared.map.Areas.{Areas}
use Rattle.heap_words.specs.Map.{IsAreas, heap_at, heap_length}
use Rattle.calls_in_flight.specs.Actors.{IsRefusal, MayTell}
use Rattle.calls_in_flight.specs.Steps.{slot_at}
use Rattle.safepoint_gate.specs.Singles.{Loaded, actor}
use Rattle.barriers.proofs.MovedViews.{in-block}
use Rattle.mutator.specs.Quick.{told_by}
use Rattle.mutator.proofs.Answering.{answers_by_load}
use Rattle.mutator.proofs.FoundFields.{answered-since, counts, finds, loads-both, refers-u, refers-w, tells-no_field, tells-no_reference, told-answered}
use Rattle.mutator.proofs.field_calls.field_of.Goals as goal

-- an address of the heap is an address
most : (m n : Areas) → n ≡ m → IsAreas m → heap_length n ≤ MAX_ADDRESS + 1
most m n e areas = subst (λ (x : Areas). heap_length x ≤ MAX_ADDRESS + 1) (sym e) (omega (arith, areas.1))

pub tell-requires-clause-event : goal.tell-requires-clause-event
tell-requires-clause-event c =
    let v = c.args.inside.now.seat.me.0 in
    let u = c.load_own-word.new.self.seat.me.0 in
    let at = in-block (λ m t. slot_at m t c.args.s) c.args.inside.now c.args.gate.now c.map.result c.thread.result c.slot_place-at.result c.slot_place-at.ensures c.map.ensures c.thread.ensures c.requires.gate in
    let slot = subst (λ p. Loaded v p None c.load_own-word.result u) at c.load_own-word.ensures.loaded in
    tells-no_reference v u c.args.s c.args.f c.load_own-word.result c.args.call c.requires.quiet c.requires.slot c.requires.call slot (most c.args.gate.now.map u.map c.load_own-word.ensures.gate.1 c.args.gate.now.areas) c.in_default.ensures

pub returns-in_default-clause-refused : goal.returns-in_default-clause-refused
returns-in_default-clause-refused c =
    let v = c.args.inside.now.seat.me.0 in
    let u = c.load_own-word.new.self.seat.me.0 in
    let w = c.tell.new.inside.seat.me.0 in (
      answered-since v u w c.args.call c.tell.result _ _ c.args.inside.now.single c.load_own-word.ensures.loaded.0
          (told-answered u w c.args.call (Refused NotAReference) c.tell.result c.slot_place-at.result c.tell.ensures.reply c.tell.ensures.answered),
      (NotAReference, c.tell.ensures.reply),
    )

pub overflow_cast-object : goal.overflow_cast-object
overflow_cast-object c =
    let v = c.args.inside.now.seat.me.0 in
    let u = c.load_own-word.new.self.seat.me.0 in
    let at = in-block (λ m t. slot_at m t c.args.s) c.args.inside.now c.args.gate.now c.map.result c.thread.result c.slot_place-at.result c.slot_place-at.ensures c.map.ensures c.thread.ensures c.requires.gate in
    let slot = subst (λ p. Loaded v p None c.load_own-word.result u) at c.load_own-word.ensures.loaded in
    let r = refers-u v u c.args.s c.args.f c.load_own-word.result c.args.call c.requires.quiet c.requires.slot c.requires.call slot c.in-Some.object c.in-Some.ensures in
    let lt : c.in-Some.object < heap_length u.map = r.within in
    let le = most c.args.gate.now.map u.map c.load_own-word.ensures.gate.1 c.args.gate.now.areas in
    omega (arith, lt, le)

pub load_header-requires-clause-refers : goal.load_header-requires-clause-refers
load_header-requires-clause-refers c =
    let v = c.args.inside.now.seat.me.0 in
    let u = c.load_own-word.new.self.seat.me.0 in
    let at = in-block (λ m t. slot_at m t c.args.s) c.args.inside.now c.args.gate.now c.map.result c.thread.result c.slot_place-at.result c.slot_place-at.ensures c.map.ensures c.thread.ensures c.requires.gate in
    let slot = subst (λ p. Loaded v p None c.load_own-word.result u) at c.load_own-word.ensures.loaded in
    (c.args.s, refers-u v u c.args.s c.args.f c.load_own-word.result c.args.call c.requires.quiet c.requires.slot c.requires.call slot c.in-Some.object c.in-Some.ensures)

pub load_header-requires-then-f-field_count-clause-refers : goal.load_header-requires-then-f-field_count-clause-refers
load_header-requires-then-f-field_count-clause-refers c =
    let v = c.args.inside.now.seat.me.0 in
    let u = c.load_own-word.new.self.seat.me.0 in
    let w = c.load_header.new.self.seat.me.0 in
    let at = in-block (λ m t. slot_at m t c.args.s) c.args.inside.now c.args.gate.now c.map.result c.thread.result c.slot_place-at.result c.slot_place-at.ensures c.map.ensures c.thread.ensures c.requires.gate in
    let slot = subst (λ p. Loaded v p None c.load_own-word.result u) at c.load_own-word.ensures.loaded in
    (c.args.s, refers-w v u c.args.s c.args.f c.load_own-word.result c.args.call c.requires.quiet c.requires.slot c.requires.call slot c.in-Some.object c.in-Some.ensures w c.load_header.result c.load_header.ensures.loaded)

pub load_header-requires-then-f-field_count-clause-event : goal.load_header-requires-then-f-field_count-clause-event
load_header-requires-then-f-field_count-clause-event c x e =
    let v = c.args.inside.now.seat.me.0 in
    let u = c.load_own-word.new.self.seat.me.0 in
    let w = c.load_header.new.self.seat.me.0 in
    let at = in-block (λ m t. slot_at m t c.args.s) c.args.inside.now c.args.gate.now c.map.result c.thread.result c.slot_place-at.result c.slot_place-at.ensures c.map.ensures c.thread.ensures c.requires.gate in
    let slot = subst (λ p. Loaded v p None c.load_own-word.result u) at c.load_own-word.ensures.loaded in
    let n = counts v u c.args.s c.args.f c.load_own-word.result c.args.call c.requires.quiet c.requires.slot c.requires.call slot c.in-Some.object c.in-Some.ensures w c.load_header.result c.load_header.ensures.loaded c.field_count.result c.field_count.ensures.fields in
    let is : told_by c.args.call (Refused BadField) ≡ x = cc in
    subst (MayTell w.map (actor w)) is
    (tells-no_field v u c.args.s c.args.f c.load_own-word.result c.args.call c.requires.quiet c.requires.slot c.requires.call slot c.in-Some.object c.in-Some.ensures w c.load_header.result c.load_header.ensures.loaded (subst (λ k. k ≤ c.args.f) n c.if-f-field_count.true))

pub load_header-requires-then-f-field_count-clause-refusal : goal.load_header-requires-then-f-field_count-clause-refusal
load_header-requires-then-f-field_count-clause-refusal c x e =
    let is : told_by c.args.call (Refused BadField) ≡ x = cc in
    subst IsRefusal is (BadField, refl)

pub returns-then-f-field_count-clause-refused : goal.returns-then-f-field_count-clause-refused
returns-then-f-field_count-clause-refused c =
    let v = c.args.inside.now.seat.me.0 in
    let u = c.load_own-word.new.self.seat.me.0 in
    let w = c.load_header.new.self.seat.me.0 in
    let z = c.load_header-then-f-field_count.new.self.seat.me.0 in
    let at = in-block (λ m t. slot_at m t c.args.s) c.args.inside.now c.args.gate.now c.map.result c.thread.result c.slot_place-at.result c.slot_place-at.ensures c.map.ensures c.thread.ensures c.requires.gate in
    let slot = subst (λ p. Loaded v p None c.load_own-word.result u) at c.load_own-word.ensures.loaded in
    let both = loads-both v u c.args.s c.args.f c.load_own-word.result c.args.call c.requires.quiet c.requires.slot c.requires.call slot c.in-Some.object c.in-Some.ensures w c.load_header.result c.load_header.ensures.loaded in
    let place = heap_at w.map + c.in-Some.object in
    let n = c.load_header-then-f-field_count.result in (
      answered-since v w z c.args.call (Refused BadField) _ _ c.args.inside.now.single both (
        record { place = place; word = n } ∷ [],
        answers_by_load w z place n c.args.call (Refused BadField) (inr (BadField, refl))
            (subst (λ (x : Event). Loaded w place (Some x) n z) c.told.ensures c.load_header-then-f-field_count.ensures.loaded),
      ),
      (BadField, refl),
    )

pub returns-clause-found : goal.returns-clause-found
returns-clause-found c =
    let v = c.args.inside.now.seat.me.0 in
    let u = c.load_own-word.new.self.seat.me.0 in
    let w = c.load_header.new.self.seat.me.0 in
    let at = in-block (λ m t. slot_at m t c.args.s) c.args.inside.now c.args.gate.now c.map.result c.thread.result c.slot_place-at.result c.slot_place-at.ensures c.map.ensures c.thread.ensures c.requires.gate in
    let slot = subst (λ p. Loaded v p None c.load_own-word.result u) at c.load_own-word.ensures.loaded in
    let n = counts v u c.args.s c.args.f c.load_own-word.result c.args.call c.requires.quiet c.requires.slot c.requires.call slot c.in-Some.object c.in-Some.ensures w c.load_header.result c.load_header.ensures.loaded c.field_count.result c.field_count.ensures.fields in
    finds v u c.args.s c.args.f c.load_own-word.result c.args.call c.requires.quiet c.requires.slot c.requires.call slot c.in-Some.object c.in-Some.ensures w c.load_header.result c.load_header.ensures.loaded (subst (λ k. c.args.f < k) n c.if-f-field_count.false)
