use Rattle.std.proofs.Common.{◌<◌, ◌∙◌, sym, ap, subst, length, None, IfErr, Result, Ok, Err}
use Rattle.object_layout.specs.declared.calls.Call.TheVariants.{Store}
use Rattle.object_layout.specs.declared.replies.Refusal.TheVariants.{BadSlot}
use Rattle.object_layout.specs.declared.replies.Reply.TheVariants.{Refused}
use Rattle.yak_model.specs.Graph.{Thread}
use Rattle.calls_in_flight.specs.Steps.{slot_at}
use Rattle.safepoint_gate.specs.Singles.{Loaded}
use Rattle.barriers.specs.Barred.{IsLogFull}
use Rattle.barriers.proofs.MovedViews.{in-block, loaded-keeps, loads-quiet, loads-then}
use Rattle.mutator.proofs.FoundFields.{answered-since, found-keeps, found-stores, full-since, refused-store, stored-since, told-answered}
use Rattle.mutator.proofs.field_calls.store.Goals as goal

on_err : {A B : Type 0} (r : Result A B) (X : Type 0) → X → IfErr r (λ e. X)
on_err (Ok a) X x = tt
on_err (Err b) X x = x

pub returns-then-s-length-clause-answered : goal.returns-then-s-length-clause-answered
returns-then-s-length-clause-answered c =
    let v = c.args.inside.now.seat.me.0 in
    let w = c.stack_length-length.new.inside.seat.me.0 in
    let z = c.refuse.new.inside.seat.me.0 in
    let asked = Store c.args.s c.args.f c.args.x in
    refused-store v z asked c.refuse.result
    (answered-since v w z asked c.refuse.result _ _ c.args.inside.now.single c.stack_length-length.ensures.loaded.0
    (told-answered w z asked (Refused BadSlot) c.refuse.result _ c.refuse.ensures.reply c.refuse.ensures.answered))
    (BadSlot, c.refuse.ensures.reply)

pub returns-in-Err-clause-answered : goal.returns-in-Err-clause-answered
returns-in-Err-clause-answered c =
    let v = c.args.inside.now.seat.me.0 in
    let w = c.stack_length-length.new.inside.seat.me.0 in
    let z = c.field_of.new.inside.seat.me.0 in
    let asked = Store c.args.s c.args.f c.args.x in
    refused-store v z asked c.in-Err.reply
    (answered-since v w z asked c.in-Err.reply _ _ c.args.inside.now.single c.stack_length-length.ensures.loaded.0 c.in-Err.ensures.refused.0)
    c.in-Err.ensures.refused.1

pub store_barrier-requires-clause-field : goal.store_barrier-requires-clause-field
store_barrier-requires-clause-field c =
    let v = c.args.inside.now.seat.me.0 in
    let w = c.stack_length-length.new.inside.seat.me.0 in
    let u = c.field_of.new.inside.seat.me.0 in
    let y = c.load_own-word.new.self.seat.me.0 in
    let loaded = c.stack_length-length.ensures.loaded in
    let quiet = loads-quiet v w _ _ loaded.0 c.requires.quiet in
    let found = c.in-Ok.ensures.found in
    let told = (found-keeps w u c.args.s c.args.f c.in-Ok.object.0 quiet found).told ∙ (loaded-keeps v w _ _ loaded).told in
    let n = c.stack_length-length.ensures.length ∙ ap (λ (t : Thread). length t.stack) (sym told) in
    let place = in-block (λ m t. slot_at m t c.args.x) c.field_of.new.inside c.args.gate.now c.map.result c.thread.result c.slot_place-at.result c.slot_place-at.ensures c.map.ensures c.thread.ensures c.field_of.ensures.gate in
    found-stores w u c.args.s c.args.f c.in-Ok.object.0 quiet found y c.args.x c.load_own-word.result (subst (λ k. c.args.x < k) n c.if-x-length.false)
    (subst (λ p. Loaded u p None c.load_own-word.result y) place c.load_own-word.ensures.loaded)

pub returns-in_err-store_barrier-clause-full : goal.returns-in_err-store_barrier-clause-full
returns-in_err-store_barrier-clause-full c =
    let v = c.args.inside.now.seat.me.0 in
    let w = c.stack_length-length.new.inside.seat.me.0 in
    let u = c.field_of.new.inside.seat.me.0 in
    let y = c.load_own-word.new.self.seat.me.0 in
    let z = c.store_barrier.new.inside.seat.me.0 in
    let asked = Store c.args.s c.args.f c.args.x in
    let found = c.in-Ok.ensures.found in
    let two = loads-then v w u _ _ _ _ c.stack_length-length.ensures.loaded.0 found.view in
    let three = loads-then v u y _ _ _ _ two c.load_own-word.ensures.loaded.0 in
    on_err c.from_residual.result (IsLogFull v asked z) (full-since v y asked _ _ c.args.inside.now.single three z c.in_err-store_barrier.ensures.full)

pub returns-clause-answered : goal.returns-clause-answered
returns-clause-answered c =
    let v = c.args.inside.now.seat.me.0 in
    let w = c.stack_length-length.new.inside.seat.me.0 in
    let u = c.field_of.new.inside.seat.me.0 in
    let y = c.load_own-word.new.self.seat.me.0 in
    let z = c.store_barrier.new.inside.seat.me.0 in
    let asked = Store c.args.s c.args.f c.args.x in
    let found = c.in-Ok.ensures.found in
    let two = loads-then v w u _ _ _ _ c.stack_length-length.ensures.loaded.0 found.view in
    let three = loads-then v u y _ _ _ _ two c.load_own-word.ensures.loaded.0 in
    stored-since v y asked _ _ c.args.inside.now.single three z c.in_ok-store_barrier.ensures.stored
