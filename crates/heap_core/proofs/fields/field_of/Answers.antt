use Rattle.std.proofs.Props.{props}
use Rattle.std.proofs.Math.Logic.{∥∥₁_elim}
use Rattle.std.proofs.Common.{◌≡◌, ◌≤◌, ◌+◌, arith, sym, ◌∙◌, get_or, refl}
use Rattle.heap_words.specs.Map.{heap_length}
use Rattle.heap_words.specs.Contents.{contents}
use Rattle.yak_model.proofs.Data.{Tells}
use Rattle.standing_calls.proofs.Reached.{no_slot, no_object, bad_field, field_found, field_within}
use Rattle.standing_calls.proofs.Steps.{object_at}
use Rattle.heap_core.proofs.fields.field_of.Goals as goal

pub returns-in_default-clause-field : goal.returns-in_default-clause-field
returns-in_default-clause-field g c s h =
    no_slot c.args.map (contents c.args.map (g.W.Words.words c.args.words.now)) s h c.args.thread c.args.s c.args.f c.in_default.ensures.slot

pub returns-in_default-address-clause-field : goal.returns-in_default-address-clause-field
returns-in_default-address-clause-field g c s h =
    no_object c.args.map (contents c.args.map (g.W.Words.words c.args.words.now)) s h c.args.thread c.args.s c.args.f c.requires.sound.areas c.in-Ok.ensures.slot.0 (λ a le e. c.in_default-address.ensures a le (c.in-Ok.ensures.slot.1 ∙ e))

pub get_heap-requires-clause-within : goal.get_heap-requires-clause-within
get_heap-requires-clause-within g c =
    let old = contents c.args.map (g.W.Words.words c.args.words.now) in
    ∥∥₁_elim c.requires.stands (hlevel props) (λ q. let b : c.in-Some.object + 3 ≤ heap_length c.args.map = object_at c.args.map old c.args.thread c.args.s c.in-Some.object (sym c.in-Some.ensures ∙ c.in-Ok.ensures.slot.1) q.0 q.1 in omega arith)

pub returns-then-f-count-clause-field : goal.returns-then-f-count-clause-field
returns-then-f-count-clause-field g c s h =
    let old = contents c.args.map (g.W.Words.words c.args.words.now) in
    let header : c.get_heap.result ≡ get_or old.heap c.in-Some.object 0 = rw (c.get_heap.ensures.value, c.slot_below.ensures.words) refl in
    let tells : Tells (get_or old.heap c.in-Some.object 0) c.field_count-count.result = λ fields space hf hs q. c.field_count-count.ensures.fields fields space hf hs (header ∙ q) in
    bad_field c.args.map old s h c.args.thread c.args.s c.args.f c.in-Some.object c.field_count-count.result c.requires.sound.areas c.in-Ok.ensures.slot.0 (sym c.in-Ok.ensures.slot.1 ∙ c.in-Some.ensures) tells c.if-f-count.true

pub returns-clause-field : goal.returns-clause-field
returns-clause-field g c s h =
    let old = contents c.args.map (g.W.Words.words c.args.words.now) in
    let header : c.get_heap.result ≡ get_or old.heap c.in-Some.object 0 = rw (c.get_heap.ensures.value, c.slot_below.ensures.words) refl in
    let tells : Tells (get_or old.heap c.in-Some.object 0) c.field_count-count.result = λ fields space hf hs q. c.field_count-count.ensures.fields fields space hf hs (header ∙ q) in
    field_found c.args.map old s h c.args.thread c.args.s c.args.f c.in-Some.object c.field_count-count.result c.requires.sound.areas c.in-Ok.ensures.slot.0 (sym c.in-Ok.ensures.slot.1 ∙ c.in-Some.ensures) tells c.if-f-count.false

pub returns-clause-within : goal.returns-clause-within
returns-clause-within g c =
    let old = contents c.args.map (g.W.Words.words c.args.words.now) in
    let header : c.get_heap.result ≡ get_or old.heap c.in-Some.object 0 = rw (c.get_heap.ensures.value, c.slot_below.ensures.words) refl in
    let tells : Tells (get_or old.heap c.in-Some.object 0) c.field_count-count.result = λ fields space hf hs q. c.field_count-count.ensures.fields fields space hf hs (header ∙ q) in
    ∥∥₁_elim c.requires.stands (hlevel props) (λ q. field_within c.args.map old q.0 q.1 c.args.thread c.args.s c.args.f (c.in-Some.object + 3 + c.args.f) (field_found c.args.map old q.0 q.1 c.args.thread c.args.s c.args.f c.in-Some.object c.field_count-count.result c.requires.sound.areas c.in-Ok.ensures.slot.0 (sym c.in-Ok.ensures.slot.1 ∙ c.in-Some.ensures) tells c.if-f-count.false))
