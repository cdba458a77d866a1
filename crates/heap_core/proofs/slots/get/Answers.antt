use Rattle.std.proofs.Props.{props}
use Rattle.std.proofs.Common.{◌≡◌, ◌≤◌, ◌+◌, arith, ◌∙◌, get_or, refl}
use Rattle.std.proofs.Math.Logic.{∥∥₁_elim}
use Rattle.heap_words.specs.Map.{heap_length}
use Rattle.heap_words.specs.Contents.{contents}
use Rattle.yak_model.proofs.Data.{Tells}
use Rattle.standing_calls.proofs.Steps.{got, get_refused, shows_int, shows_null, shows_object, no_other, object_at}
use Rattle.heap_core.proofs.slots.get.Goals as goal

pub returns-in_default-clause-turns : goal.returns-in_default-clause-turns
returns-in_default-clause-turns g c =
    rw c.slot.ensures.words (get_refused c.args.map (contents c.args.map (g.W.Words.words c.args.words.now)) c.args.thread c.args.s c.requires.thread c.in_default.ensures.slot)

pub get_heap-requires-clause-within : goal.get_heap-requires-clause-within
get_heap-requires-clause-within g c =
    let old = contents c.args.map (g.W.Words.words c.args.words.now) in
    let told = rw c.in-Some-Ref.field-0-is at c.in-Some-Ref.ensures.some in
    ∥∥₁_elim c.requires.stands (hlevel props) (λ q. let b : c.in-Some-Ref.a.0 + 3 ≤ heap_length c.args.map = object_at c.args.map old c.args.thread c.args.s c.in-Some-Ref.a.0 (told.1 ∙ c.in-Ok.ensures.slot.1) q.0 q.1 in omega arith)

pub returns-in-Some-Int-clause-turns : goal.returns-in-Some-Int-clause-turns
returns-in-Some-Int-clause-turns g c =
    let m = c.args.map in
    let old = contents m (g.W.Words.words c.args.words.now) in
    let told = rw c.in-Some-Int.field-0-is at c.in-Some-Int.ensures.some in
    rw c.slot.ensures.words (got m old c.args.thread c.args.s _ c.requires.thread c.in-Ok.ensures.slot.0 (shows_int m old c.args.thread c.args.s c.in-Some-Int.i (told.1 ∙ c.in-Ok.ensures.slot.1)))

pub returns-in-Some-Ref-clause-turns : goal.returns-in-Some-Ref-clause-turns
returns-in-Some-Ref-clause-turns g c =
    let m = c.args.map in
    let old = contents m (g.W.Words.words c.args.words.now) in
    let told = rw c.in-Some-Ref.field-0-is at c.in-Some-Ref.ensures.some in
    let header : c.get_heap.result ≡ get_or old.heap c.in-Some-Ref.a.0 0 = rw (c.get_heap.ensures.value, c.slot.ensures.words) refl in
    let tells : Tells (get_or old.heap c.in-Some-Ref.a.0 0) c.field_count.result = λ fields space hf hs q. c.field_count.ensures.fields fields space hf hs (header ∙ q) in
    rw (c.get_heap.ensures.words, c.slot.ensures.words) (got m old c.args.thread c.args.s _ c.requires.thread c.in-Ok.ensures.slot.0 (shows_object m old c.args.thread c.args.s c.in-Some-Ref.a.0 c.field_count.result c.requires.sound.areas (told.1 ∙ c.in-Ok.ensures.slot.1) tells))

pub returns-in-Some-Null-clause-turns : goal.returns-in-Some-Null-clause-turns
returns-in-Some-Null-clause-turns g c =
    let m = c.args.map in
    let old = contents m (g.W.Words.words c.args.words.now) in
    let told = rw c.in-Some-Null.field-0-is at c.in-Some-Null.ensures.some in
    rw c.slot.ensures.words (got m old c.args.thread c.args.s _ c.requires.thread c.in-Ok.ensures.slot.0 (shows_null m old c.args.thread c.args.s (told.1 ∙ c.in-Ok.ensures.slot.1)))

pub returns-in-None-clause-turns : goal.returns-in-None-clause-turns
returns-in-None-clause-turns g c =
    let m = c.args.map in
    let old = contents m (g.W.Words.words c.args.words.now) in
    rw c.slot.ensures.words (got m old c.args.thread c.args.s _ c.requires.thread c.in-Ok.ensures.slot.0 (λ s h. absurd (no_other m old c.args.thread c.args.s c.in-Ok.word c.requires.sound.areas c.in-Ok.ensures.slot.1 c.in-None.ensures.some.0 c.in-None.ensures.some.1 s h)))
