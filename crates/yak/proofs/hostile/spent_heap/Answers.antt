use Rattle.std.proofs.Common.{◌≡◌, length, ap, sym, subst, ◌∙◌, arith}
use Rattle.std.proofs.Math.Logic.{∥∥₁_map}
use Rattle.heap_words.specs.declared.map.Areas.{Areas}
use Rattle.heap_words.specs.declared.memory.Image.{Image}
use Rattle.heap_words.specs.Map.{IsAreas, total_of}
use Rattle.heap_words.specs.Contents.{Contents, contents}
use Rattle.yak_model.specs.Recorded.{SomeRecorded}
use Rattle.heap_core.proofs.Sound.{sound-from}
use Rattle.yak.proofs.Spent.{some-spent}
use Rattle.yak.proofs.hostile.spent_heap.Goals as goal

pub set_made-requires-clause-sound : goal.set_made-requires-clause-sound
set_made-requires-clause-sound c =
    let image = c.into_words-image.result in
    let m = c.map-map.result in
    let same : m ≡ c.in-Ok.core.map = c.map-map.ensures ∙ ap (λ (i : Image). i.map) c.into_words-image.ensures ∙ sym c.in-Ok.core.own in
    let words = ap (λ (i : Image). i.words.items) c.into_words-image.ensures in
    let some : SomeRecorded m (contents m image.words.items) = rw (same, words) c.in-Ok.core.stands in
    sound-from m image.words.items (subst IsAreas (sym c.map-map.ensures) image.areas) (subst (λ (x : Areas). length image.words.items ≡ total_of x) (sym c.map-map.ensures) image.whole) (∥∥₁_map some (λ q. (q.0, q.1)))

pub over-requires-clause-stands : goal.over-requires-clause-stands
over-requires-clause-stands c =
    let image = c.into_words-image.result in
    let m = c.map-map.result in
    let same : m ≡ c.in-Ok.core.map = c.map-map.ensures ∙ ap (λ (i : Image). i.map) c.into_words-image.ensures ∙ sym c.in-Ok.core.own in
    let words = ap (λ (i : Image). i.words.items) c.into_words-image.ensures in
    let some : SomeRecorded m (contents m image.words.items) = rw (same, words) c.in-Ok.core.stands in
    let one : m.threads ≡ 1 = ap (λ (x : Areas). x.threads) (same ∙ c.in-Ok.ensures.map) in
    subst (λ (x : Contents). SomeRecorded m x) (sym c.set_made.ensures.set) (some-spent m (contents m image.words.items) 1 (omega arith, omega (arith, one)) some)
