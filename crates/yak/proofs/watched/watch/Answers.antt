use Rattle.std.proofs.Common.{◌≡◌, ◌∙◌, ap, sym, subst}
use Rattle.heap_words.specs.declared.map.Areas.{Areas}
use Rattle.heap_words.specs.declared.memory.Image.{Image}
use Rattle.heap_words.specs.Contents.{contents}
use Rattle.yak_model.specs.Recorded.{SomeRecorded}
use Rattle.yak.proofs.watched.watch.Goals as goal

pub over-requires-clause-stands : goal.over-requires-clause-stands
over-requires-clause-stands c =
    let words : c.into_words-image.result ≡ c.args.core.words = c.into_words-image.ensures in
    let map : c.map-map.result ≡ c.args.core.map = c.map-map.ensures ∙ ap (λ (i : Image). i.map) words ∙ sym c.args.core.own in
    subst (λ (m : Areas). SomeRecorded m (contents m c.into_words-image.result.words.items)) (sym map)
    (subst (λ (i : Image). SomeRecorded c.args.core.map (contents c.args.core.map i.words.items)) (sym words) c.args.core.stands)
