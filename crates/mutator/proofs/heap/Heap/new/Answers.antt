use Rattle.std.proofs.Common.{◌≡◌, ℕ, List, [], replicate, sym, ap, ◌∙◌, subst}
use Rattle.heap_words.specs.declared.map.Areas.{Areas}
use Rattle.heap_words.specs.declared.memory.Image.{Image}
use Rattle.heap_words.specs.Contents.{contents}
use Rattle.yak_model.specs.Graph.{standard_limits}
use Rattle.yak_model.specs.Recorded.{StandsRecorded}
use Rattle.yak_model.specs.Spaces.{opening_spaces}
use Rattle.mutator.proofs.Rested.{opened_empty}
use Rattle.mutator.proofs.heap.Heap.new.Goals as goal

pub opened-requires : goal.opened-requires
opened-requires c =
    let core = c.in_ok-new.field-0 in
    let image = c.into_words-image.result in
    let out : core.words ≡ image = sym c.into_words-image.ensures in
    let map : core.map ≡ image.map = core.own ∙ ap (λ (x : Image). x.map) out in
    let items : core.words.words.items ≡ image.words.items = ap (λ (x : Image). x.words.items) out in
    let threads : c.args.threads ≡ image.map.threads = ap (λ (m : Areas). m.threads) (sym c.in_ok-new.ensures.map) ∙ ap (λ (m : Areas). m.threads) map in
    record {
      opening = subst (λ (y : Areas × List ℕ × ℕ). StandsRecorded y.0 (contents y.0 y.1) (opening_spaces standard_limits y.2)) (λ i. (map i, items i, threads i)) c.in_ok-new.ensures.opening;
      empty = subst (λ (y : Areas × List ℕ). (contents y.0 y.1).buffers ≡ replicate y.0.threads []) (λ i. (map i, items i)) (opened_empty c.in_ok-new.field-0.map _ c.in_ok-new.ensures.opened);
    }
