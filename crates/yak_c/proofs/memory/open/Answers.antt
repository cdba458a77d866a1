use Rattle.std.proofs.Common.{◌≡◌, ◌≤◌, ◌∷◌, length, refl, ap, sym, subst, ◌∙◌, arith}
use Rattle.heap_words.specs.declared.map.Areas.{Areas}
use Rattle.heap_words.specs.Map.{IsAreas, total_of}
use Rattle.yak_model.specs.Graph.{standard_limits}
use Rattle.yak_model.specs.Spaces.{opening_spaces}
use Rattle.yak_c.specs.Memory.{HoldsOpening, IsHeap, IsOpened}
use Rattle.yak_c.proofs.Splits.{opened_is}
use Rattle.yak_c.proofs.memory.open.Goals as goal

pub returns : goal.returns
returns c =
    let memory = c.args.memory.now in
    let words = c.open_words.new.words in
    let p = c.args.pages in
    let t = c.args.threads in
    let m : Areas = record { pages = p; threads = t } in
    let same : c.in-Some.map ≡ m = c.in-Some.ensures.1 ∙ (λ i. record { pages = c.from.ensures i; threads = c.from-2.ensures i }) in
    let areas : IsAreas m = subst IsAreas same c.in-Some.ensures.0 in
    let opening : HoldsOpening m words = subst (λ n. HoldsOpening n words) same c.open_words.ensures.opening in
    let long : length words ≡ total_of m = c.open_words.ensures.whole ∙ ap total_of same in
    let size : 2 ≤ length memory = omega (arith, c.if-memory-total.false) in
    let heap : IsHeap (p ∷ t ∷ words) = record {
      shape = record { areas = areas; size = omega (arith, long); gate = opening.gate };
      stands = ∣ (opening_spaces standard_limits t, opening.opening.0, opening.opening.1) ∣₁;
    } in
    let opened : IsOpened p t (p ∷ t ∷ words) = record { heap = heap; map = refl; opening = opening.opening } in
    let left = opened_is memory words c.from-3.result c.from-4.result size in
    subst (IsOpened p t) (sym (left ∙ (λ i. c.from-3.ensures i ∷ c.from-4.ensures i ∷ words))) opened
