use Rattle.std.proofs.Common.{sym, subst, ℕ, List, []}
use Rattle.atomic_table.specs.Table.{opening}
use Rattle.heap_words.specs.declared.map.Areas.{Areas}
use Rattle.safepoint_gate.specs.Rule.{OneHistory, first_view}
use Rattle.safepoint_gate.proofs.Deals.{begins}
use Rattle.safepoint_gate.proofs.gate.Gate.opened.Goals as goal

pub of_words-requires : goal.of_words-requires
of_words-requires c =
    let image = c.args.image in
    subst (λ (y : Areas × List ℕ). OneHistory y.0 (opening y.1 [] (first_view y.0))) (λ i. (sym c.map-map.ensures i, sym c.as_slice.ensures i))
    (begins image.map image.areas image.words.items image.whole image.gate_zero c.requires.empty c.requires.opening)
