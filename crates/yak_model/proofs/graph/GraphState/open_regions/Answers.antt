use Rattle.std.proofs.Common.{◌≡◌, ℕ, ◌+◌, ◌-◌, ◌≤◌, get_or, ap, ◌∙◌, arith}
use Rattle.std.proofs.lemmas.List.{get_or_default}
use Rattle.std.proofs.lemmas.List.Sums.{sum_by_more}
use Rattle.object_layout.specs.declared.TheConstants.{MAX_DEPTH}
use Rattle.yak_model.specs.Graph.{Graph, Thread, idle}
use Rattle.yak_model.proofs.graph.GraphState.open_regions.Goals as goal

pub loop-state-preserved : goal.loop-state-preserved
loop-state-preserved c =
    let xs = c.deref-state-items.result.now in
    let i = c.loop-state.state-index in
    let own = c.state-item.result in
    let more = sum_by_more (λ (t : Thread). t.depth) xs i own c.loop-state-test.true in
    let item : own.depth ≡ (get_or xs i own).depth = ap (λ (t : Thread). t.depth) c.state-item.is in
    let same : get_or xs i own ≡ get_or c.args.self.now.threads i idle =
    get_or_default xs i own idle c.loop-state-test.true ∙ ap (λ l. get_or l i idle) (c.deref-state-items.ensures.value ∙ ap (λ (g : Graph). g.threads) c.self.view_is) in
    let place : get_or c.args.self.now.threads (i + 1 - 1) idle ≡ get_or c.args.self.now.threads i idle = ap (λ (k : ℕ). get_or c.args.self.now.threads k idle) (omega arith) in
    let deep : own.depth ≤ MAX_DEPTH =
    omega (arith, item, ap (λ (t : Thread). t.depth) same, ap (λ (t : Thread). t.depth) place, c.requires.depths (i + 1)) in
    record {
      sum = omega (arith, more, item, c.depth.ensures, c.from-open.ensures, c.loop-state.invariant.sum);
      few = omega (arith, deep, c.depth.ensures, c.from-open.ensures, c.loop-state.invariant.few);
    }
