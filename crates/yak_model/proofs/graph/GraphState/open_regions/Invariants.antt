use Rattle.std.proofs.Common.{◌≡◌, ◌*◌, ◌≤◌, take}
use Rattle.std.specs.List.{sum_by}
use Rattle.object_layout.specs.declared.TheConstants.{MAX_DEPTH}
use Rattle.yak_model.specs.Graph.{Thread}
use Rattle.yak_model.proofs.graph.GraphState.open_regions.Given as goal

abbrev pub invariant-loop-state : goal.invariant-loop-state
invariant-loop-state l = record {
  sum : l.open ≡ sum_by (λ (t : Thread). t.depth) (take l.state-index l.state-items);
  few : l.open ≤ MAX_DEPTH * l.state-index;
}
