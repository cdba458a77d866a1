use Rattle.std.proofs.Common.{◌≡◌, take}
use Rattle.std.specs.List.{sum_by}
use Rattle.yak_model.specs.Machine.{region_size}
use Rattle.yak_model.proofs.space_state.words_in_regions.Given as goal

abbrev pub invariant-loop-home : goal.invariant-loop-home
invariant-loop-home l = l.words ≡ sum_by (region_size l.graph) (take l.home-index l.homes)
