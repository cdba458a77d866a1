use Rattle.std.proofs.Common.{◌≡◌, take}
use Rattle.std.specs.List.{sum_by}
use Rattle.yak_model.specs.Machine.{control_size}
use Rattle.yak_model.proofs.space_state.words_in_control.Given as goal

abbrev pub invariant-loop-home : goal.invariant-loop-home
invariant-loop-home l = l.words ≡ sum_by (control_size l.graph) (take l.home-index l.homes)
