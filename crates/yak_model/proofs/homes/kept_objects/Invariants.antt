use Rattle.std.proofs.Common.{◌≡◌, take}
use Rattle.yak_model.specs.Machine.{kept_of}
use Rattle.yak_model.proofs.homes.kept_objects.Given as goal

abbrev pub invariant-loop-home : goal.invariant-loop-home
invariant-loop-home l = l.objects.items ≡ kept_of l.graph (take l.home-index l.homes)
