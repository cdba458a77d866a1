use Rattle.std.proofs.Common.{◌≡◌, take}
use Rattle.yak_model.specs.Machine.{homes_of}
use Rattle.yak_model.proofs.homes.homes_of.Given as goal

abbrev pub invariant-loop-kept : goal.invariant-loop-kept
invariant-loop-kept l = l.homes.items ≡ homes_of (take l.kept-index l.objects)
