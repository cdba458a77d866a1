use Rattle.std.proofs.Common.{◌≡◌, ◌≤◌, drop, length}
use Rattle.std.specs.FinMap.{from_entries}
use Rattle.yak_model.specs.Machine.{contents_of}
use Rattle.yak_model.proofs.homes.object_map.Given as goal

abbrev pub invariant-loop-i : goal.invariant-loop-i
invariant-loop-i l = record {
  within : l.i ≤ length l.objects;
  so_far : l.held ≡ from_entries (contents_of (drop l.i l.objects));
}

abbrev pub decreases-loop-i : goal.decreases-loop-i
decreases-loop-i l = l.i
