use Rattle.std.proofs.Common.{◌≡◌, ℕ, ◌<◌, Some}
use Rattle.std.specs.List.{Contains}
use Rattle.object_layout.specs.declared.names.Name.{Name}
use Rattle.epoch_lattice.specs.declared.Space.{Space}
use Rattle.yak_model.specs.declared.datum.Datum.TheVariants as datum
use Rattle.yak_model.specs.Kept.{IsAbove, fields_of_place, home_at, target_at}
use Rattle.yak_model.proofs.spaces.raise.Given as goal

abbrev pub invariant-loop-j : goal.invariant-loop-j
invariant-loop-j l =
    (k : ℕ) (space : Space) (name : Name) → k < l.j → home_at l.objects k ≡ l.region → target_at l.targets k ≡ Some space → Contains (fields_of_place l.objects k) (datum.Object name) → IsAbove l.objects l.region l.targets space name
