use Rattle.std.proofs.Common.{ℕ, ◌<◌}
use Rattle.std.specs.List.{Contains}
use Rattle.object_layout.specs.declared.names.Name.{Name}
use Rattle.yak_model.specs.declared.datum.Datum.TheVariants as datum
use Rattle.yak_model.specs.Kept.{IsMarked, IsMarkedName, fields_of_place}
use Rattle.yak_model.proofs.spaces.unmarked.Given as goal

abbrev pub invariant-loop-j : goal.invariant-loop-j
invariant-loop-j l =
    (k : ℕ) (name : Name) → k < l.j → IsMarked l.marks k → Contains (fields_of_place l.objects k) (datum.Object name) → IsMarkedName l.objects l.marks name
