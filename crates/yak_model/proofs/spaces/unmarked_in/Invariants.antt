use Rattle.std.proofs.Common.{◌≡◌, ℕ, ◌<◌, slice_index_or}
use Rattle.object_layout.specs.declared.names.Name.{Name}
use Rattle.yak_model.specs.declared.datum.Datum.TheVariants as datum
use Rattle.yak_model.specs.Kept.{IsMarkedName}
use Rattle.yak_model.proofs.spaces.unmarked_in.Given as goal

abbrev pub invariant-loop-field : goal.invariant-loop-field
invariant-loop-field l = (k : ℕ) (name : Name) → k < l.field-index → slice_index_or l.fields k datum.Null ≡ datum.Object name → IsMarkedName l.objects l.marks name
