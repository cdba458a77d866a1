use Rattle.std.proofs.Common.{◌≡◌, ◌≢◌, ◌⊎◌, ℕ, sym, subst, cond, ap, ◌∙◌, Some, length}
use Rattle.epoch_lattice.specs.declared.Space.{Space}
use Rattle.epoch_lattice.specs.declared.Space.TheVariants.{Control}
use Rattle.epoch_lattice.specs.Lattice.{parent_of}
use Rattle.yak_model.specs.Kept.{IsFieldSource, IsHeldBy, IsJoinOf, IsListSource, joined}
use Rattle.yak_model.proofs.Joins.{join_if}
use Rattle.yak_model.proofs.spaces.source_target.Goals as goal

pub returns-clause-join : goal.returns-clause-join
returns-clause-join c =
    let own : c.added_if-own.result ≡ cond c.is_held_by.result (Some (joined c.from_fields-fields.result (parent_of c.args.region))) c.from_fields-fields.result =
    c.added_if-own.ensures ∙ ap (λ s. cond c.is_held_by.result (Some (joined c.from_fields-fields.result s)) c.from_fields-fields.result) c.parent.ensures.parent in
    subst (IsJoinOf (IsListSource c.args.threads.now c.args.objects.now c.args.t c.args.region c.args.name)) (sym c.added_if.ensures)
    (join_if OwnSource ((u : ℕ) × (u ≢ c.args.t) × IsHeldBy c.args.threads.now u c.args.name) c.added_if-own.result Control c.is_held_by_other.result
    (subst (IsJoinOf OwnSource) (sym own)
    (join_if (IsFieldSource c.args.objects.now c.args.region c.args.name (length c.args.objects.now)) (IsHeldBy c.args.threads.now c.args.t c.args.name) c.from_fields-fields.result (parent_of c.args.region) c.is_held_by.result c.from_fields-fields.ensures.join c.is_held_by.ensures.0 c.is_held_by.ensures.1))
    c.is_held_by_other.ensures.0 c.is_held_by_other.ensures.1)
  where
    OwnSource : Space → Type 0
    OwnSource s = IsFieldSource c.args.objects.now c.args.region c.args.name (length c.args.objects.now) s ⊎ (IsHeldBy c.args.threads.now c.args.t c.args.name × (parent_of c.args.region ≡ s))
