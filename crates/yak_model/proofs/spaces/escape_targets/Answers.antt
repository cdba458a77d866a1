use Rattle.std.proofs.Common.{◌≡◌, ◌≢◌, ℕ, ◌<◌, ◌++◌, List, Option, None, length, take, drop, arith, ap, sym, subst, ◌∙◌}
use Rattle.std.proofs.Math.Seq.{take-append_seam}
use Rattle.epoch_lattice.specs.declared.TheConstants.{MAX_DEPTH}
use Rattle.epoch_lattice.specs.declared.Space.{Space}
use Rattle.yak_model.specs.Kept.{AreValid, IsJoinOf, IsListReached, IsListSource, home_at, name_at, target_at}
use Rattle.yak_model.proofs.Escaped.{all_valid, spread_join}
use Rattle.yak_model.proofs.spaces.escape_targets.Goals as goal

pub spread-requires-clause-valid : goal.spread-requires-clause-valid
spread-requires-clause-valid c =
    subst (AreValid MAX_DEPTH) (sym c.deref_mut.ensures.value)
    (all_valid c.in_ok-targets.targets.items (λ i lt. c.in_ok-targets.ensures.valid i (omega (arith, lt, c.in_ok-targets.ensures.size))))

pub returns-clause-join : goal.returns-clause-join
returns-clause-join c =
    λ i lt.
    let long : c.in_ok-targets.targets.len ≡ length c.spread.new.targets = omega (arith, c.spread.auto.targets, c.deref_mut.ensures.len) in
    let rest = drop (length c.spread.new.targets) c.in_ok-targets.targets.items in
    let same : take c.in_ok-targets.targets.len (c.spread.new.targets ++ rest) ≡ c.spread.new.targets =
    ap (λ n. take n (c.spread.new.targets ++ rest)) long ∙ take-append_seam c.spread.new.targets rest in
    subst (λ ts. IsJoinOf (IsListReached c.args.threads.now c.args.objects.now c.args.t c.args.region (name_at c.args.objects.now i)) (target_at ts i)) (sym same)
    (spread_join c.args.threads.now c.args.objects.now c.args.t c.args.region c.deref_mut.result.now c.spread.new.targets
    (subst (λ (ts : List (Option Space)). (k : ℕ) → k < length c.args.objects.now → home_at c.args.objects.now k ≡ c.args.region → IsJoinOf (IsListSource c.args.threads.now c.args.objects.now c.args.t c.args.region (name_at c.args.objects.now k)) (target_at ts k)) (sym c.deref_mut.ensures.value) c.in_ok-targets.ensures.inside)
    (subst (λ (ts : List (Option Space)). (k : ℕ) → k < length c.args.objects.now → home_at c.args.objects.now k ≢ c.args.region → target_at ts k ≡ None) (sym c.deref_mut.ensures.value) c.in_ok-targets.ensures.outside)
    c.spread.ensures.caused c.spread.ensures.least c.spread.ensures.above i lt)

pub returns-clause-valid : goal.returns-clause-valid
returns-clause-valid c =
    let long : c.in_ok-targets.targets.len ≡ length c.spread.new.targets = omega (arith, c.spread.auto.targets, c.deref_mut.ensures.len) in
    let rest = drop (length c.spread.new.targets) c.in_ok-targets.targets.items in
    let same : take c.in_ok-targets.targets.len (c.spread.new.targets ++ rest) ≡ c.spread.new.targets =
    ap (λ n. take n (c.spread.new.targets ++ rest)) long ∙ take-append_seam c.spread.new.targets rest in
    subst (AreValid MAX_DEPTH) (sym same) c.spread.ensures.valid
