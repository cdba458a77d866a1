use Rattle.std.proofs.Common.{◌≡◌, ◌++◌, ◌∷◌, [], List, ◌≤◌, rules, arith, sym, ap, ◌∙◌, subst}
use Rattle.std.proofs.lemmas.Grind.{common_steps}
use Rattle.object_layout.specs.declared.TheConstants.{MAX_INT}
use Rattle.group_jobs.specs.Counts.{Ascends, sum_for}
use Rattle.std.proofs.lemmas.List.{append_assoc}
use Rattle.group_jobs.proofs.Summing.{Pair, SumsUp, adds_up, all_up, fits_up, no_sums}
use Rattle.group_jobs.proofs.sums.add_up.Goals as goal

pub loop-counted-init : goal.loop-counted-init
loop-counted-init c = record {
  parts = search rules;
  up = subst (SumsUp []) (sym c.new-sums.ensures.items) no_sums;
}

pub add_count-requires : goal.add_count-requires
add_count-requires c =
    let inv = c.loop-counted.invariant in
    let x = c.in-Some.counted in
    let parts = inv.parts ∙ ap (λ (l : List Pair). c.loop-counted.yielded ++ l) (c.in-Some.ensures.steps).0 in
    record {
      fits = fits_up c.loop-counted.yielded c.loop-counted.sums.items x inv.up _ (subst Ascends parts c.requires.up) MAX_INT (subst (λ (l : List Pair). sum_for l x.0 ≤ MAX_INT) parts (c.requires.few x.0));
    }

pub loop-counted-preserved : goal.loop-counted-preserved
loop-counted-preserved c =
    let inv = c.loop-counted.invariant in
    let x = c.in-Some.counted in
    let parts = inv.parts ∙ ap (λ (l : List Pair). c.loop-counted.yielded ++ l) (c.in-Some.ensures.steps).0 in
    record {
      parts = parts ∙ sym (append_assoc c.loop-counted.yielded (x ∷ []) _);
      up = adds_up c.loop-counted.yielded c.loop-counted.sums.items x inv.up _ (subst Ascends parts c.requires.up) c.add_count.new.sums.items c.in_ok-add_count.ensures;
    }

pub returns : goal.returns
returns c =
    let whole : c.loop-counted.yielded ≡ c.args.sorted.items = grind (arith, common_steps) in
    record { sums = λ counts parts. all_up c.args.sorted.items c.loop-counted.sums.items counts (subst (λ (l : List Pair). SumsUp l c.loop-counted.sums.items) whole c.loop-counted.invariant.up) parts }
