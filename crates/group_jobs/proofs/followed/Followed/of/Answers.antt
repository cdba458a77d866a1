use Rattle.std.proofs.Common.{ap, ◌∙◌, List}
use Rattle.std.proofs.Math.Logic.{∥∥₁_map}
use Rattle.yak_model.specs.Standing.{counted_on}
use Rattle.safepoint_gate.specs.declared.rule.Own.{Own}
use Rattle.safepoint_gate.specs.Steps.{first_calls, first_thread}
use Rattle.mutator.specs.Running.{view_in}
use Rattle.group_jobs.specs.Followed.{made_in, refused_in}
use Rattle.group_jobs.proofs.Following.{follows_none}
use Rattle.group_jobs.proofs.OwnNames.{none_own}
use Rattle.group_jobs.proofs.followed.Followed.of.Goals as goal

pub invariant_of-result : goal.invariant_of-result
invariant_of-result g c =
    let v = view_in c.args.caller.mutator.inside in
    record {
      counts = ap (λ n. counted_on n (made_in (first_calls g.P.Past.begun))) c.requires.fresh.0 ∙ ap (λ (l : List Own). counted_on 0 (made_in (first_calls l))) c.requires.begun;
      refuses = ap (λ n. counted_on n (refused_in (first_calls g.P.Past.begun))) c.requires.fresh.1 ∙ ap (λ (l : List Own). counted_on 0 (refused_in (first_calls l))) c.requires.begun;
      follows = follows_none v.map g.P.Past.begun v.own c.requires.begun c.requires.settled;
      owns_none = ∥∥₁_map c.args.caller.knows_none (λ k. (k, none_own (first_thread v.own)));
    }
