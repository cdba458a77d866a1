use Rattle.std.proofs.Common.{List, ap, length, sym, subst}
use Rattle.std.proofs.Math.Logic.{∥∥₁_map}
use Rattle.safepoint_gate.specs.declared.rule.Own.{Own}
use Rattle.safepoint_gate.specs.Steps.{first_calls, first_thread}
use Rattle.yak_model.specs.Private.{KnownObjects}
use Rattle.yak_model.specs.Standing.{MovesKnown}
use Rattle.mutator.specs.Running.{view_in}
use Rattle.mutator.specs.Callers.{KnowsPart, first_told, standing_shared}
use Rattle.mutator.proofs.Telling.{one_own}
use Rattle.group_jobs.specs.Followed.{AreOwn, made_in, refused_in}
use Rattle.group_jobs.proofs.Following.{counts_more, follows_more, refuses_more}
use Rattle.group_jobs.proofs.OwnNames.{none_own, own_moves}
use Rattle.group_jobs.proofs.followed.FollowedCaller.make_call.Goals as goal

pub invariant_of-self : goal.invariant_of-self
invariant_of-self g c =
    let s = c.args.self.now in
    let now = c.make_call.new.self in
    let was = (view_in s.caller.mutator.inside).own in
    let own = (view_in now.mutator.inside).own in
    let call = c.make_call.ensures.at_end in
    let counted = c.make_call.ensures.counted in
    record {
      counts = counts_more s.caller.made now.made (made_in (first_calls g.P.Past.begun)) (first_calls was) (first_calls own) call.collected _ c.args.call c.make_call.result s.counts counted.words call.calls;
      refuses = refuses_more (standing_shared was s.caller.made s.caller.refusals s.caller.last) (standing_shared own now.made now.refusals now.last) (refused_in (first_calls g.P.Past.begun)) (first_calls was) (first_calls own) call.collected c.args.call c.make_call.result s.refuses counted call.calls;
      follows = follows_more (view_in s.caller.mutator.inside).map (view_in now.mutator.inside).map g.P.Past.begun was own c.args.call c.make_call.result (ap (λ (l : List Own). length l) (one_own now.mutator.inside now.mutator.present).1) counted.thread call s.follows;
      owns_none = ∥∥₁_map now.knows_none (λ k. (k, none_own (first_thread own)));
    }

pub returns-clause-known : goal.returns-clause-known
returns-clause-known g c known knows =
    let s = c.args.self.now in
    let now = c.make_call.new.self in
    let was = (view_in s.caller.mutator.inside).own in
    let own = (view_in now.mutator.inside).own in
    subst (λ t. MovesKnown (standing_shared was s.caller.made s.caller.refusals s.caller.last) known c.args.call c.make_call.result (first_told own) (λ (after : KnownObjects). KnowsPart own after × AreOwn t after)) (sym c.make_call.ensures.counted.thread)
    (own_moves _ known c.args.call c.make_call.result (first_told own) (KnowsPart own) knows.1 (c.make_call.ensures.known known knows.0))
