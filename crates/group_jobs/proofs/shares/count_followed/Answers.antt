use Rattle.std.proofs.Common.{◌≡◌, ◌+◌, ◌≤◌, ◌++◌, List, true, ap, sym, ◌∙◌, subst, arith}
use Rattle.std.proofs.Math.Logic.{∥∥₁_map}
use Rattle.object_layout.specs.declared.replies.Census.{Census}
use Rattle.yak_model.specs.Standing.{counted_on}
use Rattle.yak_model.specs.Texts.{words_of}
use Rattle.safepoint_gate.specs.declared.rule.Own.{Own}
use Rattle.safepoint_gate.specs.Steps.{first_calls, first_thread}
use Rattle.mutator.specs.Running.{view_in}
use Rattle.mutator.specs.Callers.{standing_shared}
use Rattle.group_jobs.specs.Epochs.{IsHalted, IsOneEpoch, IsWithin}
use Rattle.group_jobs.specs.Followed.{KnowsOwn, made_in, refused_in}
use Rattle.group_jobs.specs.Tallies.{IsProgress, new_total, task_room}
use Rattle.yak_model.specs.Room.{table_words}
use Rattle.group_jobs.specs.Workers.{CountsTask, HaltsTask, HasRefused, exact_most}
use Rattle.group_jobs.proofs.TaskEpochs.{has_epoch}
use Rattle.group_jobs.proofs.Grown.{epochs_more, halted_bounds}
use Rattle.group_jobs.proofs.Working.{exact_words, found_refused, grown, if_ok, made_calls, none_refused, on_error, on_ok, one_refused, own_calls, progresses, rests, same_census, settled_here, total_most}
use Rattle.group_jobs.proofs.shares.count_followed.Goals as goal

pub count_task-counted-requires-clause-progress : goal.count_task-counted-requires-clause-progress
count_task-counted-requires-clause-progress g c =
    let start = c.of-caller.result.caller in
    let was = c.args.resting.away.seat.me.0.own in
    let own : (view_in start.mutator.inside).own ≡ was =
    (λ i. (view_in (c.of-caller.ensures.caller i).mutator.inside).own) ∙ (λ i. (view_in (c.as_caller.ensures.mutator i).inside).own) ∙ (λ i. (c.enter-mutator.ensures.view i).own) in
    let h = c.requires.rest in
    (h.1.known, h.0, subst (λ (l : List Own). KnowsOwn l h.1.known) (sym own) h.1.knows, subst (λ (l : List Own). IsProgress c.args.has_total (standing_shared l start.made start.refusals start.last) h.1.known h.0) (sym own) (progresses was c.args.has_total h.0 start.made start.refusals start.last h.1), h.2)

pub returns-in-Ok-default-clause-counted : goal.returns-in-Ok-default-clause-counted
returns-in-Ok-default-clause-counted g c =
    let start = c.of-caller.result.caller in
    let last = c.count_task-counted.new.caller in
    let was = c.args.resting.away.seat.me.0.own in
    let now = c.rest-resting.result.away.seat.me.0.own in
    let first = (view_in start.mutator.inside).own in
    let after = (view_in last.caller.mutator.inside).own in
    let own : first ≡ was =
    (λ i. (view_in (c.of-caller.ensures.caller i).mutator.inside).own) ∙ (λ i. (view_in (c.as_caller.ensures.mutator i).inside).own) ∙ (λ i. (c.enter-mutator.ensures.view i).own) in
    let own_after : after ≡ now =
    (λ i. (view_in (sym c.into_caller.ensures.caller i).mutator.inside).own) ∙ (λ i. (view_in (sym c.into_mutator.ensures.mutator i).inside).own) ∙ (λ i. (sym c.rest-resting.ensures.view i).own) in
    let map_after : (view_in last.caller.mutator.inside).map ≡ c.args.heap.now.gate.map =
    (λ i. (view_in (sym c.into_caller.ensures.caller i).mutator.inside).map) ∙ (λ i. (view_in (sym c.into_mutator.ensures.mutator i).inside).map) ∙ (λ i. (sym c.rest-resting.ensures.view i).map) ∙ c.rest-resting.ensures.heap.1 in
    let begun : g.P.Past.begun ≡ first = c.requires.begun ∙ sym own in
    let words = words_of c.args.bytes.now in
    let has = c.in-Ok-default.has_total in
    let m = c.args.heap.now.gate.map in
    let made_zero : start.made ≡ 0 = (λ i. (c.of-caller.ensures.caller i).made) ∙ c.as_caller.ensures.fresh.0 in
    let none_zero : start.refusals ≡ 0 = (λ i. (c.of-caller.ensures.caller i).refusals) ∙ c.as_caller.ensures.fresh.1 in
    let counts : counted_on last.caller.made (made_in (first_calls first)) ≡ counted_on 0 (made_in (first_calls after)) = (λ i. counted_on last.caller.made (made_in (first_calls (sym begun i)))) ∙ last.counts in
    let refuses : counted_on last.caller.refusals (refused_in (first_calls first)) ≡ counted_on 0 (refused_in (first_calls after)) = (λ i. counted_on last.caller.refusals (refused_in (first_calls (sym begun i)))) ∙ last.refuses in
    let before_none : refused_in (first_calls first) ≡ 0 = (λ i. refused_in (first_calls (own i))) ∙ c.requires.none in
    let exact : made_in (first_calls first) + (table_words + task_room words) ≤ exact_most = subst (λ (l : List Own). made_in (first_calls l) + (table_words + task_room words) ≤ exact_most) (sym own) c.requires.exact in
    let ensured = c.count_task-counted.ensures in
    let went = if_ok _ _ _ c.in-Ok-default.is-0 ensured.went in
    let counted = if_ok _ _ _ c.in-Ok-default.is-0 ensured.counted in
    let made = on_ok _ _ _ c.in-Ok-default.is-0 ensured.made in
    let outside = on_ok _ _ _ c.in-Ok-default.is-0 ensured.depth in
    let task = on_ok _ _ _ c.in-Ok-default.is-0 ensured.epoch in
    let ready = (view_in task.ready.caller.mutator.inside).own in
    let plain = grown IsWithin (first_calls first) (first_calls ready) task.before in
    let one = grown (IsOneEpoch (first_thread first)) (first_calls ready) (first_calls after) task.epoch in
    let settled = settled_here _ m g.P.Past.begun after map_after last.follows in
    let thread_after = went.makes.thread in
    let made_ready = made_calls _ g.P.Past.begun ready task.ready.follows in
    subst (λ (x : List Own × List Own). CountsTask m x.0 x.1 c.args.has_total words has) (λ i. (own i, own_after i)) (record {
      has_is = if_ok _ _ _ c.in-Ok-default.is-0 ensured.has;
      made = made;
      room = exact_words (made_in (first_calls first)) (made_in (first_calls after)) last.caller.made start.made went.words (new_total c.args.has_total has + task_room words) counts made_zero went.makes.counted went.makes.within (let small = total_most c.args.has_total has in omega arith);
      none = none_refused (refused_in (first_calls first)) (refused_in (first_calls after)) last.caller.refusals refuses before_none (went.quiet.refusals ∙ none_zero);
      rest = λ done rest few.
          let r = counted rest.known done rest.knows (progresses first c.args.has_total done start.made start.refusals start.last rest) few in
          rests after has (done ++ words) last.caller.made last.caller.refusals last.caller.last r.0 r.1 r.2 (r.3.slot ∙ rest.root) outside;
      epochs = epochs_more (first_thread first) (first_calls first) plain.0 (first_calls ready) one.0 (first_calls after) plain.1 plain.2 one.1 one.2;
      epoch = λ k epochs. ∥∥₁_map settled (λ st.
          has_epoch m (first_thread first) (first_calls first) ready after words made_ready st task.thread thread_after plain.0 plain.1 plain.2 one.0 one.1 one.2 task.part k epochs);
    })

pub returns-in-Err-Some-clause-halted : goal.returns-in-Err-Some-clause-halted
returns-in-Err-Some-clause-halted g c =
    let start = c.of-caller.result.caller in
    let last = c.count_task-counted.new.caller in
    let was = c.args.resting.away.seat.me.0.own in
    let now = c.rest-resting.result.away.seat.me.0.own in
    let first = (view_in start.mutator.inside).own in
    let after = (view_in last.caller.mutator.inside).own in
    let own : first ≡ was =
    (λ i. (view_in (c.of-caller.ensures.caller i).mutator.inside).own) ∙ (λ i. (view_in (c.as_caller.ensures.mutator i).inside).own) ∙ (λ i. (c.enter-mutator.ensures.view i).own) in
    let own_after : after ≡ now =
    (λ i. (view_in (sym c.into_caller.ensures.caller i).mutator.inside).own) ∙ (λ i. (view_in (sym c.into_mutator.ensures.mutator i).inside).own) ∙ (λ i. (sym c.rest-resting.ensures.view i).own) in
    let begun : g.P.Past.begun ≡ first = c.requires.begun ∙ sym own in
    let words = words_of c.args.bytes.now in
    let made_zero : start.made ≡ 0 = (λ i. (c.of-caller.ensures.caller i).made) ∙ c.as_caller.ensures.fresh.0 in
    let none_zero : start.refusals ≡ 0 = (λ i. (c.of-caller.ensures.caller i).refusals) ∙ c.as_caller.ensures.fresh.1 in
    let counts : counted_on last.caller.made (made_in (first_calls first)) ≡ counted_on 0 (made_in (first_calls after)) = (λ i. counted_on last.caller.made (made_in (first_calls (sym begun i)))) ∙ last.counts in
    let refuses : counted_on last.caller.refusals (refused_in (first_calls first)) ≡ counted_on 0 (refused_in (first_calls after)) = (λ i. counted_on last.caller.refusals (refused_in (first_calls (sym begun i)))) ∙ last.refuses in
    let before_none : refused_in (first_calls first) ≡ 0 = (λ i. refused_in (first_calls (own i))) ∙ c.requires.none in
    let exact : made_in (first_calls first) + (table_words + task_room words) ≤ exact_most = subst (λ (l : List Own). made_in (first_calls l) + (table_words + task_room words) ≤ exact_most) (sym own) c.requires.exact in
    let ensured = c.count_task-counted.ensures in
    let out = on_error _ _ _ c.in-Err-Some.is-0 ensured.out in
    let halted = on_error _ _ _ c.in-Err-Some.is-0 ensured.halted in
    let more = grown (IsHalted (first_thread first)) (first_calls first) (first_calls after) halted in
    let census : c.in-Err-Some.census ≡ out.lacked.census = same_census _ _ (sym c.in-Err-Some.is-1 ∙ c.full-full.ensures ∙ out.lacked.last) in
    let some = one_refused (refused_in (first_calls first)) (refused_in (first_calls after)) last.caller.refusals start.refusals refuses before_none none_zero out.lacked.refusals in
    let own_list = own_calls _ g.P.Past.begun after last.follows in (
      ap (λ (x : Census). x.free) census ∙ out.lacked.none_free,
      subst (λ (x : List Own × List Own). HaltsTask x.0 x.1 c.args.has_total words) (λ i. (own i, own_after i)) (record {
        room = exact_words (made_in (first_calls first)) (made_in (first_calls after)) last.caller.made start.made out.words (new_total c.args.has_total true + task_room words) counts made_zero out.makes.counted out.makes.within (let small = total_most c.args.has_total true in omega arith);
        refused = subst (λ t. HasRefused t (first_calls after)) out.makes.thread (found_refused (first_thread after) (first_calls after) own_list some);
        bounds = halted_bounds (first_thread first) (first_calls first) more.0 (first_calls after) more.1 more.2;
        busy = on_error _ _ _ c.in-Err-Some.is-0 ensured.busy;
      }),
    )
