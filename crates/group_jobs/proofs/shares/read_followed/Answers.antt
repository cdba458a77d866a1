use Rattle.std.proofs.Common.{◌≡◌, ◌+◌, ◌≤◌, List, length, Some, true, ap, sym, ◌∙◌, subst, arith}
use Rattle.yak_model.specs.Standing.{counted_on}
use Rattle.yak_model.specs.Texts.{word_counts}
use Rattle.heap_tables.specs.Cursors.{MayWalk}
use Rattle.safepoint_gate.specs.declared.rule.Own.{Own}
use Rattle.safepoint_gate.specs.Steps.{first_calls}
use Rattle.mutator.specs.Running.{view_in}
use Rattle.mutator.specs.Callers.{first_told, standing_shared}
use Rattle.group_jobs.specs.Epochs.{IsWithin}
use Rattle.group_jobs.specs.Followed.{KnowsOwn, made_in, refused_in}
use Rattle.group_jobs.specs.Workers.{ReadsTotal, exact_most}
use Rattle.group_jobs.specs.declared.TheConstants.{TOTAL_SLOT}
use Rattle.group_jobs.proofs.Grown.{plain_within}
use Rattle.group_jobs.proofs.Working.{exact_words, grown, map_ok, none_refused, rest_same, rest_walk, free_above}
use Rattle.group_jobs.proofs.shares.read_followed.Goals as goal

pub read_entries-list-requires-clause-table : goal.read_entries-list-requires-clause-table
read_entries-list-requires-clause-table g c =
    let start = c.of-caller.result.caller in
    let was = c.args.resting.away.seat.me.0.own in
    let own : (view_in start.mutator.inside).own ≡ was =
    (λ i. (view_in (c.of-caller.ensures.caller i).mutator.inside).own) ∙ (λ i. (view_in (c.as_caller.ensures.mutator i).inside).own) ∙ (λ i. (c.enter-mutator.ensures.view i).own) in
    let h = c.requires.rest in
    let name = h.1.progress.1.name in (
      h.1.known,
      name,
      word_counts h.0,
      subst (λ (l : List Own). KnowsOwn l h.1.known) (sym own) h.1.knows,
      subst (λ (l : List Own). MayWalk (standing_shared l start.made start.refusals start.last) h.1.known TOTAL_SLOT name (word_counts h.0)) (sym own) (rest_walk was h.0 start.made start.refusals start.last h.1 (omega (arith, h.2))),
    )

pub read_entries-list-requires-clause-room : goal.read_entries-list-requires-clause-room
read_entries-list-requires-clause-room g c =
    let start = c.of-caller.result.caller in
    let was = c.args.resting.away.seat.me.0.own in
    let own : (view_in start.mutator.inside).own ≡ was =
    (λ i. (view_in (c.of-caller.ensures.caller i).mutator.inside).own) ∙ (λ i. (view_in (c.as_caller.ensures.mutator i).inside).own) ∙ (λ i. (c.enter-mutator.ensures.view i).own) in
    free_above (length (first_told (view_in start.mutator.inside).own).stack) (ap (λ (l : List Own). length (first_told l).stack) own ∙ c.requires.rest.1.progress.0)

pub returns-clause-reads : goal.returns-clause-reads
returns-clause-reads g c =
    let start = c.of-caller.result.caller in
    let last = c.read_entries-list.new.caller in
    let was = c.args.resting.away.seat.me.0.own in
    let now = c.rest.result.away.seat.me.0.own in
    let first = (view_in start.mutator.inside).own in
    let after = (view_in last.caller.mutator.inside).own in
    let own : first ≡ was =
    (λ i. (view_in (c.of-caller.ensures.caller i).mutator.inside).own) ∙ (λ i. (view_in (c.as_caller.ensures.mutator i).inside).own) ∙ (λ i. (c.enter-mutator.ensures.view i).own) in
    let own_after : after ≡ now =
    (λ i. (view_in (sym c.into_caller.ensures.caller i).mutator.inside).own) ∙ (λ i. (view_in (sym c.into_mutator.ensures.mutator i).inside).own) ∙ (λ i. (sym c.rest.ensures.view i).own) in
    let begun : g.P.Past.begun ≡ first = c.requires.begun ∙ sym own in
    let made_zero : start.made ≡ 0 = (λ i. (c.of-caller.ensures.caller i).made) ∙ c.as_caller.ensures.fresh.0 in
    let none_zero : start.refusals ≡ 0 = (λ i. (c.of-caller.ensures.caller i).refusals) ∙ c.as_caller.ensures.fresh.1 in
    let counts : counted_on last.caller.made (made_in (first_calls first)) ≡ counted_on 0 (made_in (first_calls after)) = (λ i. counted_on last.caller.made (made_in (first_calls (sym begun i)))) ∙ last.counts in
    let refuses : counted_on last.caller.refusals (refused_in (first_calls first)) ≡ counted_on 0 (refused_in (first_calls after)) = (λ i. counted_on last.caller.refusals (refused_in (first_calls (sym begun i)))) ∙ last.refuses in
    let before_none : refused_in (first_calls first) ≡ 0 = (λ i. refused_in (first_calls (own i))) ∙ c.requires.none in
    let exact : made_in (first_calls first) + 0 ≤ exact_most = let e = c.requires.exact in let f = ap (λ (l : List Own). made_in (first_calls l)) own in omega arith in
    let ensured = c.read_entries-list.ensures in
    let ran = ensured.ran in
    let plain = grown IsWithin (first_calls first) (first_calls after) (plain_within _ (Some (first_calls first)) (Some (first_calls after)) ran.since.list) in
    subst (λ (x : List Own × List Own). ReadsTotal x.0 x.1) (λ i. (own i, own_after i)) (record {
      more = plain.0;
      calls = plain.1;
      within = plain.2;
      made = let le = exact_words (made_in (first_calls first)) (made_in (first_calls after)) last.caller.made start.made 0 0 counts made_zero ran.since.words_made (omega arith) exact in omega arith;
      none = none_refused (refused_in (first_calls first)) (refused_in (first_calls after)) last.caller.refusals refuses before_none (ran.quiet.refusals ∙ none_zero);
      told = ensured.own;
      rest = λ done few rest. rest_same first after true done ensured.own rest (ensured.kept rest.known rest.progress.1.name (word_counts done) rest.knows (rest_walk first done start.made start.refusals start.last rest few));
    })

pub returns-clause-list : goal.returns-clause-list
returns-clause-list g c =
    let start = c.of-caller.result.caller in
    let was = c.args.resting.away.seat.me.0.own in
    let own : (view_in start.mutator.inside).own ≡ was =
    (λ i. (view_in (c.of-caller.ensures.caller i).mutator.inside).own) ∙ (λ i. (view_in (c.as_caller.ensures.mutator i).inside).own) ∙ (λ i. (c.enter-mutator.ensures.view i).own) in
    map_ok c.read_entries-list.result _ _ (λ list are done rest few.
    are rest.known rest.progress.1.name (word_counts done) (subst (λ (l : List Own). KnowsOwn l rest.known) (sym own) rest.knows) (subst (λ (l : List Own). MayWalk (standing_shared l start.made start.refusals start.last) rest.known TOTAL_SLOT rest.progress.1.name (word_counts done)) (sym own) (rest_walk was done start.made start.refusals start.last rest few)))
    c.read_entries-list.ensures.entries
