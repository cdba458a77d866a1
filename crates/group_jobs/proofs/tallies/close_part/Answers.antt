use Rattle.std.proofs.Common.{◌*◌, length, ap, ◌∙◌, arith}
use Rattle.yak_model.specs.Graph.{Thread}
use Rattle.yak_model.specs.Room.{entry_words}
use Rattle.yak_model.specs.declared.TheConstants.{ENTRY_FIELDS}
use Rattle.yak_model.specs.Texts.{word_counts}
use Rattle.group_jobs.proofs.Grown.{within_out, within_ran, within_then}
use Rattle.group_jobs.proofs.Joined.{out_ran, went_ran, went_then}
use Rattle.group_jobs.proofs.Merging.{few_done, few_new, may_merge, merged_tally, size_left}
use Rattle.group_jobs.proofs.Rooms.{err_of}
use Rattle.group_jobs.proofs.tallies.close_part.Goals as goal

pub merge_noting-requires-clause-tables : goal.merge_noting-requires-clause-tables
merge_noting-requires-clause-tables g c =
    let h = c.requires.tables in
    (h.0, h.1, (h.5).total.name, word_counts h.3, word_counts h.2, h.4, may_merge (g.C.Caller.standing c.args.caller.now) h.0 h.1 h.2 h.3 h.5 (omega (arith, h.6)))

pub returns-in_err-merge_noting-clause-out : goal.returns-in_err-merge_noting-clause-out
returns-in_err-merge_noting-clause-out g c = err_of c.from_residual.result _
    (λ known name done doing k t few.
    let C = g.C.Caller in
    let r = c.in_err-merge_noting.ensures.stopped known name t.total.name (word_counts doing) (word_counts done) (may_merge (C.standing c.args.caller.now) known name done doing t few) k in
    let n = few_done doing known name t.table (word_counts done) r.done r.rest r.link r.parts in
    out_ran C.base C.tells C.tells_known C.standing c.args.caller.now c.merge_noting.new.caller (r.made * entry_words) ENTRY_FIELDS (entry_words * length doing) (omega (arith, n, r.new_words)) r.ran_out)

pub pop-requires-clause-some : goal.pop-requires-clause-some
pop-requires-clause-some g c =
    let C = g.C.Caller in
    let h = c.requires.tables in
    let r = c.in_ok-merge_noting.ensures.merged h.0 h.1 (h.5).total.name (word_counts h.3) (word_counts h.2) (may_merge (C.standing c.args.caller.now) h.0 h.1 h.2 h.3 h.5 (omega (arith, h.6))) h.4 in
    (r.later, r.known_now)

pub pop-requires-clause-slot : goal.pop-requires-clause-slot
pop-requires-clause-slot g c =
    let C = g.C.Caller in
    let h = c.requires.tables in
    let r = c.in_ok-merge_noting.ensures.merged h.0 h.1 (h.5).total.name (word_counts h.3) (word_counts h.2) (may_merge (C.standing c.args.caller.now) h.0 h.1 h.2 h.3 h.5 (omega (arith, h.6))) h.4 in
    omega (arith, ap (λ (o : Thread). length o.stack) r.own, c.requires.slots)

pub returns-clause-slots : goal.returns-clause-slots
returns-clause-slots g c =
    let C = g.C.Caller in
    let h = c.requires.tables in
    let r = c.in_ok-merge_noting.ensures.merged h.0 h.1 (h.5).total.name (word_counts h.3) (word_counts h.2) (may_merge (C.standing c.args.caller.now) h.0 h.1 h.2 h.3 h.5 (omega (arith, h.6))) h.4 in
    ap (λ (o : Thread). length o.stack) c.pop.ensures.popped ∙ size_left (C.standing c.merge_noting.new.caller).own.stack (ap (λ (o : Thread). length o.stack) r.own ∙ c.requires.slots)

pub returns-clause-depth : goal.returns-clause-depth
returns-clause-depth g c =
    let C = g.C.Caller in
    let h = c.requires.tables in
    let r = c.in_ok-merge_noting.ensures.merged h.0 h.1 (h.5).total.name (word_counts h.3) (word_counts h.2) (may_merge (C.standing c.args.caller.now) h.0 h.1 h.2 h.3 h.5 (omega (arith, h.6))) h.4 in
    ap (λ (o : Thread). o.depth) c.pop.ensures.popped ∙ ap (λ (o : Thread). o.depth) r.own

pub returns-clause-closed : goal.returns-clause-closed
returns-clause-closed g c known name done doing k t few =
    let C = g.C.Caller in
    let s = C.standing c.args.caller.now in
    let r = c.in_ok-merge_noting.ensures.merged known name t.total.name (word_counts doing) (word_counts done) (may_merge s known name done doing t few) k in
    let n = few_new doing known name t.table (word_counts done) in
    let made = ap (λ (o : Thread). o.made) c.pop.ensures.popped ∙ ap (λ (o : Thread). o.made) r.own in (
      merged_tally s (C.standing c.pop.new.caller) known r.later (C.knows c.pop.new.caller) name done doing t (C.standing c.merge_noting.new.caller).own.stack (ap (λ (o : Thread). o.stack) r.own) c.requires.slots (ap (λ (o : Thread). o.stack) c.pop.ensures.popped) (c.pop.ensures.keeps r.later r.known_now) r.sums r.sums_are r.into_table r.untouched r.from_table r.from_same,
      went_then C.base C.tells C.tells_known C.standing c.args.caller.now c.merge_noting.new.caller c.pop.new.caller (entry_words * length doing) 0 (entry_words * length doing) (omega arith)
          (went_ran C.base C.tells C.tells_known C.standing c.args.caller.now c.merge_noting.new.caller (r.made * entry_words) (entry_words * length doing) (omega (arith, n, r.new_words)) r.ran)
          (went_ran C.base C.tells C.tells_known C.standing c.merge_noting.new.caller c.pop.new.caller 0 0 (omega arith) c.pop.ensures.ran),
      omega (arith, made, n, r.new_words),
    )

pub returns-in_err-merge_noting-clause-list : goal.returns-in_err-merge_noting-clause-list
returns-in_err-merge_noting-clause-list g c =
    let C = g.C.Caller in
    let h = c.requires.tables in
    let r = c.in_err-merge_noting.ensures.stopped h.0 h.1 (h.5).total.name (word_counts h.3) (word_counts h.2) (may_merge (C.standing c.args.caller.now) h.0 h.1 h.2 h.3 h.5 (omega (arith, h.6))) h.4 in
    within_out C.base C.tells C.tells_known C.standing c.args.caller.now c.merge_noting.new.caller _ _ r.ran_out

pub returns-clause-list : goal.returns-clause-list
returns-clause-list g c =
    let C = g.C.Caller in
    let h = c.requires.tables in
    let r = c.in_ok-merge_noting.ensures.merged h.0 h.1 (h.5).total.name (word_counts h.3) (word_counts h.2) (may_merge (C.standing c.args.caller.now) h.0 h.1 h.2 h.3 h.5 (omega (arith, h.6))) h.4 in
    within_then (C.standing c.args.caller.now).list (C.standing c.merge_noting.new.caller).list (C.standing c.pop.new.caller).list
    (within_ran C.base C.tells C.tells_known C.standing c.args.caller.now c.merge_noting.new.caller _ r.ran)
    (within_ran C.base C.tells C.tells_known C.standing c.merge_noting.new.caller c.pop.new.caller _ c.pop.ensures.ran)
