use Rattle.std.proofs.Common.{◌∙◌, sym, true≢false}
use Rattle.heap_tables.proofs.Effects.{value_same}
use Rattle.heap_tables.proofs.LaidTables.{may_now}
use Rattle.heap_tables.proofs.RunOn.{ran_more}
use Rattle.heap_tables.proofs.tables.add_present.Goals as goal

pub add_far-requires-clause-table : goal.add_far-requires-clause-table
add_far-requires-clause-table g c =
    let C = g.C.Caller in
    let s = C.standing c.args.caller.now in
    let h = c.requires.table in
    let may = h.5 in
    let own = c.add_near.ensures.own in
    (h.0, h.1, h.2, h.3, c.in-Further.ensures.added h.0 h.1 h.2 h.3 h.4 may, may_now s h.0 c.args.table c.args.word.now c.args.n h.1 h.2 h.3 may (C.standing c.add_near.new.caller) (value_same s.own _ c.args.table own ∙ may.slot))

pub returns-in-Found-clause-added : goal.returns-in-Found-clause-added
returns-in-Found-clause-added g c known name heads buckets k may = (λ _. c.in-Found.ensures.added known name heads buckets k may, λ e. absurd (true≢false e))

pub returns-in-End-clause-added : goal.returns-in-End-clause-added
returns-in-End-clause-added g c known name heads buckets k may = (λ e. absurd (true≢false (sym e)), λ _. c.in-End.ensures.added known name heads buckets k may)

pub returns-in-Further-clause-ran : goal.returns-in-Further-clause-ran
returns-in-Further-clause-ran g c = let C = g.C.Caller in ran_more C.base C.tells C.tells_known C.standing _ _ _ c.in-Further.ensures.ran c.add_far.ensures.ran

pub returns-in-Further-clause-added : goal.returns-in-Further-clause-added
returns-in-Further-clause-added g c known name heads buckets k may =
    let C = g.C.Caller in
    let s = C.standing c.args.caller.now in
    let own = c.add_near.ensures.own in
    c.add_far.ensures.added known name heads buckets (c.in-Further.ensures.added known name heads buckets k may)
    (may_now s known c.args.table c.args.word.now c.args.n name heads buckets may (C.standing c.add_near.new.caller) (value_same s.own _ c.args.table own ∙ may.slot))

pub returns-in-Further-clause-aside : goal.returns-in-Further-clause-aside
returns-in-Further-clause-aside g c known name heads buckets other k may ko lacks =
    let C = g.C.Caller in
    let s = C.standing c.args.caller.now in
    let own = c.add_near.ensures.own in
    c.add_far.ensures.aside known name heads buckets other (c.in-Further.ensures.added known name heads buckets k may)
    (may_now s known c.args.table c.args.word.now c.args.n name heads buckets may (C.standing c.add_near.new.caller) (value_same s.own _ c.args.table own ∙ may.slot))
    (c.in-Further.ensures.aside known name heads buckets other k may ko lacks) lacks
