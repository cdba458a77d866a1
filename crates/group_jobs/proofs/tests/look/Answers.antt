use Rattle.std.proofs.Common.{ap, ◌∙◌, length}
use Rattle.yak_model.specs.Graph.{Thread}
use Rattle.heap_tables.proofs.Lookups.{look_walk}
use Rattle.heap_tables.proofs.Visits.{walk_now}
use Rattle.group_jobs.specs.declared.TheConstants.{TOTAL_SLOT}
use Rattle.group_jobs.proofs.tests.look.Goals as goal

pub count_of-requires-clause-table : goal.count_of-requires-clause-table
count_of-requires-clause-table g c =
    let C = g.C.Caller in
    let h = c.requires.table in
    (h.0, h.1, h.2, h.3, look_walk (C.standing c.args.caller.now) h.0 TOTAL_SLOT c.args.word.now h.1 h.2 h.4)

pub returns-clause-table : goal.returns-clause-table
returns-clause-table g c =
    let C = g.C.Caller in
    let h = c.requires.table in
    let may = look_walk (C.standing c.args.caller.now) h.0 TOTAL_SLOT c.args.word.now h.1 h.2 h.4 in
    (h.0, h.1, h.2, c.count_of.ensures.kept h.0 h.1 h.2 h.3 may, walk_now (C.standing c.args.caller.now) (C.standing c.count_of.new.caller) h.0 TOTAL_SLOT h.1 h.2 h.4 c.count_of.ensures.own)

pub returns-clause-slots : goal.returns-clause-slots
returns-clause-slots g c = ap (λ (o : Thread). length o.stack) c.count_of.ensures.own ∙ c.requires.slots
