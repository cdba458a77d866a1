use Rattle.std.proofs.Common.{ap, ◌∙◌, length}
use Rattle.yak_model.specs.Graph.{Thread}
use Rattle.heap_tables.proofs.Visits.{walk_now}
use Rattle.group_jobs.specs.declared.TheConstants.{TOTAL_SLOT}
use Rattle.group_jobs.proofs.tests.walk_on.Goals as goal

pub returns-clause-table : goal.returns-clause-table
returns-clause-table g c =
    let C = g.C.Caller in
    let h = c.requires.table in
    (h.0, h.1, h.2, c.next_entry.ensures.kept h.0 h.1 h.2 h.3 h.4, walk_now (C.standing c.args.caller.now) (C.standing c.next_entry.new.caller) h.0 TOTAL_SLOT h.1 h.2 h.4 c.next_entry.ensures.own)

pub returns-clause-slots : goal.returns-clause-slots
returns-clause-slots g c = ap (λ (o : Thread). length o.stack) c.next_entry.ensures.own ∙ c.requires.slots
