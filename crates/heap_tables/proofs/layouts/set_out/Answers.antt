use Rattle.std.proofs.Common.{set}
use Rattle.yak_model.specs.declared.datum.Datum.TheVariants as datum
use Rattle.heap_tables.specs.Runs.{slot_in}
use Rattle.heap_tables.specs.Walks.{with_place}
use Rattle.heap_tables.proofs.Asides.{gives_none, lacks_as, lacks_head}
use Rattle.heap_tables.proofs.Laid.{beyond_at, skipped_again}
use Rattle.heap_tables.proofs.RunOn.{ran_more}
use Rattle.heap_tables.proofs.layouts.set_out.Goals as goal

pub skip-requires-clause-chain : goal.skip-requires-clause-chain
skip-requires-clause-chain g c =
    let C = g.C.Caller in
    let s = C.standing c.args.caller.now in
    let h = c.requires.chain in
    let y = h.5 in
    let b = c.args.bucket in
    let place = slot_in s c.args.start in
    let stored = c.store.ensures.stored h.0 h.1 h.2 h.4 y.slot y.within in
    (with_place h.0 h.1 h.2 b place, h.1, set h.2 b place, h.3, stored, beyond_at s h.0 c.args.table b c.args.at c.args.start h.1 h.2 h.3 y (C.standing c.store.new.caller) c.store.ensures.own, y.apart, y.few)

pub returns-clause-ran : goal.returns-clause-ran
returns-clause-ran g c = let C = g.C.Caller in ran_more C.base C.tells C.tells_known C.standing _ _ _ c.store.ensures.ran c.skip.ensures.ran

pub returns-clause-set_out : goal.returns-clause-set_out
returns-clause-set_out g c known name values links k y =
    let C = g.C.Caller in
    let s = C.standing c.args.caller.now in
    let b = c.args.bucket in
    let place = slot_in s c.args.start in
    let stored = c.store.ensures.stored known name values k y.slot y.within in
    let at = beyond_at s known c.args.table b c.args.at c.args.start name values links y (C.standing c.store.new.caller) c.store.ensures.own in
    skipped_again known name values b place _ (C.knows c.skip.new.caller) (c.skip.ensures.skipped (with_place known name values b place) name (set values b place) links stored at y.apart)

pub returns-clause-aside : goal.returns-clause-aside
returns-clause-aside g c known name values links other k y ko lacks_table lacks =
    let C = g.C.Caller in
    let s = C.standing c.args.caller.now in
    let b = c.args.bucket in
    let place = slot_in s c.args.start in
    let stored = c.store.ensures.stored known name values k y.slot y.within in
    let at = beyond_at s known c.args.table b c.args.at c.args.start name values links y (C.standing c.store.new.caller) c.store.ensures.own in
    let absent = lacks_as other _ (datum.Object name) y.slot.0 lacks_table in
    let first = c.store.ensures.aside other other ko lacks_table (gives_none other _ (lacks_head other known place links y.chain lacks)) in
    c.skip.ensures.aside (with_place known name values b place) name (set values b place) links other stored at y.apart first (absent, lacks)
