use Rattle.heap_tables.proofs.Lookups.{look_now}
use Rattle.heap_tables.proofs.RunOn.{ran_more}
use Rattle.heap_tables.proofs.Effects.{in_bounds}
use Rattle.heap_tables.proofs.tables.count_of.Goals as goal

pub look_up-requires-clause-table : goal.look_up-requires-clause-table
look_up-requires-clause-table g c =
    let C = g.C.Caller in
    let h = c.requires.table in
    (h.0, h.1, h.2, c.stack_size-top.ensures.keeps h.0 h.3, look_now (C.standing c.args.caller.now) (C.standing c.stack_size-top.new.caller) h.0 c.args.table c.args.word.now h.1 h.2 h.4 c.stack_size-top.ensures.own)

pub returns-clause-ran : goal.returns-clause-ran
returns-clause-ran g c = let C = g.C.Caller in ran_more C.base C.tells C.tells_known C.standing _ _ _ c.stack_size-top.ensures.ran c.look_up.ensures.ran

pub returns-clause-kept : goal.returns-clause-kept
returns-clause-kept g c known name counts k may =
    let C = g.C.Caller in c.look_up.ensures.kept known name counts (c.stack_size-top.ensures.keeps known k) (look_now (C.standing c.args.caller.now) (C.standing c.stack_size-top.new.caller) known c.args.table c.args.word.now name counts may c.stack_size-top.ensures.own)

pub returns-clause-aside : goal.returns-clause-aside
returns-clause-aside g c known name counts may other k ko lacks =
    let C = g.C.Caller in c.look_up.ensures.aside known name counts (look_now (C.standing c.args.caller.now) (C.standing c.stack_size-top.new.caller) known c.args.table c.args.word.now name counts may c.stack_size-top.ensures.own) other (c.stack_size-top.ensures.keeps known k) (c.stack_size-top.ensures.keeps other ko) lacks

pub returns-clause-count : goal.returns-clause-count
returns-clause-count g c known name counts k may =
    let C = g.C.Caller in c.look_up.ensures.count known name counts (c.stack_size-top.ensures.keeps known k) (look_now (C.standing c.args.caller.now) (C.standing c.stack_size-top.new.caller) known c.args.table c.args.word.now name counts may c.stack_size-top.ensures.own)

pub stack_size-top-requires-clause-slot : goal.stack_size-top-requires-clause-slot
stack_size-top-requires-clause-slot g c = let h = c.requires.table in in_bounds _ _ h.1 (h.4).slot
