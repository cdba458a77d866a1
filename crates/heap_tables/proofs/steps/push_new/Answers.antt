use Rattle.std.proofs.Common.{rules}
use Rattle.heap_tables.proofs.NewObjects.{new_pushed, new_ran, new_ran_out, new_same}
use Rattle.heap_tables.proofs.steps.push_new.Goals as goal

pub returns-then-eq-clause-same : goal.returns-then-eq-clause-same
returns-then-eq-clause-same g c =
    let C = g.C.Caller in
    let x = c.args.caller.now in
    let y = c.make_call.new.self in
    new_same (C.standing x) (C.standing y) c.args.k c.make_call.result (C.knows x) (C.knows y) (g.met.C.Caller.standard x) (g.met.C.Caller.knows_none x) c.make_call.ensures.known c.make_call.ensures.counted c.requires.fields c.requires.room c.requires.names (search rules)

pub returns-then-eq-clause-ran_out : goal.returns-then-eq-clause-ran_out
returns-then-eq-clause-ran_out g c =
    let C = g.C.Caller in
    let x = c.args.caller.now in
    let y = c.make_call.new.self in
    new_ran_out C.base C.tells C.tells_known C.standing x y c.args.k c.make_call.result (C.knows x) (C.knows y) (g.met.C.Caller.standard x) (g.met.C.Caller.knows_none x) c.make_call.ensures.known c.make_call.ensures.counted c.requires.fields c.requires.room c.requires.names c.make_call.ensures.stays
    (search rules)

pub returns-else-eq-clause-ran : goal.returns-else-eq-clause-ran
returns-else-eq-clause-ran g c =
    let C = g.C.Caller in
    let x = c.args.caller.now in
    let y = c.make_call.new.self in
    new_ran C.base C.tells C.tells_known C.standing x y c.args.k c.make_call.result (C.knows x) (C.knows y) (g.met.C.Caller.standard x) (g.met.C.Caller.knows_none x) c.make_call.ensures.known c.make_call.ensures.counted c.requires.fields c.requires.room c.requires.names c.make_call.ensures.stays
    (λ e. search rules)

pub returns-else-eq-clause-pushed : goal.returns-else-eq-clause-pushed
returns-else-eq-clause-pushed g c =
    let C = g.C.Caller in
    let x = c.args.caller.now in
    let y = c.make_call.new.self in
    new_pushed (C.standing x) (C.standing y) c.args.k c.make_call.result (C.knows x) (C.knows y) (g.met.C.Caller.standard x) (g.met.C.Caller.knows_none x) c.make_call.ensures.known c.make_call.ensures.counted c.requires.fields c.requires.room c.requires.names
    (λ e. search rules)
