use Rattle.std.proofs.Common.{◌+◌, ◌*◌, [], ◌++◌, length, arith}
use Rattle.yak_model.specs.Room.{entry_words, table_words}
use Rattle.yak_model.specs.Texts.{words_of}
use Rattle.heap_tables.proofs.OnResult.{ok_map, err_map}
use Rattle.heap_tables.specs.Epochs.{Went}
use Rattle.group_jobs.specs.Tallies.{part_room, words_room}
use Rattle.group_jobs.proofs.Aside.{aside_then, part_then}
use Rattle.heap_tables.specs.Runs.{next_of}
use Rattle.group_jobs.proofs.Grown.{within_then}
use Rattle.group_jobs.proofs.Joined.{went_out, went_then}
use Rattle.group_jobs.proofs.Rooms.{err_of, words_parts}
use Rattle.group_jobs.proofs.tallies.count_part.Goals as goal

pub open_part-requires-clause-table : goal.open_part-requires-clause-table
open_part-requires-clause-table g c = let h = c.requires.table in (h.0, h.1, h.2, h.3, omega (arith, h.4))

pub count_words-requires-clause-tables : goal.count_words-requires-clause-tables
count_words-requires-clause-tables g c =
    let h = c.requires.table in
    let r = c.in_ok-open_part.ensures.opened h.0 h.1 h.2 h.3 in
    (r.0, next_of (g.C.Caller.standing c.args.caller.now), h.1, [], r.1, r.2, omega (arith, h.4))

pub returns-in_err-count_words-clause-out : goal.returns-in_err-count_words-clause-out
returns-in_err-count_words-clause-out g c =
    let C = g.C.Caller in
    let words = words_of c.args.bytes.now in
    err_of c.from_residual-in_err-count_words.result _
    (went_out C.base C.tells C.tells_known C.standing c.args.caller.now c.open_part.new.caller c.count_words.new.caller (C.standing c.open_part.new.caller).own.depth (C.standing c.args.caller.now).own.depth table_words (part_room words) (table_words + words_room words) (omega (arith, words_parts words)) (omega (arith, c.in_ok-open_part.ensures.depth)) c.in_ok-open_part.ensures.went c.in_err-count_words.ensures.out)

pub close_part-requires-clause-tables : goal.close_part-requires-clause-tables
close_part-requires-clause-tables g c =
    let h = c.requires.table in
    let words = words_of c.args.bytes.now in
    let r = c.in_ok-open_part.ensures.opened h.0 h.1 h.2 h.3 in
    let t = c.in_ok-count_words.ensures.counted r.0 (next_of (g.C.Caller.standing c.args.caller.now)) h.1 [] r.1 r.2 (omega (arith, h.4)) in
    (t.0, next_of (g.C.Caller.standing c.args.caller.now), h.1, words, t.1, t.2, omega (arith, h.4))

pub returns-clause-went : goal.returns-clause-went
returns-clause-went g c = ok_map c.close_part.result _ _
    (λ closed.
    let C = g.C.Caller in
    let h = c.requires.table in
    let words = words_of c.args.bytes.now in
    let r = c.in_ok-open_part.ensures.opened h.0 h.1 h.2 h.3 in
    let t = c.in_ok-count_words.ensures.counted r.0 (next_of (g.C.Caller.standing c.args.caller.now)) h.1 [] r.1 r.2 (omega (arith, h.4)) in
    let last = (closed t.0 (next_of (C.standing c.args.caller.now)) h.1 words t.1 t.2 h.4).1 in
    let first : Went C.base C.tells C.tells_known C.standing c.args.caller.now c.count_words.new.caller (table_words + part_room words) =
    went_then C.base C.tells C.tells_known C.standing c.args.caller.now c.open_part.new.caller c.count_words.new.caller table_words (part_room words) (table_words + part_room words) (omega arith) c.in_ok-open_part.ensures.went c.in_ok-count_words.ensures.went in
    went_then C.base C.tells C.tells_known C.standing c.args.caller.now c.count_words.new.caller c.close_part.new.caller (table_words + part_room words) (entry_words * length words) (table_words + words_room words) (omega (arith, words_parts words)) first last)
    c.close_part.ensures.closed

pub returns-clause-made : goal.returns-clause-made
returns-clause-made g c = ok_map c.close_part.result _ _
    (λ closed.
    let h = c.requires.table in
    let words = words_of c.args.bytes.now in
    let r = c.in_ok-open_part.ensures.opened h.0 h.1 h.2 h.3 in
    let t = c.in_ok-count_words.ensures.counted r.0 (next_of (g.C.Caller.standing c.args.caller.now)) h.1 [] r.1 r.2 (omega (arith, h.4)) in
    let last = (closed t.0 (next_of (g.C.Caller.standing c.args.caller.now)) h.1 words t.1 t.2 h.4).2 in
    let place = c.in_ok-count_words.ensures.place in
    omega (arith, last, place.made, c.in_ok-open_part.ensures.made))
    c.close_part.ensures.closed

pub returns-clause-counted : goal.returns-clause-counted
returns-clause-counted g c = ok_map c.close_part.result _ _
    (λ closed known done k t few.
    let C = g.C.Caller in
    let words = words_of c.args.bytes.now in
    let r = c.in_ok-open_part.ensures.opened known done k t in
    let u = c.in_ok-count_words.ensures.counted r.0 (next_of (C.standing c.args.caller.now)) done [] r.1 r.2 (omega (arith, few)) in
    let kept = aside_then (C.standing c.args.caller.now) (C.standing c.open_part.new.caller) (C.standing c.count_words.new.caller) known r.0 u.0 r.3 u.3 in
    let name = next_of (C.standing c.args.caller.now) in
    part_then (C.standing c.args.caller.now) (C.standing c.count_words.new.caller) (C.standing c.close_part.new.caller) known u.0 (C.knows c.close_part.new.caller) name (done ++ words) words kept (closed u.0 name done words u.1 u.2 few).0)
    c.close_part.ensures.closed

pub returns-clause-out : goal.returns-clause-out
returns-clause-out g c = err_map c.close_part.result _ _
    (λ out.
    let C = g.C.Caller in
    let h = c.requires.table in
    let words = words_of c.args.bytes.now in
    let r = c.in_ok-open_part.ensures.opened h.0 h.1 h.2 h.3 in
    let t = c.in_ok-count_words.ensures.counted r.0 (next_of (g.C.Caller.standing c.args.caller.now)) h.1 [] r.1 r.2 (omega (arith, h.4)) in
    let place = c.in_ok-count_words.ensures.place in
    let first : Went C.base C.tells C.tells_known C.standing c.args.caller.now c.count_words.new.caller (table_words + part_room words) =
    went_then C.base C.tells C.tells_known C.standing c.args.caller.now c.open_part.new.caller c.count_words.new.caller table_words (part_room words) (table_words + part_room words) (omega arith) c.in_ok-open_part.ensures.went c.in_ok-count_words.ensures.went in
    went_out C.base C.tells C.tells_known C.standing c.args.caller.now c.count_words.new.caller c.close_part.new.caller (C.standing c.count_words.new.caller).own.depth (C.standing c.args.caller.now).own.depth (table_words + part_room words) (entry_words * length words) (table_words + words_room words) (omega (arith, words_parts words)) (omega (arith, c.in_ok-open_part.ensures.depth, place.depth)) first (out t.0 (next_of (C.standing c.args.caller.now)) h.1 words t.1 t.2 h.4))
    c.close_part.ensures.out

pub returns-in_err-count_words-clause-list : goal.returns-in_err-count_words-clause-list
returns-in_err-count_words-clause-list g c =
    let C = g.C.Caller in
    within_then (C.standing c.args.caller.now).list (C.standing c.open_part.new.caller).list (C.standing c.count_words.new.caller).list c.open_part.ensures.list c.count_words.ensures.list

pub returns-clause-list : goal.returns-clause-list
returns-clause-list g c =
    let C = g.C.Caller in
    within_then (C.standing c.args.caller.now).list (C.standing c.open_part.new.caller).list (C.standing c.close_part.new.caller).list c.open_part.ensures.list
    (within_then (C.standing c.open_part.new.caller).list (C.standing c.count_words.new.caller).list (C.standing c.close_part.new.caller).list c.count_words.ensures.list c.close_part.ensures.list)
