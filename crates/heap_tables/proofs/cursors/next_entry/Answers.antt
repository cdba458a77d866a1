use Rattle.std.proofs.Common.{◌≡◌, ℕ, ◌∙◌, ap, sym, subst, arith, length}
use Rattle.yak_model.specs.Graph.{Thread}
use Rattle.heap_tables.specs.Cursors.{IsNext}
use Rattle.std.proofs.lemmas.List.{length-replicate}
use Rattle.heap_tables.specs.declared.TheConstants.{KEY_BYTES}
use Rattle.heap_tables.proofs.Bytes.{length_front}
use Rattle.heap_tables.proofs.RunOn.{ran_more}
use Rattle.heap_tables.proofs.Visits.{next_count, walk_now}
use Rattle.heap_tables.proofs.Effects.{in_bounds}
use Rattle.heap_tables.proofs.cursors.next_entry.Goals as goal

pub find_next-requires-clause-table : goal.find_next-requires-clause-table
find_next-requires-clause-table g c =
    let C = g.C.Caller in
    let h = c.requires.table in
    (h.0, h.1, h.2, c.stack_size-top.ensures.keeps h.0 h.3, walk_now (C.standing c.args.caller.now) (C.standing c.stack_size-top.new.caller) h.0 c.args.table h.1 h.2 h.4 c.stack_size-top.ensures.own)

pub find_next-requires-clause-room : goal.find_next-requires-clause-room
find_next-requires-clause-room g c = omega (arith, c.requires.room, ap (λ (o : Thread). length o.stack) c.stack_size-top.ensures.own)

pub slice_bounds-buffer-end : goal.slice_bounds-buffer-end
slice_bounds-buffer-end g c =
    let C = g.C.Caller in
    let h = c.requires.table in
    let may = walk_now (C.standing c.args.caller.now) (C.standing c.stack_size-top.new.caller) h.0 c.args.table h.1 h.2 h.4 c.stack_size-top.ensures.own in
    let small = (c.in-Some.ensures.found h.0 h.1 h.2 may (c.stack_size-top.ensures.keeps h.0 h.3)).0.0 in
    let long : length c.find_next.new.buffer ≡ KEY_BYTES = c.find_next.ensures.buffer ∙ length-replicate {A = ℕ} KEY_BYTES 0 in
    omega (arith, small, long)

pub slice_bounds-copy_word-end : goal.slice_bounds-copy_word-end
slice_bounds-copy_word-end g c =
    let C = g.C.Caller in
    let h = c.requires.table in
    let may = walk_now (C.standing c.args.caller.now) (C.standing c.stack_size-top.new.caller) h.0 c.args.table h.1 h.2 h.4 c.stack_size-top.ensures.own in
    let small = (c.in-Some.ensures.found h.0 h.1 h.2 may (c.stack_size-top.ensures.keeps h.0 h.3)).0.0 in
    let long : length c.find_next.new.buffer ≡ KEY_BYTES = c.find_next.ensures.buffer ∙ length-replicate {A = ℕ} KEY_BYTES 0 in
    sym (length_front c.in-Some.size c.find_next.new.buffer (omega (arith, small, long)))

pub returns-in_err-word-in-Some-clause-ran : goal.returns-in_err-word-in-Some-clause-ran
returns-in_err-word-in-Some-clause-ran g c = let C = g.C.Caller in ran_more C.base C.tells C.tells_known C.standing _ _ _ c.stack_size-top.ensures.ran c.find_next.ensures.ran

pub returns-in_err-word-in-Some-clause-kept : goal.returns-in_err-word-in-Some-clause-kept
returns-in_err-word-in-Some-clause-kept g c known name counts k may =
    let C = g.C.Caller in
    (c.in-Some.ensures.found known name counts (walk_now (C.standing c.args.caller.now) (C.standing c.stack_size-top.new.caller) known c.args.table name counts may c.stack_size-top.ensures.own) (c.stack_size-top.ensures.keeps known k)).1

pub returns-in_ok-word-in-Some-clause-ran : goal.returns-in_ok-word-in-Some-clause-ran
returns-in_ok-word-in-Some-clause-ran g c = let C = g.C.Caller in ran_more C.base C.tells C.tells_known C.standing _ _ _ c.stack_size-top.ensures.ran c.find_next.ensures.ran

pub returns-in_ok-word-in-Some-clause-kept : goal.returns-in_ok-word-in-Some-clause-kept
returns-in_ok-word-in-Some-clause-kept g c known name counts k may =
    let C = g.C.Caller in
    (c.in-Some.ensures.found known name counts (walk_now (C.standing c.args.caller.now) (C.standing c.stack_size-top.new.caller) known c.args.table name counts may c.stack_size-top.ensures.own) (c.stack_size-top.ensures.keeps known k)).1

pub returns-in_ok-word-in-Some-clause-next : goal.returns-in_ok-word-in-Some-clause-next
returns-in_ok-word-in-Some-clause-next g c known name counts may k =
    let C = g.C.Caller in
    let now = walk_now (C.standing c.args.caller.now) (C.standing c.stack_size-top.new.caller) known c.args.table name counts may c.stack_size-top.ensures.own in
    let found = (c.in-Some.ensures.found known name counts now (c.stack_size-top.ensures.keeps known k)).0 in
    let next : IsNext (may.is_table).buckets c.args.at c.in_ok-word-in-Some.word.items c.in-Some.count c.in-Some.next =
    subst (λ w. IsNext (may.is_table).buckets c.args.at w c.in-Some.count c.in-Some.next) (sym c.in_ok-word-in-Some.ensures) found.1 in
    (next, next_count known name counts may.is_table c.args.at c.in_ok-word-in-Some.word.items c.in-Some.count c.in-Some.next next)

pub returns-in-None-clause-ran : goal.returns-in-None-clause-ran
returns-in-None-clause-ran g c = let C = g.C.Caller in ran_more C.base C.tells C.tells_known C.standing _ _ _ c.stack_size-top.ensures.ran c.find_next.ensures.ran

pub returns-in-None-clause-kept : goal.returns-in-None-clause-kept
returns-in-None-clause-kept g c known name counts k may =
    let C = g.C.Caller in
    (c.in-None.ensures.found known name counts (walk_now (C.standing c.args.caller.now) (C.standing c.stack_size-top.new.caller) known c.args.table name counts may c.stack_size-top.ensures.own) (c.stack_size-top.ensures.keeps known k)).1

pub returns-in-None-clause-next : goal.returns-in-None-clause-next
returns-in-None-clause-next g c known name counts may k =
    let C = g.C.Caller in
    (c.in-None.ensures.found known name counts (walk_now (C.standing c.args.caller.now) (C.standing c.stack_size-top.new.caller) known c.args.table name counts may c.stack_size-top.ensures.own) (c.stack_size-top.ensures.keeps known k)).0

pub returns-in_err-word-in-Some-clause-aside : goal.returns-in_err-word-in-Some-clause-aside
returns-in_err-word-in-Some-clause-aside g c known name counts may other k ko lacks =
    let C = g.C.Caller in
    c.find_next.ensures.aside known name counts (walk_now (C.standing c.args.caller.now) (C.standing c.stack_size-top.new.caller) known c.args.table name counts may c.stack_size-top.ensures.own) other (c.stack_size-top.ensures.keeps known k) (c.stack_size-top.ensures.keeps other ko) lacks

pub returns-in_ok-word-in-Some-clause-aside : goal.returns-in_ok-word-in-Some-clause-aside
returns-in_ok-word-in-Some-clause-aside g c known name counts may other k ko lacks =
    let C = g.C.Caller in
    c.find_next.ensures.aside known name counts (walk_now (C.standing c.args.caller.now) (C.standing c.stack_size-top.new.caller) known c.args.table name counts may c.stack_size-top.ensures.own) other (c.stack_size-top.ensures.keeps known k) (c.stack_size-top.ensures.keeps other ko) lacks

pub returns-in-None-clause-aside : goal.returns-in-None-clause-aside
returns-in-None-clause-aside g c known name counts may other k ko lacks =
    let C = g.C.Caller in
    c.find_next.ensures.aside known name counts (walk_now (C.standing c.args.caller.now) (C.standing c.stack_size-top.new.caller) known c.args.table name counts may c.stack_size-top.ensures.own) other (c.stack_size-top.ensures.keeps known k) (c.stack_size-top.ensures.keeps other ko) lacks

pub stack_size-top-requires-clause-slot : goal.stack_size-top-requires-clause-slot
stack_size-top-requires-clause-slot g c = let h = c.requires.table in in_bounds _ _ h.1 (h.4).slot
