use Rattle.std.proofs.Common.{◌∙◌, sym, subst, arith}
use Rattle.yak_model.specs.Tables.{bucket_of}
use Rattle.yak_model.specs.declared.datum.Datum.TheVariants as datum
use Rattle.heap_tables.specs.Layouts.{IsAmong}
use Rattle.heap_tables.proofs.Asides.{lacks_as}
use Rattle.heap_tables.proofs.Laid.{laid_below, laid_link, laid_size}
use Rattle.heap_tables.proofs.LaidTables.{lacks_entry, may_first, may_now, raised_there, sum_fits}
use Rattle.heap_tables.proofs.RunOn.{ran_more}
use Rattle.heap_tables.proofs.Visits.{drop_parts}
use Rattle.heap_tables.proofs.raising.raise_present.Goals as goal

pub find_on_stack-found-requires-clause-laid : goal.find_on_stack-found-requires-clause-laid
find_on_stack-found-requires-clause-laid g c =
    let C = g.C.Caller in
    let s = C.standing c.args.caller.now in
    let h = c.requires.laid in
    let word = c.args.word.now in
    (h.0, h.4, h.3 (bucket_of word), h.5, may_first s h.0 c.args.table word c.args.n h.1 h.2 h.3 h.6, h.7, h.8)

pub raise-requires-clause-entry : goal.raise-requires-clause-entry
raise-requires-clause-entry g c =
    let C = g.C.Caller in
    let s = C.standing c.args.caller.now in
    let h = c.requires.laid in
    let word = c.args.word.now in
    let links = h.3 (bucket_of word) in
    let first = may_first s h.0 c.args.table word c.args.n h.1 h.2 h.3 h.6 in
    let both = c.find_on_stack-found.ensures.found h.0 h.4 links h.5 first h.7 h.8 in
    let among = subst (IsAmong word links c.find_on_stack-found.result.1) c.in-Some.is both.1 in
    let parts = drop_parts c.in-Some.i links among.1.1 among.1.0 among.1.2 in
    let there = laid_link h.0 h.4 links first c.find_on_stack-found.result.1 c.args.at (C.standing c.find_on_stack-found.new.caller).own both.0 h.8 c.in-Some.i (omega (arith, among.0)) among.1.0 among.1.1 among.1.2 in
    (h.0, there.0, among.1.0, c.find_on_stack-found.ensures.keeps h.0 h.5, (there.1, there.2), sum_fits s h.0 c.args.table word c.args.n h.1 h.2 h.3 h.6 parts.0 among.1.1 among.1.0 parts.1 among.1.3)

pub raise-requires-clause-room : goal.raise-requires-clause-room
raise-requires-clause-room g c =
    let C = g.C.Caller in
    let s = C.standing c.args.caller.now in
    let h = c.requires.laid in
    let word = c.args.word.now in
    let links = h.3 (bucket_of word) in
    let first = may_first s h.0 c.args.table word c.args.n h.1 h.2 h.3 h.6 in
    let both = c.find_on_stack-found.ensures.found h.0 h.4 links h.5 first h.7 h.8 in
    let size = laid_size h.4 links c.find_on_stack-found.result.1 (C.standing c.find_on_stack-found.new.caller).own both.0.1 in
    omega (arith, size, h.8, c.find_on_stack-found.ensures.few, c.requires.room)

pub raise-requires-clause-top : goal.raise-requires-clause-top
raise-requires-clause-top g c =
    let C = g.C.Caller in
    let s = C.standing c.args.caller.now in
    let h = c.requires.laid in
    let word = c.args.word.now in
    let links = h.3 (bucket_of word) in
    let first = may_first s h.0 c.args.table word c.args.n h.1 h.2 h.3 h.6 in
    let both = c.find_on_stack-found.ensures.found h.0 h.4 links h.5 first h.7 h.8 in
    let size = laid_size h.4 links c.find_on_stack-found.result.1 (C.standing c.find_on_stack-found.new.caller).own both.0.1 in
    omega (arith, size, h.8)

pub returns-in-Some-clause-ran : goal.returns-in-Some-clause-ran
returns-in-Some-clause-ran g c = let C = g.C.Caller in ran_more C.base C.tells C.tells_known C.standing _ _ _ c.find_on_stack-found.ensures.ran c.raise.ensures.ran

pub returns-in-Some-clause-laid : goal.returns-in-Some-clause-laid
returns-in-Some-clause-laid g c known name heads buckets own k may laid size slot =
    let C = g.C.Caller in
    let s = C.standing c.args.caller.now in
    let word = c.args.word.now in
    let links = buckets (bucket_of word) in
    let first = may_first s known c.args.table word c.args.n name heads buckets may in
    let both = c.find_on_stack-found.ensures.found known own links k first laid size in
    (both.0.0, c.raise.ensures.own ∙ both.0.1)

pub returns-in-Some-clause-raised : goal.returns-in-Some-clause-raised
returns-in-Some-clause-raised g c known name heads buckets own k may laid size slot =
    let C = g.C.Caller in
    let s = C.standing c.args.caller.now in
    let word = c.args.word.now in
    let links = buckets (bucket_of word) in
    let first = may_first s known c.args.table word c.args.n name heads buckets may in
    let both = c.find_on_stack-found.ensures.found known own links k first laid size in
    let among = subst (IsAmong word links c.find_on_stack-found.result.1) c.in-Some.is both.1 in
    let parts = drop_parts c.in-Some.i links among.1.1 among.1.0 among.1.2 in
    let there = laid_link known own links first c.find_on_stack-found.result.1 c.args.at (C.standing c.find_on_stack-found.new.caller).own both.0 size c.in-Some.i (omega (arith, among.0)) among.1.0 among.1.1 among.1.2 in
    let lifted = c.raise.ensures.raised known there.0 among.1.0 (c.find_on_stack-found.ensures.keeps known k) (there.1, there.2) in
    raised_there s known c.args.table word c.args.n name heads buckets may parts.0 among.1.1 among.1.0 parts.1 among.1.3 there.0 there.2 (C.knows c.raise.new.caller) lifted

pub returns-in-Some-clause-aside : goal.returns-in-Some-clause-aside
returns-in-Some-clause-aside g c known name heads buckets own other k may laid size slot ko lacks =
    let C = g.C.Caller in
    let s = C.standing c.args.caller.now in
    let word = c.args.word.now in
    let links = buckets (bucket_of word) in
    let first = may_first s known c.args.table word c.args.n name heads buckets may in
    let both = c.find_on_stack-found.ensures.found known own links k first laid size in
    let among = subst (IsAmong word links c.find_on_stack-found.result.1) c.in-Some.is both.1 in
    let parts = drop_parts c.in-Some.i links among.1.1 among.1.0 among.1.2 in
    let there = laid_link known own links first c.find_on_stack-found.result.1 c.args.at (C.standing c.find_on_stack-found.new.caller).own both.0 size c.in-Some.i (omega (arith, among.0)) among.1.0 among.1.1 among.1.2 in
    c.raise.ensures.aside other (c.find_on_stack-found.ensures.keeps other ko) (lacks_as other (datum.Object (among.1.0).entry) _ (sym there.1) (lacks_entry s known c.args.table word c.args.n name heads buckets may parts.0 among.1.1 among.1.0 parts.1 among.1.3 other lacks))

pub raise_beyond-beyond-requires-clause-laid : goal.raise_beyond-beyond-requires-clause-laid
raise_beyond-beyond-requires-clause-laid g c =
    let C = g.C.Caller in
    let s = C.standing c.args.caller.now in
    let h = c.requires.laid in
    let word = c.args.word.now in
    let links = h.3 (bucket_of word) in
    let first = may_first s h.0 c.args.table word c.args.n h.1 h.2 h.3 h.6 in
    let both = c.find_on_stack-found.ensures.found h.0 h.4 links h.5 first h.7 h.8 in
    let now = C.standing c.find_on_stack-found.new.caller in
    let slot = laid_below h.4 links c.find_on_stack-found.result.1 now.own both.0.1 c.args.table h.1 h.9 in
    (h.0, h.1, h.2, h.3, h.4, c.find_on_stack-found.ensures.keeps h.0 h.5, may_now s h.0 c.args.table word c.args.n h.1 h.2 h.3 h.6 now slot, both.0, h.8, h.9)

pub raise_beyond-beyond-requires-clause-top : goal.raise_beyond-beyond-requires-clause-top
raise_beyond-beyond-requires-clause-top g c =
    let C = g.C.Caller in
    let s = C.standing c.args.caller.now in
    let h = c.requires.laid in
    let word = c.args.word.now in
    let links = h.3 (bucket_of word) in
    let first = may_first s h.0 c.args.table word c.args.n h.1 h.2 h.3 h.6 in
    let both = c.find_on_stack-found.ensures.found h.0 h.4 links h.5 first h.7 h.8 in
    let size = laid_size h.4 links c.find_on_stack-found.result.1 (C.standing c.find_on_stack-found.new.caller).own both.0.1 in
    omega (arith, size, h.8)

pub raise_beyond-beyond-requires-clause-room : goal.raise_beyond-beyond-requires-clause-room
raise_beyond-beyond-requires-clause-room g c = omega (arith, c.find_on_stack-found.ensures.few, c.requires.room)

pub returns-clause-ran : goal.returns-clause-ran
returns-clause-ran g c = let C = g.C.Caller in ran_more C.base C.tells C.tells_known C.standing _ _ _ c.find_on_stack-found.ensures.ran c.raise_beyond-beyond.ensures.ran

pub returns-clause-laid : goal.returns-clause-laid
returns-clause-laid g c known name heads buckets own k may laid size slot =
    let C = g.C.Caller in
    let s = C.standing c.args.caller.now in
    let word = c.args.word.now in
    let links = buckets (bucket_of word) in
    let first = may_first s known c.args.table word c.args.n name heads buckets may in
    let both = c.find_on_stack-found.ensures.found known own links k first laid size in
    (both.0.0, c.raise_beyond-beyond.ensures.own ∙ both.0.1)

pub returns-clause-raised : goal.returns-clause-raised
returns-clause-raised g c known name heads buckets own k may laid size slot =
    let C = g.C.Caller in
    let s = C.standing c.args.caller.now in
    let word = c.args.word.now in
    let links = buckets (bucket_of word) in
    let first = may_first s known c.args.table word c.args.n name heads buckets may in
    let both = c.find_on_stack-found.ensures.found known own links k first laid size in
    let now = C.standing c.find_on_stack-found.new.caller in
    let slot_now = laid_below own links c.find_on_stack-found.result.1 now.own both.0.1 c.args.table name slot in
    c.raise_beyond-beyond.ensures.raised known name heads buckets own (c.find_on_stack-found.ensures.keeps known k) (may_now s known c.args.table word c.args.n name heads buckets may now slot_now) both.0 size

pub returns-clause-aside : goal.returns-clause-aside
returns-clause-aside g c known name heads buckets own other k may laid size slot ko lacks =
    let C = g.C.Caller in
    let s = C.standing c.args.caller.now in
    let word = c.args.word.now in
    let links = buckets (bucket_of word) in
    let first = may_first s known c.args.table word c.args.n name heads buckets may in
    let both = c.find_on_stack-found.ensures.found known own links k first laid size in
    let now = C.standing c.find_on_stack-found.new.caller in
    let slot_now = laid_below own links c.find_on_stack-found.result.1 now.own both.0.1 c.args.table name slot in
    c.raise_beyond-beyond.ensures.aside known name heads buckets own other (c.find_on_stack-found.ensures.keeps known k) (may_now s known c.args.table word c.args.n name heads buckets may now slot_now) both.0 size (c.find_on_stack-found.ensures.keeps other ko) lacks

pub overflow_add-at : goal.overflow_add-at
overflow_add-at g c =
    let C = g.C.Caller in
    let s = C.standing c.args.caller.now in
    let h = c.requires.laid in
    let word = c.args.word.now in
    let links = h.3 (bucket_of word) in
    let first = may_first s h.0 c.args.table word c.args.n h.1 h.2 h.3 h.6 in
    let both = c.find_on_stack-found.ensures.found h.0 h.4 links h.5 first h.7 h.8 in
    let among = subst (IsAmong word links c.find_on_stack-found.result.1) c.in-Some.is both.1 in
    let less = among.0 in
    omega (arith, less, c.find_on_stack-found.ensures.few, c.requires.room)
