use Rattle.std.proofs.Common.{◌∙◌, drop, arith}
use Rattle.yak_model.specs.Tables.{bucket_of}
use Rattle.heap_tables.proofs.Laid.{chain_at, laid_below, laid_size}
use Rattle.heap_tables.proofs.LaidTables.{may_first, may_now}
use Rattle.heap_tables.proofs.RunOn.{ran_more}
use Rattle.heap_tables.proofs.raising.raise_on.Goals as goal

pub lay_on-now-requires-clause-laid : goal.lay_on-now-requires-clause-laid
lay_on-now-requires-clause-laid g c =
    let C = g.C.Caller in
    let s = C.standing c.args.caller.now in
    let h = c.requires.laid in
    let word = c.args.word.now in
    let links = h.3 (bucket_of word) in
    let first = chain_at h.0 links c.args.window (may_first s h.0 c.args.table word c.args.n h.1 h.2 h.3 h.6) in
    (h.0, h.4, drop c.args.window links, h.5, first, h.7, h.8)

pub returns-then-now-place-clause-laid : goal.returns-then-now-place-clause-laid
returns-then-now-place-clause-laid g c known name heads buckets own k may laid size slot =
    let C = g.C.Caller in
    let s = C.standing c.args.caller.now in
    let word = c.args.word.now in
    let links = buckets (bucket_of word) in
    let first = chain_at known links c.args.window (may_first s known c.args.table word c.args.n name heads buckets may) in
    let on = c.lay_on-now.ensures.laid known own (drop c.args.window links) k first laid size in
    let now = C.standing c.lay_on-now.new.caller in
    let slot_now = laid_below own (drop c.args.window links) c.lay_on-now.result now.own on.0.1 c.args.table name slot in
    let may_on = may_now s known c.args.table word c.args.n name heads buckets may now slot_now in
    on.0

pub raise_laid-found-requires-clause-laid : goal.raise_laid-found-requires-clause-laid
raise_laid-found-requires-clause-laid g c =
    let C = g.C.Caller in
    let s = C.standing c.args.caller.now in
    let h = c.requires.laid in
    let word = c.args.word.now in
    let links = h.3 (bucket_of word) in
    let first = chain_at h.0 links c.args.window (may_first s h.0 c.args.table word c.args.n h.1 h.2 h.3 h.6) in
    let on = c.lay_on-now.ensures.laid h.0 h.4 (drop c.args.window links) h.5 first h.7 h.8 in
    let now = C.standing c.lay_on-now.new.caller in
    let slot = laid_below h.4 (drop c.args.window links) c.lay_on-now.result now.own on.0.1 c.args.table h.1 h.9 in
    (h.0, h.1, h.2, h.3, h.4, c.lay_on-now.ensures.keeps h.0 h.5, may_now s h.0 c.args.table word c.args.n h.1 h.2 h.3 h.6 now slot, on.0, h.8, h.9)

pub raise_laid-found-requires-clause-top : goal.raise_laid-found-requires-clause-top
raise_laid-found-requires-clause-top g c =
    let C = g.C.Caller in
    let s = C.standing c.args.caller.now in
    let h = c.requires.laid in
    let word = c.args.word.now in
    let links = h.3 (bucket_of word) in
    let first = chain_at h.0 links c.args.window (may_first s h.0 c.args.table word c.args.n h.1 h.2 h.3 h.6) in
    let on = c.lay_on-now.ensures.laid h.0 h.4 (drop c.args.window links) h.5 first h.7 h.8 in
    let now = C.standing c.lay_on-now.new.caller in
    let size = laid_size h.4 (drop c.args.window links) c.lay_on-now.result now.own on.0.1 in
    omega (arith, size, h.8)

pub returns-clause-ran : goal.returns-clause-ran
returns-clause-ran g c = let C = g.C.Caller in ran_more C.base C.tells C.tells_known C.standing _ _ _ c.lay_on-now.ensures.ran c.raise_laid-found.ensures.ran

pub returns-clause-laid : goal.returns-clause-laid
returns-clause-laid g c known name heads buckets own k may laid size slot =
    let C = g.C.Caller in
    let s = C.standing c.args.caller.now in
    let word = c.args.word.now in
    let links = buckets (bucket_of word) in
    let first = chain_at known links c.args.window (may_first s known c.args.table word c.args.n name heads buckets may) in
    let on = c.lay_on-now.ensures.laid known own (drop c.args.window links) k first laid size in
    let now = C.standing c.lay_on-now.new.caller in
    let slot_now = laid_below own (drop c.args.window links) c.lay_on-now.result now.own on.0.1 c.args.table name slot in
    let may_on = may_now s known c.args.table word c.args.n name heads buckets may now slot_now in
    (on.0.0, c.raise_laid-found.ensures.own ∙ on.0.1)

pub returns-clause-raised : goal.returns-clause-raised
returns-clause-raised g c known name heads buckets own k may laid size slot =
    let C = g.C.Caller in
    let s = C.standing c.args.caller.now in
    let word = c.args.word.now in
    let links = buckets (bucket_of word) in
    let first = chain_at known links c.args.window (may_first s known c.args.table word c.args.n name heads buckets may) in
    let on = c.lay_on-now.ensures.laid known own (drop c.args.window links) k first laid size in
    let now = C.standing c.lay_on-now.new.caller in
    let slot_now = laid_below own (drop c.args.window links) c.lay_on-now.result now.own on.0.1 c.args.table name slot in
    let may_on = may_now s known c.args.table word c.args.n name heads buckets may now slot_now in
    c.raise_laid-found.ensures.raised known name heads buckets own (c.lay_on-now.ensures.keeps known k) may_on on.0 size

pub returns-clause-aside : goal.returns-clause-aside
returns-clause-aside g c known name heads buckets own other k may laid size slot ko lacks =
    let C = g.C.Caller in
    let s = C.standing c.args.caller.now in
    let word = c.args.word.now in
    let links = buckets (bucket_of word) in
    let first = chain_at known links c.args.window (may_first s known c.args.table word c.args.n name heads buckets may) in
    let on = c.lay_on-now.ensures.laid known own (drop c.args.window links) k first laid size in
    let now = C.standing c.lay_on-now.new.caller in
    let slot_now = laid_below own (drop c.args.window links) c.lay_on-now.result now.own on.0.1 c.args.table name slot in
    let may_on = may_now s known c.args.table word c.args.n name heads buckets may now slot_now in
    c.raise_laid-found.ensures.aside known name heads buckets own other (c.lay_on-now.ensures.keeps known k) may_on on.0 size (c.lay_on-now.ensures.keeps other ko) lacks
