use Rattle.std.proofs.Common.{◌+◌, ◌∙◌, ap, sym, subst, arith, drop, length}
use Rattle.yak_model.specs.Graph.{Thread}
use Rattle.yak_model.specs.Tables.{IsChain, bucket_of}
use Rattle.yak_model.specs.declared.datum.Datum.TheVariants as datum
use Rattle.heap_tables.specs.Runs.{popped}
use Rattle.heap_tables.proofs.Asides.{lacks_as, lacks_drop}
use Rattle.heap_tables.proofs.RaisedCounts.{bucket_small}
use Rattle.heap_tables.proofs.Effects.{popped_pushed, size_after, top_after}
use Rattle.heap_tables.proofs.LaidTables.{laid_beyond, lacks_entry, lacks_front, may_first, parts_past, raised_there, sum_fits}
use Rattle.heap_tables.proofs.Raised.{entry_at}
use Rattle.heap_tables.proofs.RunOn.{ran_more}
use Rattle.heap_tables.proofs.raising.raise_beyond.Goals as goal

pub find_beyond-requires-clause-chain : goal.find_beyond-requires-clause-chain
find_beyond-requires-clause-chain g c =
    let C = g.C.Caller in
    let s = C.standing c.args.caller.now in
    let h = c.requires.laid in
    let word = c.args.word.now in
    (h.0, h.1, h.2, drop c.args.laid (h.3 (bucket_of word)), h.5, laid_beyond s h.0 c.args.table word c.args.n h.1 h.2 h.3 h.6 h.4 c.args.at c.args.laid c.args.bucket c.requires.bucket h.7 h.8)

pub returns-then-not-find_beyond-clause-own : goal.returns-then-not-find_beyond-clause-own
returns-then-not-find_beyond-clause-own g c =
    let C = g.C.Caller in
    let s = C.standing c.args.caller.now in
    let h = c.requires.laid in
    let word = c.args.word.now in
    let y = laid_beyond s h.0 c.args.table word c.args.n h.1 h.2 h.3 h.6 h.4 c.args.at c.args.laid c.args.bucket c.requires.bucket h.7 h.8 in
    c.if-not-find_beyond.ensures.found h.0 h.1 h.2 (drop c.args.laid (h.3 (bucket_of word))) h.5 y

pub returns-then-not-find_beyond-clause-raised : goal.returns-then-not-find_beyond-clause-raised
returns-then-not-find_beyond-clause-raised g c known name heads buckets own k may laid size =
    let C = g.C.Caller in
    let s = C.standing c.args.caller.now in
    let word = c.args.word.now in
    let y = laid_beyond s known c.args.table word c.args.n name heads buckets may own c.args.at c.args.laid c.args.bucket c.requires.bucket laid size in
    c.if-not-find_beyond.ensures.known known name heads (drop c.args.laid (buckets (bucket_of word))) k y

pub returns-then-not-find_beyond-clause-aside : goal.returns-then-not-find_beyond-clause-aside
returns-then-not-find_beyond-clause-aside g c known name heads buckets own other k may laid size ko lacks =
    let C = g.C.Caller in
    let s = C.standing c.args.caller.now in
    let word = c.args.word.now in
    let links = buckets (bucket_of word) in
    let y = laid_beyond s known c.args.table word c.args.n name heads buckets may own c.args.at c.args.laid c.args.bucket c.requires.bucket laid size in
    c.if-not-find_beyond.ensures.aside known name heads (drop c.args.laid links) other k y ko (lacks_as other (datum.Object name) _ (sym may.slot) lacks.head)
    (lacks_front s known c.args.table word c.args.n name heads buckets may other lacks c.args.at (c.args.at + c.args.laid) c.args.bucket (drop c.args.laid links) c.requires.bucket y) (lacks_drop other c.args.laid links (lacks.links (bucket_of word) (bucket_small word)))

pub raise-requires-clause-entry : goal.raise-requires-clause-entry
raise-requires-clause-entry g c =
    let C = g.C.Caller in
    let s = C.standing c.args.caller.now in
    let h = c.requires.laid in
    let word = c.args.word.now in
    let links = h.3 (bucket_of word) in
    let y = laid_beyond s h.0 c.args.table word c.args.n h.1 h.2 h.3 h.6 h.4 c.args.at c.args.laid c.args.bucket c.requires.bucket h.7 h.8 in
    let f = c.if-not-find_beyond.ensures.found h.0 h.1 h.2 (drop c.args.laid links) h.5 y in
    let parts = parts_past c.args.laid links f.0 f.2 f.1 f.3 in
    let there = entry_at h.0 parts.0 f.2 f.1 _ (subst (IsChain h.0 _) parts.1 (may_first s h.0 c.args.table word c.args.n h.1 h.2 h.3 h.6)) in (
      h.0,
      there.0,
      f.1,
      c.if-not-find_beyond.ensures.known h.0 h.1 h.2 (drop c.args.laid links) h.5 y,
      (top_after s.own _ (datum.Object (f.1).entry) (c.args.at + c.args.laid + 1) f.5 c.requires.top, there.1),
      sum_fits s h.0 c.args.table word c.args.n h.1 h.2 h.3 h.6 parts.0 f.2 f.1 parts.1 f.4,
    )

pub raise-requires-clause-room : goal.raise-requires-clause-room
raise-requires-clause-room g c =
    let C = g.C.Caller in
    let s = C.standing c.args.caller.now in
    let h = c.requires.laid in
    let word = c.args.word.now in
    let links = h.3 (bucket_of word) in
    let y = laid_beyond s h.0 c.args.table word c.args.n h.1 h.2 h.3 h.6 h.4 c.args.at c.args.laid c.args.bucket c.requires.bucket h.7 h.8 in
    let f = c.if-not-find_beyond.ensures.found h.0 h.1 h.2 (drop c.args.laid links) h.5 y in
    let size = size_after s.own _ (datum.Object (f.1).entry) f.5 in
    omega (arith, size, c.requires.top, c.requires.room)

pub raise-requires-clause-top : goal.raise-requires-clause-top
raise-requires-clause-top g c =
    let C = g.C.Caller in
    let s = C.standing c.args.caller.now in
    let h = c.requires.laid in
    let word = c.args.word.now in
    let links = h.3 (bucket_of word) in
    let y = laid_beyond s h.0 c.args.table word c.args.n h.1 h.2 h.3 h.6 h.4 c.args.at c.args.laid c.args.bucket c.requires.bucket h.7 h.8 in
    let f = c.if-not-find_beyond.ensures.found h.0 h.1 h.2 (drop c.args.laid links) h.5 y in
    let size = size_after s.own _ (datum.Object (f.1).entry) f.5 in
    omega (arith, size, c.requires.top)

pub pop-requires-clause-some : goal.pop-requires-clause-some
pop-requires-clause-some g c =
    let C = g.C.Caller in
    let s = C.standing c.args.caller.now in
    let h = c.requires.laid in
    let word = c.args.word.now in
    let links = h.3 (bucket_of word) in
    let y = laid_beyond s h.0 c.args.table word c.args.n h.1 h.2 h.3 h.6 h.4 c.args.at c.args.laid c.args.bucket c.requires.bucket h.7 h.8 in
    let f = c.if-not-find_beyond.ensures.found h.0 h.1 h.2 (drop c.args.laid links) h.5 y in
    let parts = parts_past c.args.laid links f.0 f.2 f.1 f.3 in
    let there = entry_at h.0 parts.0 f.2 f.1 _ (subst (IsChain h.0 _) parts.1 (may_first s h.0 c.args.table word c.args.n h.1 h.2 h.3 h.6)) in
    (_, c.raise.ensures.raised h.0 there.0 f.1 (c.if-not-find_beyond.ensures.known h.0 h.1 h.2 (drop c.args.laid links) h.5 y) (top_after s.own _ (datum.Object (f.1).entry) (c.args.at + c.args.laid + 1) f.5 c.requires.top, there.1))

pub pop-requires-clause-slot : goal.pop-requires-clause-slot
pop-requires-clause-slot g c =
    let C = g.C.Caller in
    let s = C.standing c.args.caller.now in
    let h = c.requires.laid in
    let word = c.args.word.now in
    let links = h.3 (bucket_of word) in
    let y = laid_beyond s h.0 c.args.table word c.args.n h.1 h.2 h.3 h.6 h.4 c.args.at c.args.laid c.args.bucket c.requires.bucket h.7 h.8 in
    let f = c.if-not-find_beyond.ensures.found h.0 h.1 h.2 (drop c.args.laid links) h.5 y in
    let size = size_after s.own _ (datum.Object (f.1).entry) f.5 in
    omega (arith, size, ap (λ (o : Thread). length o.stack) c.raise.ensures.own)

pub returns-clause-ran : goal.returns-clause-ran
returns-clause-ran g c = let C = g.C.Caller in ran_more C.base C.tells C.tells_known C.standing _ _ _ (ran_more C.base C.tells C.tells_known C.standing _ _ _ c.if-not-find_beyond.ensures.ran c.raise.ensures.ran) c.pop.ensures.ran

pub returns-clause-own : goal.returns-clause-own
returns-clause-own g c =
    let C = g.C.Caller in
    let s = C.standing c.args.caller.now in
    let h = c.requires.laid in
    let word = c.args.word.now in
    let links = h.3 (bucket_of word) in
    let y = laid_beyond s h.0 c.args.table word c.args.n h.1 h.2 h.3 h.6 h.4 c.args.at c.args.laid c.args.bucket c.requires.bucket h.7 h.8 in
    let f = c.if-not-find_beyond.ensures.found h.0 h.1 h.2 (drop c.args.laid links) h.5 y in
    c.pop.ensures.popped ∙ ap popped (c.raise.ensures.own ∙ f.5) ∙ popped_pushed _ _

pub returns-clause-raised : goal.returns-clause-raised
returns-clause-raised g c known name heads buckets own k may laid size =
    let C = g.C.Caller in
    let s = C.standing c.args.caller.now in
    let word = c.args.word.now in
    let links = buckets (bucket_of word) in
    let y = laid_beyond s known c.args.table word c.args.n name heads buckets may own c.args.at c.args.laid c.args.bucket c.requires.bucket laid size in
    let f = c.if-not-find_beyond.ensures.found known name heads (drop c.args.laid links) k y in
    let parts = parts_past c.args.laid links f.0 f.2 f.1 f.3 in
    let there = entry_at known parts.0 f.2 f.1 _ (subst (IsChain known _) parts.1 (may_first s known c.args.table word c.args.n name heads buckets may)) in
    let lifted = c.raise.ensures.raised known there.0 f.1 (c.if-not-find_beyond.ensures.known known name heads (drop c.args.laid links) k y) (top_after s.own _ (datum.Object (f.1).entry) (c.args.at + c.args.laid + 1) f.5 c.requires.top, there.1) in
    raised_there s known c.args.table word c.args.n name heads buckets may parts.0 f.2 f.1 parts.1 f.4 there.0 there.1 (C.knows c.pop.new.caller) (c.pop.ensures.keeps _ lifted)

pub returns-clause-aside : goal.returns-clause-aside
returns-clause-aside g c known name heads buckets own other k may laid size ko lacks =
    let C = g.C.Caller in
    let s = C.standing c.args.caller.now in
    let word = c.args.word.now in
    let links = buckets (bucket_of word) in
    let y = laid_beyond s known c.args.table word c.args.n name heads buckets may own c.args.at c.args.laid c.args.bucket c.requires.bucket laid size in
    let f = c.if-not-find_beyond.ensures.found known name heads (drop c.args.laid links) k y in
    let parts = parts_past c.args.laid links f.0 f.2 f.1 f.3 in
    let still = c.if-not-find_beyond.ensures.aside known name heads (drop c.args.laid links) other k y ko (lacks_as other (datum.Object name) _ (sym may.slot) lacks.head)
    (lacks_front s known c.args.table word c.args.n name heads buckets may other lacks c.args.at (c.args.at + c.args.laid) c.args.bucket (drop c.args.laid links) c.requires.bucket y) (lacks_drop other c.args.laid links (lacks.links (bucket_of word) (bucket_small word))) in
    let top = top_after s.own _ (datum.Object (f.1).entry) (c.args.at + c.args.laid + 1) f.5 c.requires.top in
    c.pop.ensures.keeps other (c.raise.ensures.aside other still (lacks_as other (datum.Object (f.1).entry) _ (sym top) (lacks_entry s known c.args.table word c.args.n name heads buckets may parts.0 f.2 f.1 parts.1 f.4 other lacks)))
