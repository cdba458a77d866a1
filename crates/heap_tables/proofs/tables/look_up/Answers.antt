use Rattle.std.proofs.Common.{◌∙◌, ap, sym, refl, arith, length, get_or, Some}
use Rattle.yak_model.specs.declared.datum.Datum.TheVariants as datum
use Rattle.yak_model.specs.Graph.{Thread}
use Rattle.yak_model.specs.Tables.{entry_fields}
use Rattle.heap_tables.specs.Runs.{popped}
use Rattle.heap_tables.proofs.Effects.{popped_pushed, size_after, length_push}
use Rattle.heap_tables.proofs.Lookups.{heads_at, links_at, look_apart, look_at, look_count, look_entry, look_lacks, look_none, look_short, look_slot}
use Rattle.heap_tables.proofs.RunOn.{ran_more}
use Rattle.heap_tables.proofs.tables.look_up.Goals as goal

pub find-requires-clause-chain : goal.find-requires-clause-chain
find-requires-clause-chain g c =
    let C = g.C.Caller in
    let s = C.standing c.args.caller.now in
    let h = c.requires.table in
    let word = c.args.word.now in
    let b = c.bucket_of-bucket.result in
    let e = c.bucket_of-bucket.ensures.same in
    let small = c.bucket_of-bucket.ensures.small in
    let at = look_at s h.0 c.args.table word h.1 h.2 h.4 b e small in
    let apart = look_apart s h.0 c.args.table word h.1 h.2 h.4 b e small in
    let short = look_short s h.0 c.args.table word h.1 h.2 h.4 b e small in
    let heads = heads_at s h.0 c.args.table word h.1 h.2 h.4 b e small in
    let links = links_at s h.0 c.args.table word h.1 h.2 h.4 b e small in
    (h.0, h.1, heads, links, h.3, at, apart, short)

pub pop-requires-clause-some : goal.pop-requires-clause-some
pop-requires-clause-some g c =
    let C = g.C.Caller in
    let s = C.standing c.args.caller.now in
    let h = c.requires.table in
    let word = c.args.word.now in
    let b = c.bucket_of-bucket.result in
    let e = c.bucket_of-bucket.ensures.same in
    let small = c.bucket_of-bucket.ensures.small in
    let at = look_at s h.0 c.args.table word h.1 h.2 h.4 b e small in
    let apart = look_apart s h.0 c.args.table word h.1 h.2 h.4 b e small in
    let short = look_short s h.0 c.args.table word h.1 h.2 h.4 b e small in
    let heads = heads_at s h.0 c.args.table word h.1 h.2 h.4 b e small in
    let links = links_at s h.0 c.args.table word h.1 h.2 h.4 b e small in
    let found = c.if-not-find.ensures.found h.0 h.1 heads links h.3 at apart short in
    let still = c.if-not-find.ensures.known h.0 h.1 heads links h.3 at apart short in
    (h.0, still)

pub pop-requires-clause-slot : goal.pop-requires-clause-slot
pop-requires-clause-slot g c =
    let C = g.C.Caller in
    let s = C.standing c.args.caller.now in
    let h = c.requires.table in
    let word = c.args.word.now in
    let b = c.bucket_of-bucket.result in
    let e = c.bucket_of-bucket.ensures.same in
    let small = c.bucket_of-bucket.ensures.small in
    let at = look_at s h.0 c.args.table word h.1 h.2 h.4 b e small in
    let apart = look_apart s h.0 c.args.table word h.1 h.2 h.4 b e small in
    let short = look_short s h.0 c.args.table word h.1 h.2 h.4 b e small in
    let heads = heads_at s h.0 c.args.table word h.1 h.2 h.4 b e small in
    let links = links_at s h.0 c.args.table word h.1 h.2 h.4 b e small in
    let found = c.if-not-find.ensures.found h.0 h.1 heads links h.3 at apart short in
    let still = c.if-not-find.ensures.known h.0 h.1 heads links h.3 at apart short in
    omega (arith, size_after s.own _ (get_or heads b datum.Null) (found.1 refl).1)

pub returns-then-not-find-clause-ran : goal.returns-then-not-find-clause-ran
returns-then-not-find-clause-ran g c = let C = g.C.Caller in ran_more C.base C.tells C.tells_known C.standing _ _ _ c.if-not-find.ensures.ran c.pop.ensures.ran

pub returns-then-not-find-clause-own : goal.returns-then-not-find-clause-own
returns-then-not-find-clause-own g c =
    let C = g.C.Caller in
    let s = C.standing c.args.caller.now in
    let h = c.requires.table in
    let word = c.args.word.now in
    let b = c.bucket_of-bucket.result in
    let e = c.bucket_of-bucket.ensures.same in
    let small = c.bucket_of-bucket.ensures.small in
    let at = look_at s h.0 c.args.table word h.1 h.2 h.4 b e small in
    let apart = look_apart s h.0 c.args.table word h.1 h.2 h.4 b e small in
    let short = look_short s h.0 c.args.table word h.1 h.2 h.4 b e small in
    let heads = heads_at s h.0 c.args.table word h.1 h.2 h.4 b e small in
    let links = links_at s h.0 c.args.table word h.1 h.2 h.4 b e small in
    let found = c.if-not-find.ensures.found h.0 h.1 heads links h.3 at apart short in
    let still = c.if-not-find.ensures.known h.0 h.1 heads links h.3 at apart short in
    c.pop.ensures.popped ∙ ap popped (found.1 refl).1 ∙ popped_pushed _ _

pub returns-then-not-find-clause-kept : goal.returns-then-not-find-clause-kept
returns-then-not-find-clause-kept g c known name counts k may =
    let C = g.C.Caller in
    let s = C.standing c.args.caller.now in
    let h = c.requires.table in
    let word = c.args.word.now in
    let b = c.bucket_of-bucket.result in
    let e = c.bucket_of-bucket.ensures.same in
    let small = c.bucket_of-bucket.ensures.small in
    let at = look_at s known c.args.table word name counts may b e small in
    let apart = look_apart s known c.args.table word name counts may b e small in
    let short = look_short s known c.args.table word name counts may b e small in
    let heads = heads_at s known c.args.table word name counts may b e small in
    let links = links_at s known c.args.table word name counts may b e small in
    let found = c.if-not-find.ensures.found known name heads links k at apart short in
    let still = c.if-not-find.ensures.known known name heads links k at apart short in
    c.pop.ensures.keeps known still

pub returns-then-not-find-clause-aside : goal.returns-then-not-find-clause-aside
returns-then-not-find-clause-aside g c known name counts may other k ko lacks =
    let C = g.C.Caller in
    let s = C.standing c.args.caller.now in
    let h = c.requires.table in
    let word = c.args.word.now in
    let b = c.bucket_of-bucket.result in
    let e = c.bucket_of-bucket.ensures.same in
    let small = c.bucket_of-bucket.ensures.small in
    let at = look_at s known c.args.table word name counts may b e small in
    let apart = look_apart s known c.args.table word name counts may b e small in
    let short = look_short s known c.args.table word name counts may b e small in
    let heads = heads_at s known c.args.table word name counts may b e small in
    let links = links_at s known c.args.table word name counts may b e small in
    c.pop.ensures.keeps other (c.if-not-find.ensures.aside known name heads links other k at apart short ko (look_lacks s known c.args.table word name counts may b e small other lacks))

pub returns-then-not-find-clause-count : goal.returns-then-not-find-clause-count
returns-then-not-find-clause-count g c known name counts k may =
    let C = g.C.Caller in
    let s = C.standing c.args.caller.now in
    let h = c.requires.table in
    let word = c.args.word.now in
    let b = c.bucket_of-bucket.result in
    let e = c.bucket_of-bucket.ensures.same in
    let small = c.bucket_of-bucket.ensures.small in
    let at = look_at s known c.args.table word name counts may b e small in
    let apart = look_apart s known c.args.table word name counts may b e small in
    let short = look_short s known c.args.table word name counts may b e small in
    let heads = heads_at s known c.args.table word name counts may b e small in
    let links = links_at s known c.args.table word name counts may b e small in
    let found = c.if-not-find.ensures.found known name heads links k at apart short in
    let still = c.if-not-find.ensures.known known name heads links k at apart short in
    sym (look_none s known c.args.table word name counts may b e small (found.1 refl).0)

pub field_int-count-requires-clause-field : goal.field_int-count-requires-clause-field
field_int-count-requires-clause-field g c =
    let C = g.C.Caller in
    let s = C.standing c.args.caller.now in
    let h = c.requires.table in
    let word = c.args.word.now in
    let b = c.bucket_of-bucket.result in
    let e = c.bucket_of-bucket.ensures.same in
    let small = c.bucket_of-bucket.ensures.small in
    let at = look_at s h.0 c.args.table word h.1 h.2 h.4 b e small in
    let apart = look_apart s h.0 c.args.table word h.1 h.2 h.4 b e small in
    let short = look_short s h.0 c.args.table word h.1 h.2 h.4 b e small in
    let heads = heads_at s h.0 c.args.table word h.1 h.2 h.4 b e small in
    let links = links_at s h.0 c.args.table word h.1 h.2 h.4 b e small in
    let found = c.if-not-find.ensures.found h.0 h.1 heads links h.3 at apart short in
    let still = c.if-not-find.ensures.known h.0 h.1 heads links h.3 at apart short in
    let f = found.0 refl in
    let entry = look_entry s h.0 c.args.table word h.1 h.2 h.4 b e small s.own _ c.args.top c.requires.top f.0 f.2 f.1 f.3 f.4 f.6 in
    let slot = look_slot s h.0 c.args.table word h.1 h.2 h.4 b e small s.own _ c.args.top c.requires.top f.0 f.2 f.1 f.3 f.4 f.6 in
    let fields = entry_fields entry.0 (f.1).key (f.1).count in
    (h.0, (f.1).entry, fields, still, (slot, entry.1.0), omega arith)

pub field_int-count-requires-clause-room : goal.field_int-count-requires-clause-room
field_int-count-requires-clause-room g c =
    let C = g.C.Caller in
    let s = C.standing c.args.caller.now in
    let h = c.requires.table in
    let word = c.args.word.now in
    let b = c.bucket_of-bucket.result in
    let e = c.bucket_of-bucket.ensures.same in
    let small = c.bucket_of-bucket.ensures.small in
    let at = look_at s h.0 c.args.table word h.1 h.2 h.4 b e small in
    let apart = look_apart s h.0 c.args.table word h.1 h.2 h.4 b e small in
    let short = look_short s h.0 c.args.table word h.1 h.2 h.4 b e small in
    let heads = heads_at s h.0 c.args.table word h.1 h.2 h.4 b e small in
    let links = links_at s h.0 c.args.table word h.1 h.2 h.4 b e small in
    let found = c.if-not-find.ensures.found h.0 h.1 heads links h.3 at apart short in
    let still = c.if-not-find.ensures.known h.0 h.1 heads links h.3 at apart short in
    let f = found.0 refl in
    let one = length_push s.own.stack (get_or heads b datum.Null) in
    omega (arith, c.requires.room, one, size_after _ _ (datum.Object (f.1).entry) f.6)

pub field_int-count-requires-clause-top : goal.field_int-count-requires-clause-top
field_int-count-requires-clause-top g c =
    let C = g.C.Caller in
    let s = C.standing c.args.caller.now in
    let h = c.requires.table in
    let word = c.args.word.now in
    let b = c.bucket_of-bucket.result in
    let e = c.bucket_of-bucket.ensures.same in
    let small = c.bucket_of-bucket.ensures.small in
    let at = look_at s h.0 c.args.table word h.1 h.2 h.4 b e small in
    let apart = look_apart s h.0 c.args.table word h.1 h.2 h.4 b e small in
    let short = look_short s h.0 c.args.table word h.1 h.2 h.4 b e small in
    let heads = heads_at s h.0 c.args.table word h.1 h.2 h.4 b e small in
    let links = links_at s h.0 c.args.table word h.1 h.2 h.4 b e small in
    let found = c.if-not-find.ensures.found h.0 h.1 heads links h.3 at apart short in
    let still = c.if-not-find.ensures.known h.0 h.1 heads links h.3 at apart short in
    let f = found.0 refl in
    let one = length_push s.own.stack (get_or heads b datum.Null) in
    omega (arith, c.requires.top, one, size_after _ _ (datum.Object (f.1).entry) f.6)

pub pop-requires-2-clause-some : goal.pop-requires-2-clause-some
pop-requires-2-clause-some g c =
    let C = g.C.Caller in
    let s = C.standing c.args.caller.now in
    let h = c.requires.table in
    let word = c.args.word.now in
    let b = c.bucket_of-bucket.result in
    let e = c.bucket_of-bucket.ensures.same in
    let small = c.bucket_of-bucket.ensures.small in
    let at = look_at s h.0 c.args.table word h.1 h.2 h.4 b e small in
    let apart = look_apart s h.0 c.args.table word h.1 h.2 h.4 b e small in
    let short = look_short s h.0 c.args.table word h.1 h.2 h.4 b e small in
    let heads = heads_at s h.0 c.args.table word h.1 h.2 h.4 b e small in
    let links = links_at s h.0 c.args.table word h.1 h.2 h.4 b e small in
    let found = c.if-not-find.ensures.found h.0 h.1 heads links h.3 at apart short in
    let still = c.if-not-find.ensures.known h.0 h.1 heads links h.3 at apart short in
    (h.0, c.field_int-count.ensures.keeps h.0 still)

pub pop-requires-2-clause-slot : goal.pop-requires-2-clause-slot
pop-requires-2-clause-slot g c =
    let C = g.C.Caller in
    let s = C.standing c.args.caller.now in
    let h = c.requires.table in
    let word = c.args.word.now in
    let b = c.bucket_of-bucket.result in
    let e = c.bucket_of-bucket.ensures.same in
    let small = c.bucket_of-bucket.ensures.small in
    let at = look_at s h.0 c.args.table word h.1 h.2 h.4 b e small in
    let apart = look_apart s h.0 c.args.table word h.1 h.2 h.4 b e small in
    let short = look_short s h.0 c.args.table word h.1 h.2 h.4 b e small in
    let heads = heads_at s h.0 c.args.table word h.1 h.2 h.4 b e small in
    let links = links_at s h.0 c.args.table word h.1 h.2 h.4 b e small in
    let found = c.if-not-find.ensures.found h.0 h.1 heads links h.3 at apart short in
    let still = c.if-not-find.ensures.known h.0 h.1 heads links h.3 at apart short in
    let f = found.0 refl in
    omega (arith, size_after _ _ (datum.Object (f.1).entry) f.6, ap (λ (o : Thread). length o.stack) c.field_int-count.ensures.own)

pub pop-requires-3-clause-some : goal.pop-requires-3-clause-some
pop-requires-3-clause-some g c =
    let C = g.C.Caller in
    let s = C.standing c.args.caller.now in
    let h = c.requires.table in
    let word = c.args.word.now in
    let b = c.bucket_of-bucket.result in
    let e = c.bucket_of-bucket.ensures.same in
    let small = c.bucket_of-bucket.ensures.small in
    let at = look_at s h.0 c.args.table word h.1 h.2 h.4 b e small in
    let apart = look_apart s h.0 c.args.table word h.1 h.2 h.4 b e small in
    let short = look_short s h.0 c.args.table word h.1 h.2 h.4 b e small in
    let heads = heads_at s h.0 c.args.table word h.1 h.2 h.4 b e small in
    let links = links_at s h.0 c.args.table word h.1 h.2 h.4 b e small in
    let found = c.if-not-find.ensures.found h.0 h.1 heads links h.3 at apart short in
    let still = c.if-not-find.ensures.known h.0 h.1 heads links h.3 at apart short in
    (h.0, c.pop-2.ensures.keeps h.0 (c.field_int-count.ensures.keeps h.0 still))

pub pop-requires-3-clause-slot : goal.pop-requires-3-clause-slot
pop-requires-3-clause-slot g c =
    let C = g.C.Caller in
    let s = C.standing c.args.caller.now in
    let h = c.requires.table in
    let word = c.args.word.now in
    let b = c.bucket_of-bucket.result in
    let e = c.bucket_of-bucket.ensures.same in
    let small = c.bucket_of-bucket.ensures.small in
    let at = look_at s h.0 c.args.table word h.1 h.2 h.4 b e small in
    let apart = look_apart s h.0 c.args.table word h.1 h.2 h.4 b e small in
    let short = look_short s h.0 c.args.table word h.1 h.2 h.4 b e small in
    let heads = heads_at s h.0 c.args.table word h.1 h.2 h.4 b e small in
    let links = links_at s h.0 c.args.table word h.1 h.2 h.4 b e small in
    let found = c.if-not-find.ensures.found h.0 h.1 heads links h.3 at apart short in
    let still = c.if-not-find.ensures.known h.0 h.1 heads links h.3 at apart short in
    let f = found.0 refl in
    let one = length_push s.own.stack (get_or heads b datum.Null) in
    omega (arith, one, ap (λ (o : Thread). length o.stack) (c.pop-2.ensures.popped ∙ ap popped (c.field_int-count.ensures.own ∙ f.6) ∙ popped_pushed _ _))

pub returns-clause-ran : goal.returns-clause-ran
returns-clause-ran g c = let C = g.C.Caller in ran_more C.base C.tells C.tells_known C.standing _ _ _ (ran_more C.base C.tells C.tells_known C.standing _ _ _ (ran_more C.base C.tells C.tells_known C.standing _ _ _ c.if-not-find.ensures.ran c.field_int-count.ensures.ran) c.pop-2.ensures.ran) c.pop-3.ensures.ran

pub returns-clause-own : goal.returns-clause-own
returns-clause-own g c =
    let C = g.C.Caller in
    let s = C.standing c.args.caller.now in
    let h = c.requires.table in
    let word = c.args.word.now in
    let b = c.bucket_of-bucket.result in
    let e = c.bucket_of-bucket.ensures.same in
    let small = c.bucket_of-bucket.ensures.small in
    let at = look_at s h.0 c.args.table word h.1 h.2 h.4 b e small in
    let apart = look_apart s h.0 c.args.table word h.1 h.2 h.4 b e small in
    let short = look_short s h.0 c.args.table word h.1 h.2 h.4 b e small in
    let heads = heads_at s h.0 c.args.table word h.1 h.2 h.4 b e small in
    let links = links_at s h.0 c.args.table word h.1 h.2 h.4 b e small in
    let found = c.if-not-find.ensures.found h.0 h.1 heads links h.3 at apart short in
    let still = c.if-not-find.ensures.known h.0 h.1 heads links h.3 at apart short in
    let f = found.0 refl in
    c.pop-3.ensures.popped ∙ ap popped (c.pop-2.ensures.popped ∙ ap popped (c.field_int-count.ensures.own ∙ f.6) ∙ popped_pushed _ _) ∙ popped_pushed _ _

pub returns-clause-kept : goal.returns-clause-kept
returns-clause-kept g c known name counts k may =
    let C = g.C.Caller in
    let s = C.standing c.args.caller.now in
    let h = c.requires.table in
    let word = c.args.word.now in
    let b = c.bucket_of-bucket.result in
    let e = c.bucket_of-bucket.ensures.same in
    let small = c.bucket_of-bucket.ensures.small in
    let at = look_at s known c.args.table word name counts may b e small in
    let apart = look_apart s known c.args.table word name counts may b e small in
    let short = look_short s known c.args.table word name counts may b e small in
    let heads = heads_at s known c.args.table word name counts may b e small in
    let links = links_at s known c.args.table word name counts may b e small in
    let found = c.if-not-find.ensures.found known name heads links k at apart short in
    let still = c.if-not-find.ensures.known known name heads links k at apart short in
    c.pop-3.ensures.keeps known (c.pop-2.ensures.keeps known (c.field_int-count.ensures.keeps known still))

pub returns-clause-aside : goal.returns-clause-aside
returns-clause-aside g c known name counts may other k ko lacks =
    let C = g.C.Caller in
    let s = C.standing c.args.caller.now in
    let h = c.requires.table in
    let word = c.args.word.now in
    let b = c.bucket_of-bucket.result in
    let e = c.bucket_of-bucket.ensures.same in
    let small = c.bucket_of-bucket.ensures.small in
    let at = look_at s known c.args.table word name counts may b e small in
    let apart = look_apart s known c.args.table word name counts may b e small in
    let short = look_short s known c.args.table word name counts may b e small in
    let heads = heads_at s known c.args.table word name counts may b e small in
    let links = links_at s known c.args.table word name counts may b e small in
    let still = c.if-not-find.ensures.aside known name heads links other k at apart short ko (look_lacks s known c.args.table word name counts may b e small other lacks) in
    c.pop-3.ensures.keeps other (c.pop-2.ensures.keeps other (c.field_int-count.ensures.keeps other still))

pub returns-clause-count : goal.returns-clause-count
returns-clause-count g c known name counts k may =
    let C = g.C.Caller in
    let s = C.standing c.args.caller.now in
    let h = c.requires.table in
    let word = c.args.word.now in
    let b = c.bucket_of-bucket.result in
    let e = c.bucket_of-bucket.ensures.same in
    let small = c.bucket_of-bucket.ensures.small in
    let at = look_at s known c.args.table word name counts may b e small in
    let apart = look_apart s known c.args.table word name counts may b e small in
    let short = look_short s known c.args.table word name counts may b e small in
    let heads = heads_at s known c.args.table word name counts may b e small in
    let links = links_at s known c.args.table word name counts may b e small in
    let found = c.if-not-find.ensures.found known name heads links k at apart short in
    let still = c.if-not-find.ensures.known known name heads links k at apart short in
    let f = found.0 refl in
    let entry = look_entry s known c.args.table word name counts may b e small s.own _ c.args.top c.requires.top f.0 f.2 f.1 f.3 f.4 f.6 in
    let slot = look_slot s known c.args.table word name counts may b e small s.own _ c.args.top c.requires.top f.0 f.2 f.1 f.3 f.4 f.6 in
    let fields = entry_fields entry.0 (f.1).key (f.1).count in
    let value = c.field_int-count.ensures.value known (f.1).entry fields (f.1).count still (slot, entry.1.0) (omega arith) refl in
    let count = look_count s known c.args.table word name counts may b e small s.own _ c.args.top c.requires.top f.0 f.2 f.1 f.3 f.4 f.6 in
    ap (λ n. Some n) value ∙ sym count
