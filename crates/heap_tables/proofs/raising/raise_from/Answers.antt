use Rattle.std.proofs.Common.{◌+◌, ◌<◌, ◌∙◌, ap, sym, subst, arith, get_or, length, ◌∷◌}
use Rattle.yak_model.specs.Graph.{Thread}
use Rattle.yak_model.specs.Tables.{IsChain, bucket_of}
use Rattle.yak_model.specs.declared.datum.Datum.TheVariants as datum
use Rattle.heap_tables.specs.Layouts.{IsBeyond}
use Rattle.heap_tables.specs.Runs.{popped, pushed, without_top}
use Rattle.heap_tables.proofs.Asides.{lacks_as, lacks_head}
use Rattle.heap_tables.proofs.Effects.{popped_pushed, size_after, slot_after, top_after}
use Rattle.heap_tables.proofs.Laid.{laid_first, window_dropped}
use Rattle.heap_tables.proofs.LaidTables.{lacks_entry, raised_there, sum_fits}
use Rattle.heap_tables.proofs.Raised.{entry_at, table_apart}
use Rattle.heap_tables.proofs.RaisedCounts.{bucket_small}
use Rattle.heap_tables.proofs.RunOn.{ran_more}
use Rattle.heap_tables.proofs.raising.raise_from.Goals as goal

pub load-requires-clause-field : goal.load-requires-clause-field
load-requires-clause-field g c =
    let C = g.C.Caller in
    let s = C.standing c.args.caller.now in
    let h = c.requires.table in
    let known = h.0 in
    let name = h.1 in
    let heads = h.2 in
    let buckets = h.3 in
    let k = h.4 in
    let may = h.5 in
    let word = c.args.word.now in
    let t = may.is_table in
    let b = c.args.bucket in
    let home = c.requires.bucket in
    let links = buckets (bucket_of word) in
    let small = bucket_small word in
    let size_of = t.size in
    let within : b < length heads = omega (arith, home, small, size_of) in
    let head = get_or heads b datum.Null in
    let chain = subst (λ i. IsChain known (get_or heads i datum.Null) links) (sym home) (t.chains (bucket_of word) small) in
    (known, name, heads, k, (may.slot, t.object), within)

pub find_beyond-requires-clause-chain : goal.find_beyond-requires-clause-chain
find_beyond-requires-clause-chain g c =
    let C = g.C.Caller in
    let s = C.standing c.args.caller.now in
    let h = c.requires.table in
    let known = h.0 in
    let name = h.1 in
    let heads = h.2 in
    let buckets = h.3 in
    let k = h.4 in
    let may = h.5 in
    let word = c.args.word.now in
    let t = may.is_table in
    let b = c.args.bucket in
    let home = c.requires.bucket in
    let links = buckets (bucket_of word) in
    let small = bucket_small word in
    let size_of = t.size in
    let within : b < length heads = omega (arith, home, small, size_of) in
    let head = get_or heads b datum.Null in
    let chain = subst (λ i. IsChain known (get_or heads i datum.Null) links) (sym home) (t.chains (bucket_of word) small) in
    let e = c.load.ensures.pushed known name heads k (may.slot, t.object) within in
    let front = top_after s.own _ head c.args.top e c.requires.top in
    let deep = size_after s.own _ head e in
    let mid = C.standing c.load.new.caller in
    let kept = c.load.ensures.keeps known k in
    let y : IsBeyond mid known c.args.table b c.args.top c.args.top name heads links = record {
      slot = slot_after s.own _ head known c.args.table name heads e (may.slot, t.object);
      within = within;
      front = front;
      chain = subst (λ v. IsChain known v links) (sym front) chain;
      apart = table_apart known name heads buckets t links head chain;
      few = may.short;
    } in
    (known, name, heads, links, kept, y)

pub find_beyond-requires-clause-room : goal.find_beyond-requires-clause-room
find_beyond-requires-clause-room g c =
    let C = g.C.Caller in
    let s = C.standing c.args.caller.now in
    let h = c.requires.table in
    let known = h.0 in
    let name = h.1 in
    let heads = h.2 in
    let buckets = h.3 in
    let k = h.4 in
    let may = h.5 in
    let word = c.args.word.now in
    let t = may.is_table in
    let b = c.args.bucket in
    let home = c.requires.bucket in
    let links = buckets (bucket_of word) in
    let small = bucket_small word in
    let size_of = t.size in
    let within : b < length heads = omega (arith, home, small, size_of) in
    let head = get_or heads b datum.Null in
    let chain = subst (λ i. IsChain known (get_or heads i datum.Null) links) (sym home) (t.chains (bucket_of word) small) in
    let e = c.load.ensures.pushed known name heads k (may.slot, t.object) within in
    let front = top_after s.own _ head c.args.top e c.requires.top in
    let deep = size_after s.own _ head e in
    let mid = C.standing c.load.new.caller in
    let kept = c.load.ensures.keeps known k in
    let y : IsBeyond mid known c.args.table b c.args.top c.args.top name heads links = record {
      slot = slot_after s.own _ head known c.args.table name heads e (may.slot, t.object);
      within = within;
      front = front;
      chain = subst (λ v. IsChain known v links) (sym front) chain;
      apart = table_apart known name heads buckets t links head chain;
      few = may.short;
    } in
    omega (arith, c.requires.room, deep)

pub find_beyond-requires-clause-top : goal.find_beyond-requires-clause-top
find_beyond-requires-clause-top g c =
    let C = g.C.Caller in
    let s = C.standing c.args.caller.now in
    let h = c.requires.table in
    let known = h.0 in
    let name = h.1 in
    let heads = h.2 in
    let buckets = h.3 in
    let k = h.4 in
    let may = h.5 in
    let word = c.args.word.now in
    let t = may.is_table in
    let b = c.args.bucket in
    let home = c.requires.bucket in
    let links = buckets (bucket_of word) in
    let small = bucket_small word in
    let size_of = t.size in
    let within : b < length heads = omega (arith, home, small, size_of) in
    let head = get_or heads b datum.Null in
    let chain = subst (λ i. IsChain known (get_or heads i datum.Null) links) (sym home) (t.chains (bucket_of word) small) in
    let e = c.load.ensures.pushed known name heads k (may.slot, t.object) within in
    let front = top_after s.own _ head c.args.top e c.requires.top in
    let deep = size_after s.own _ head e in
    let mid = C.standing c.load.new.caller in
    let kept = c.load.ensures.keeps known k in
    let y : IsBeyond mid known c.args.table b c.args.top c.args.top name heads links = record {
      slot = slot_after s.own _ head known c.args.table name heads e (may.slot, t.object);
      within = within;
      front = front;
      chain = subst (λ v. IsChain known v links) (sym front) chain;
      apart = table_apart known name heads buckets t links head chain;
      few = may.short;
    } in
    omega (arith, c.requires.top, deep)

pub pop-requires-clause-some : goal.pop-requires-clause-some
pop-requires-clause-some g c =
    let C = g.C.Caller in
    let s = C.standing c.args.caller.now in
    let h = c.requires.table in
    let known = h.0 in
    let name = h.1 in
    let heads = h.2 in
    let buckets = h.3 in
    let k = h.4 in
    let may = h.5 in
    let word = c.args.word.now in
    let t = may.is_table in
    let b = c.args.bucket in
    let home = c.requires.bucket in
    let links = buckets (bucket_of word) in
    let small = bucket_small word in
    let size_of = t.size in
    let within : b < length heads = omega (arith, home, small, size_of) in
    let head = get_or heads b datum.Null in
    let chain = subst (λ i. IsChain known (get_or heads i datum.Null) links) (sym home) (t.chains (bucket_of word) small) in
    let e = c.load.ensures.pushed known name heads k (may.slot, t.object) within in
    let front = top_after s.own _ head c.args.top e c.requires.top in
    let deep = size_after s.own _ head e in
    let mid = C.standing c.load.new.caller in
    let kept = c.load.ensures.keeps known k in
    let y : IsBeyond mid known c.args.table b c.args.top c.args.top name heads links = record {
      slot = slot_after s.own _ head known c.args.table name heads e (may.slot, t.object);
      within = within;
      front = front;
      chain = subst (λ v. IsChain known v links) (sym front) chain;
      apart = table_apart known name heads buckets t links head chain;
      few = may.short;
    } in
    (known, c.if-not-find_beyond.ensures.known known name heads links kept y)

pub pop-requires-clause-slot : goal.pop-requires-clause-slot
pop-requires-clause-slot g c =
    let C = g.C.Caller in
    let s = C.standing c.args.caller.now in
    let h = c.requires.table in
    let known = h.0 in
    let name = h.1 in
    let heads = h.2 in
    let buckets = h.3 in
    let k = h.4 in
    let may = h.5 in
    let word = c.args.word.now in
    let t = may.is_table in
    let b = c.args.bucket in
    let home = c.requires.bucket in
    let links = buckets (bucket_of word) in
    let small = bucket_small word in
    let size_of = t.size in
    let within : b < length heads = omega (arith, home, small, size_of) in
    let head = get_or heads b datum.Null in
    let chain = subst (λ i. IsChain known (get_or heads i datum.Null) links) (sym home) (t.chains (bucket_of word) small) in
    let e = c.load.ensures.pushed known name heads k (may.slot, t.object) within in
    let front = top_after s.own _ head c.args.top e c.requires.top in
    let deep = size_after s.own _ head e in
    let mid = C.standing c.load.new.caller in
    let kept = c.load.ensures.keeps known k in
    let y : IsBeyond mid known c.args.table b c.args.top c.args.top name heads links = record {
      slot = slot_after s.own _ head known c.args.table name heads e (may.slot, t.object);
      within = within;
      front = front;
      chain = subst (λ v. IsChain known v links) (sym front) chain;
      apart = table_apart known name heads buckets t links head chain;
      few = may.short;
    } in
    let f = c.if-not-find_beyond.ensures.found known name heads links kept y in
    omega (arith, deep, ap (λ (o : Thread). length o.stack) f)

pub returns-then-not-find_beyond-clause-ran : goal.returns-then-not-find_beyond-clause-ran
returns-then-not-find_beyond-clause-ran g c =
    let C = g.C.Caller in
    ran_more C.base C.tells C.tells_known C.standing _ _ _ (ran_more C.base C.tells C.tells_known C.standing _ _ _ c.load.ensures.ran c.if-not-find_beyond.ensures.ran) c.pop.ensures.ran

pub returns-then-not-find_beyond-clause-own : goal.returns-then-not-find_beyond-clause-own
returns-then-not-find_beyond-clause-own g c =
    let C = g.C.Caller in
    let s = C.standing c.args.caller.now in
    let h = c.requires.table in
    let known = h.0 in
    let name = h.1 in
    let heads = h.2 in
    let buckets = h.3 in
    let k = h.4 in
    let may = h.5 in
    let word = c.args.word.now in
    let t = may.is_table in
    let b = c.args.bucket in
    let home = c.requires.bucket in
    let links = buckets (bucket_of word) in
    let small = bucket_small word in
    let size_of = t.size in
    let within : b < length heads = omega (arith, home, small, size_of) in
    let head = get_or heads b datum.Null in
    let chain = subst (λ i. IsChain known (get_or heads i datum.Null) links) (sym home) (t.chains (bucket_of word) small) in
    let e = c.load.ensures.pushed known name heads k (may.slot, t.object) within in
    let front = top_after s.own _ head c.args.top e c.requires.top in
    let deep = size_after s.own _ head e in
    let mid = C.standing c.load.new.caller in
    let kept = c.load.ensures.keeps known k in
    let y : IsBeyond mid known c.args.table b c.args.top c.args.top name heads links = record {
      slot = slot_after s.own _ head known c.args.table name heads e (may.slot, t.object);
      within = within;
      front = front;
      chain = subst (λ v. IsChain known v links) (sym front) chain;
      apart = table_apart known name heads buckets t links head chain;
      few = may.short;
    } in
    let f = c.if-not-find_beyond.ensures.found known name heads links kept y in
    c.pop.ensures.popped ∙ ap popped (f ∙ e) ∙ popped_pushed _ _

pub returns-then-not-find_beyond-clause-raised : goal.returns-then-not-find_beyond-clause-raised
returns-then-not-find_beyond-clause-raised g c known name heads buckets k may =
    let C = g.C.Caller in
    let s = C.standing c.args.caller.now in
    let word = c.args.word.now in
    let t = may.is_table in
    let b = c.args.bucket in
    let home = c.requires.bucket in
    let links = buckets (bucket_of word) in
    let small = bucket_small word in
    let size_of = t.size in
    let within : b < length heads = omega (arith, home, small, size_of) in
    let head = get_or heads b datum.Null in
    let chain = subst (λ i. IsChain known (get_or heads i datum.Null) links) (sym home) (t.chains (bucket_of word) small) in
    let e = c.load.ensures.pushed known name heads k (may.slot, t.object) within in
    let front = top_after s.own _ head c.args.top e c.requires.top in
    let deep = size_after s.own _ head e in
    let mid = C.standing c.load.new.caller in
    let kept = c.load.ensures.keeps known k in
    let y : IsBeyond mid known c.args.table b c.args.top c.args.top name heads links = record {
      slot = slot_after s.own _ head known c.args.table name heads e (may.slot, t.object);
      within = within;
      front = front;
      chain = subst (λ v. IsChain known v links) (sym front) chain;
      apart = table_apart known name heads buckets t links head chain;
      few = may.short;
    } in
    c.pop.ensures.keeps known (c.if-not-find_beyond.ensures.known known name heads links kept y)

pub returns-then-not-find_beyond-clause-aside : goal.returns-then-not-find_beyond-clause-aside
returns-then-not-find_beyond-clause-aside g c known name heads buckets other k may ko lacks =
    let C = g.C.Caller in
    let s = C.standing c.args.caller.now in
    let word = c.args.word.now in
    let t = may.is_table in
    let b = c.args.bucket in
    let home = c.requires.bucket in
    let links = buckets (bucket_of word) in
    let small = bucket_small word in
    let size_of = t.size in
    let within : b < length heads = omega (arith, home, small, size_of) in
    let head = get_or heads b datum.Null in
    let chain = subst (λ i. IsChain known (get_or heads i datum.Null) links) (sym home) (t.chains (bucket_of word) small) in
    let e = c.load.ensures.pushed known name heads k (may.slot, t.object) within in
    let front = top_after s.own _ head c.args.top e c.requires.top in
    let deep = size_after s.own _ head e in
    let mid = C.standing c.load.new.caller in
    let kept = c.load.ensures.keeps known k in
    let y : IsBeyond mid known c.args.table b c.args.top c.args.top name heads links = record {
      slot = slot_after s.own _ head known c.args.table name heads e (may.slot, t.object);
      within = within;
      front = front;
      chain = subst (λ v. IsChain known v links) (sym front) chain;
      apart = table_apart known name heads buckets t links head chain;
      few = may.short;
    } in
    let lacks_top = lacks_as other (datum.Object name) _ (sym y.slot.0) lacks.head in
    let lacks_links = lacks.links (bucket_of word) small in
    let value = lacks_as other head _ (sym front) (lacks_head other known head links chain lacks_links) in
    let aside = c.if-not-find_beyond.ensures.aside known name heads links other kept y (c.load.ensures.keeps other ko) lacks_top value lacks_links in
    c.pop.ensures.keeps other aside

pub raise-requires-clause-entry : goal.raise-requires-clause-entry
raise-requires-clause-entry g c =
    let C = g.C.Caller in
    let s = C.standing c.args.caller.now in
    let h = c.requires.table in
    let known = h.0 in
    let name = h.1 in
    let heads = h.2 in
    let buckets = h.3 in
    let k = h.4 in
    let may = h.5 in
    let word = c.args.word.now in
    let t = may.is_table in
    let b = c.args.bucket in
    let home = c.requires.bucket in
    let links = buckets (bucket_of word) in
    let small = bucket_small word in
    let size_of = t.size in
    let within : b < length heads = omega (arith, home, small, size_of) in
    let head = get_or heads b datum.Null in
    let chain = subst (λ i. IsChain known (get_or heads i datum.Null) links) (sym home) (t.chains (bucket_of word) small) in
    let e = c.load.ensures.pushed known name heads k (may.slot, t.object) within in
    let front = top_after s.own _ head c.args.top e c.requires.top in
    let deep = size_after s.own _ head e in
    let mid = C.standing c.load.new.caller in
    let kept = c.load.ensures.keeps known k in
    let y : IsBeyond mid known c.args.table b c.args.top c.args.top name heads links = record {
      slot = slot_after s.own _ head known c.args.table name heads e (may.slot, t.object);
      within = within;
      front = front;
      chain = subst (λ v. IsChain known v links) (sym front) chain;
      apart = table_apart known name heads buckets t links head chain;
      few = may.short;
    } in
    let f = c.if-not-find_beyond.ensures.found known name heads links kept y in
    let still = c.if-not-find_beyond.ensures.known known name heads links kept y in
    let there = entry_at known f.0 f.2 f.1 _ (subst (IsChain known head) f.3 chain) in
    let slot = top_after mid.own _ (datum.Object (f.1).entry) (c.args.top + 1) f.5 (omega (arith, deep, c.requires.top)) in
    let size = size_after mid.own _ (datum.Object (f.1).entry) f.5 in
    (known, there.0, f.1, still, (slot, there.1), sum_fits s known c.args.table word c.args.n name heads buckets may f.0 f.2 f.1 f.3 f.4)

pub raise-requires-clause-room : goal.raise-requires-clause-room
raise-requires-clause-room g c =
    let C = g.C.Caller in
    let s = C.standing c.args.caller.now in
    let h = c.requires.table in
    let known = h.0 in
    let name = h.1 in
    let heads = h.2 in
    let buckets = h.3 in
    let k = h.4 in
    let may = h.5 in
    let word = c.args.word.now in
    let t = may.is_table in
    let b = c.args.bucket in
    let home = c.requires.bucket in
    let links = buckets (bucket_of word) in
    let small = bucket_small word in
    let size_of = t.size in
    let within : b < length heads = omega (arith, home, small, size_of) in
    let head = get_or heads b datum.Null in
    let chain = subst (λ i. IsChain known (get_or heads i datum.Null) links) (sym home) (t.chains (bucket_of word) small) in
    let e = c.load.ensures.pushed known name heads k (may.slot, t.object) within in
    let front = top_after s.own _ head c.args.top e c.requires.top in
    let deep = size_after s.own _ head e in
    let mid = C.standing c.load.new.caller in
    let kept = c.load.ensures.keeps known k in
    let y : IsBeyond mid known c.args.table b c.args.top c.args.top name heads links = record {
      slot = slot_after s.own _ head known c.args.table name heads e (may.slot, t.object);
      within = within;
      front = front;
      chain = subst (λ v. IsChain known v links) (sym front) chain;
      apart = table_apart known name heads buckets t links head chain;
      few = may.short;
    } in
    let f = c.if-not-find_beyond.ensures.found known name heads links kept y in
    let still = c.if-not-find_beyond.ensures.known known name heads links kept y in
    let there = entry_at known f.0 f.2 f.1 _ (subst (IsChain known head) f.3 chain) in
    let slot = top_after mid.own _ (datum.Object (f.1).entry) (c.args.top + 1) f.5 (omega (arith, deep, c.requires.top)) in
    let size = size_after mid.own _ (datum.Object (f.1).entry) f.5 in
    omega (arith, size, deep, c.requires.room)

pub raise-requires-clause-top : goal.raise-requires-clause-top
raise-requires-clause-top g c =
    let C = g.C.Caller in
    let s = C.standing c.args.caller.now in
    let h = c.requires.table in
    let known = h.0 in
    let name = h.1 in
    let heads = h.2 in
    let buckets = h.3 in
    let k = h.4 in
    let may = h.5 in
    let word = c.args.word.now in
    let t = may.is_table in
    let b = c.args.bucket in
    let home = c.requires.bucket in
    let links = buckets (bucket_of word) in
    let small = bucket_small word in
    let size_of = t.size in
    let within : b < length heads = omega (arith, home, small, size_of) in
    let head = get_or heads b datum.Null in
    let chain = subst (λ i. IsChain known (get_or heads i datum.Null) links) (sym home) (t.chains (bucket_of word) small) in
    let e = c.load.ensures.pushed known name heads k (may.slot, t.object) within in
    let front = top_after s.own _ head c.args.top e c.requires.top in
    let deep = size_after s.own _ head e in
    let mid = C.standing c.load.new.caller in
    let kept = c.load.ensures.keeps known k in
    let y : IsBeyond mid known c.args.table b c.args.top c.args.top name heads links = record {
      slot = slot_after s.own _ head known c.args.table name heads e (may.slot, t.object);
      within = within;
      front = front;
      chain = subst (λ v. IsChain known v links) (sym front) chain;
      apart = table_apart known name heads buckets t links head chain;
      few = may.short;
    } in
    let f = c.if-not-find_beyond.ensures.found known name heads links kept y in
    let still = c.if-not-find_beyond.ensures.known known name heads links kept y in
    let there = entry_at known f.0 f.2 f.1 _ (subst (IsChain known head) f.3 chain) in
    let slot = top_after mid.own _ (datum.Object (f.1).entry) (c.args.top + 1) f.5 (omega (arith, deep, c.requires.top)) in
    let size = size_after mid.own _ (datum.Object (f.1).entry) f.5 in
    omega (arith, size, deep, c.requires.top)

pub pop_all-requires-clause-some : goal.pop_all-requires-clause-some
pop_all-requires-clause-some g c =
    let C = g.C.Caller in
    let s = C.standing c.args.caller.now in
    let h = c.requires.table in
    let known = h.0 in
    let name = h.1 in
    let heads = h.2 in
    let buckets = h.3 in
    let k = h.4 in
    let may = h.5 in
    let word = c.args.word.now in
    let t = may.is_table in
    let b = c.args.bucket in
    let home = c.requires.bucket in
    let links = buckets (bucket_of word) in
    let small = bucket_small word in
    let size_of = t.size in
    let within : b < length heads = omega (arith, home, small, size_of) in
    let head = get_or heads b datum.Null in
    let chain = subst (λ i. IsChain known (get_or heads i datum.Null) links) (sym home) (t.chains (bucket_of word) small) in
    let e = c.load.ensures.pushed known name heads k (may.slot, t.object) within in
    let front = top_after s.own _ head c.args.top e c.requires.top in
    let deep = size_after s.own _ head e in
    let mid = C.standing c.load.new.caller in
    let kept = c.load.ensures.keeps known k in
    let y : IsBeyond mid known c.args.table b c.args.top c.args.top name heads links = record {
      slot = slot_after s.own _ head known c.args.table name heads e (may.slot, t.object);
      within = within;
      front = front;
      chain = subst (λ v. IsChain known v links) (sym front) chain;
      apart = table_apart known name heads buckets t links head chain;
      few = may.short;
    } in
    let f = c.if-not-find_beyond.ensures.found known name heads links kept y in
    let still = c.if-not-find_beyond.ensures.known known name heads links kept y in
    let there = entry_at known f.0 f.2 f.1 _ (subst (IsChain known head) f.3 chain) in
    let slot = top_after mid.own _ (datum.Object (f.1).entry) (c.args.top + 1) f.5 (omega (arith, deep, c.requires.top)) in
    let size = size_after mid.own _ (datum.Object (f.1).entry) f.5 in
    (_, c.raise.ensures.raised known there.0 f.1 still (slot, there.1))

pub pop_all-requires-clause-slots : goal.pop_all-requires-clause-slots
pop_all-requires-clause-slots g c =
    let C = g.C.Caller in
    let s = C.standing c.args.caller.now in
    let h = c.requires.table in
    let known = h.0 in
    let name = h.1 in
    let heads = h.2 in
    let buckets = h.3 in
    let k = h.4 in
    let may = h.5 in
    let word = c.args.word.now in
    let t = may.is_table in
    let b = c.args.bucket in
    let home = c.requires.bucket in
    let links = buckets (bucket_of word) in
    let small = bucket_small word in
    let size_of = t.size in
    let within : b < length heads = omega (arith, home, small, size_of) in
    let head = get_or heads b datum.Null in
    let chain = subst (λ i. IsChain known (get_or heads i datum.Null) links) (sym home) (t.chains (bucket_of word) small) in
    let e = c.load.ensures.pushed known name heads k (may.slot, t.object) within in
    let front = top_after s.own _ head c.args.top e c.requires.top in
    let deep = size_after s.own _ head e in
    let mid = C.standing c.load.new.caller in
    let kept = c.load.ensures.keeps known k in
    let y : IsBeyond mid known c.args.table b c.args.top c.args.top name heads links = record {
      slot = slot_after s.own _ head known c.args.table name heads e (may.slot, t.object);
      within = within;
      front = front;
      chain = subst (λ v. IsChain known v links) (sym front) chain;
      apart = table_apart known name heads buckets t links head chain;
      few = may.short;
    } in
    let f = c.if-not-find_beyond.ensures.found known name heads links kept y in
    let still = c.if-not-find_beyond.ensures.known known name heads links kept y in
    let there = entry_at known f.0 f.2 f.1 _ (subst (IsChain known head) f.3 chain) in
    let slot = top_after mid.own _ (datum.Object (f.1).entry) (c.args.top + 1) f.5 (omega (arith, deep, c.requires.top)) in
    let size = size_after mid.own _ (datum.Object (f.1).entry) f.5 in
    omega (arith, size, deep, ap (λ (o : Thread). length o.stack) c.raise.ensures.own)

pub returns-clause-ran : goal.returns-clause-ran
returns-clause-ran g c =
    let C = g.C.Caller in
    let up = ran_more C.base C.tells C.tells_known C.standing _ _ _ (ran_more C.base C.tells C.tells_known C.standing _ _ _ c.load.ensures.ran c.if-not-find_beyond.ensures.ran) c.raise.ensures.ran in
    ran_more C.base C.tells C.tells_known C.standing _ _ _ up c.pop_all.ensures.ran

pub returns-clause-own : goal.returns-clause-own
returns-clause-own g c =
    let C = g.C.Caller in
    let s = C.standing c.args.caller.now in
    let h = c.requires.table in
    let known = h.0 in
    let name = h.1 in
    let heads = h.2 in
    let buckets = h.3 in
    let k = h.4 in
    let may = h.5 in
    let word = c.args.word.now in
    let t = may.is_table in
    let b = c.args.bucket in
    let home = c.requires.bucket in
    let links = buckets (bucket_of word) in
    let small = bucket_small word in
    let size_of = t.size in
    let within : b < length heads = omega (arith, home, small, size_of) in
    let head = get_or heads b datum.Null in
    let chain = subst (λ i. IsChain known (get_or heads i datum.Null) links) (sym home) (t.chains (bucket_of word) small) in
    let e = c.load.ensures.pushed known name heads k (may.slot, t.object) within in
    let front = top_after s.own _ head c.args.top e c.requires.top in
    let deep = size_after s.own _ head e in
    let mid = C.standing c.load.new.caller in
    let kept = c.load.ensures.keeps known k in
    let y : IsBeyond mid known c.args.table b c.args.top c.args.top name heads links = record {
      slot = slot_after s.own _ head known c.args.table name heads e (may.slot, t.object);
      within = within;
      front = front;
      chain = subst (λ v. IsChain known v links) (sym front) chain;
      apart = table_apart known name heads buckets t links head chain;
      few = may.short;
    } in
    let f = c.if-not-find_beyond.ensures.found known name heads links kept y in
    let still = c.if-not-find_beyond.ensures.known known name heads links kept y in
    let there = entry_at known f.0 f.2 f.1 _ (subst (IsChain known head) f.3 chain) in
    let slot = top_after mid.own _ (datum.Object (f.1).entry) (c.args.top + 1) f.5 (omega (arith, deep, c.requires.top)) in
    let size = size_after mid.own _ (datum.Object (f.1).entry) f.5 in
    c.pop_all.ensures.popped ∙ ap (λ o. without_top o 2) c.raise.ensures.own ∙ window_dropped s.own head (f.1 ∷ f.2) 0 _ (f.5 ∙ ap (λ o. pushed o (datum.Object (f.1).entry)) e ∙ laid_first (pushed s.own head) (f.1 ∷ f.2))

pub returns-clause-raised : goal.returns-clause-raised
returns-clause-raised g c known name heads buckets k may =
    let C = g.C.Caller in
    let s = C.standing c.args.caller.now in
    let word = c.args.word.now in
    let t = may.is_table in
    let b = c.args.bucket in
    let home = c.requires.bucket in
    let links = buckets (bucket_of word) in
    let small = bucket_small word in
    let size_of = t.size in
    let within : b < length heads = omega (arith, home, small, size_of) in
    let head = get_or heads b datum.Null in
    let chain = subst (λ i. IsChain known (get_or heads i datum.Null) links) (sym home) (t.chains (bucket_of word) small) in
    let e = c.load.ensures.pushed known name heads k (may.slot, t.object) within in
    let front = top_after s.own _ head c.args.top e c.requires.top in
    let deep = size_after s.own _ head e in
    let mid = C.standing c.load.new.caller in
    let kept = c.load.ensures.keeps known k in
    let y : IsBeyond mid known c.args.table b c.args.top c.args.top name heads links = record {
      slot = slot_after s.own _ head known c.args.table name heads e (may.slot, t.object);
      within = within;
      front = front;
      chain = subst (λ v. IsChain known v links) (sym front) chain;
      apart = table_apart known name heads buckets t links head chain;
      few = may.short;
    } in
    let f = c.if-not-find_beyond.ensures.found known name heads links kept y in
    let still = c.if-not-find_beyond.ensures.known known name heads links kept y in
    let there = entry_at known f.0 f.2 f.1 _ (subst (IsChain known head) f.3 chain) in
    let slot = top_after mid.own _ (datum.Object (f.1).entry) (c.args.top + 1) f.5 (omega (arith, deep, c.requires.top)) in
    let size = size_after mid.own _ (datum.Object (f.1).entry) f.5 in
    let lifted = c.raise.ensures.raised known there.0 f.1 still (slot, there.1) in
    raised_there s known c.args.table word c.args.n name heads buckets may f.0 f.2 f.1 f.3 f.4 there.0 there.1 (C.knows c.pop_all.new.caller) (c.pop_all.ensures.keeps _ lifted)

pub returns-clause-aside : goal.returns-clause-aside
returns-clause-aside g c known name heads buckets other k may ko lacks =
    let C = g.C.Caller in
    let s = C.standing c.args.caller.now in
    let word = c.args.word.now in
    let t = may.is_table in
    let b = c.args.bucket in
    let home = c.requires.bucket in
    let links = buckets (bucket_of word) in
    let small = bucket_small word in
    let size_of = t.size in
    let within : b < length heads = omega (arith, home, small, size_of) in
    let head = get_or heads b datum.Null in
    let chain = subst (λ i. IsChain known (get_or heads i datum.Null) links) (sym home) (t.chains (bucket_of word) small) in
    let e = c.load.ensures.pushed known name heads k (may.slot, t.object) within in
    let front = top_after s.own _ head c.args.top e c.requires.top in
    let deep = size_after s.own _ head e in
    let mid = C.standing c.load.new.caller in
    let kept = c.load.ensures.keeps known k in
    let y : IsBeyond mid known c.args.table b c.args.top c.args.top name heads links = record {
      slot = slot_after s.own _ head known c.args.table name heads e (may.slot, t.object);
      within = within;
      front = front;
      chain = subst (λ v. IsChain known v links) (sym front) chain;
      apart = table_apart known name heads buckets t links head chain;
      few = may.short;
    } in
    let f = c.if-not-find_beyond.ensures.found known name heads links kept y in
    let still = c.if-not-find_beyond.ensures.known known name heads links kept y in
    let there = entry_at known f.0 f.2 f.1 _ (subst (IsChain known head) f.3 chain) in
    let slot = top_after mid.own _ (datum.Object (f.1).entry) (c.args.top + 1) f.5 (omega (arith, deep, c.requires.top)) in
    let size = size_after mid.own _ (datum.Object (f.1).entry) f.5 in
    let lacks_top = lacks_as other (datum.Object name) _ (sym y.slot.0) lacks.head in
    let lacks_links = lacks.links (bucket_of word) small in
    let value = lacks_as other head _ (sym front) (lacks_head other known head links chain lacks_links) in
    let aside = c.if-not-find_beyond.ensures.aside known name heads links other kept y (c.load.ensures.keeps other ko) lacks_top value lacks_links in
    c.pop_all.ensures.keeps other (c.raise.ensures.aside other aside (lacks_as other (datum.Object (f.1).entry) _ (sym slot) (lacks_entry s known c.args.table word c.args.n name heads buckets may f.0 f.2 f.1 f.3 f.4 other lacks)))
