use Rattle.std.proofs.Common.{◌+◌, ◌<◌, ◌∙◌, ◌++◌, ◌∷◌, ap, sym, subst, refl, arith, length, get_or, true≢false}
use Rattle.yak_model.specs.Graph.{Thread}
use Rattle.yak_model.specs.declared.datum.Datum.TheVariants as datum
use Rattle.yak_model.specs.Tables.{HasCount, IsChain, bucket_of}
use Rattle.heap_tables.specs.Runs.{without_top}
use Rattle.heap_tables.proofs.Asides.{lacks_as, lacks_rest}
use Rattle.heap_tables.proofs.Climbs.{climbed_size}
use Rattle.heap_tables.proofs.Effects.{drop_pushes, size_after, top_after}
use Rattle.heap_tables.proofs.Near.{near_end, near_found, near_left}
use Rattle.heap_tables.proofs.Raised.{has_count_at, raised_table}
use Rattle.heap_tables.proofs.RaisedCounts.{bucket_small}
use Rattle.heap_tables.proofs.RunOn.{ran_more}
use Rattle.heap_tables.proofs.tables.add_near.Goals as goal

pub load-requires-clause-field : goal.load-requires-clause-field
load-requires-clause-field g c =
    let C = g.C.Caller in
    let s = C.standing c.args.caller.now in
    let h = c.requires.table in
    let known = h.0 in
    let name = h.1 in
    let heads = h.2 in
    let buckets = h.3 in
    let k = h.4 in
    let may = h.5 in
    let word = c.args.word.now in
    let t = may.is_table in
    let b = c.args.bucket in
    let home = c.requires.bucket in
    let links = buckets (bucket_of word) in
    let small = bucket_small word in
    let size_of = t.size in
    let within : b < length heads = omega (arith, home, small, size_of) in
    let head = get_or heads b datum.Null in
    let chain = subst (λ i. IsChain known (get_or heads i datum.Null) links) (sym home) (t.chains (bucket_of word) small) in
    (known, name, heads, k, (may.slot, t.object), within)

pub climb-said-requires-clause-chain : goal.climb-said-requires-clause-chain
climb-said-requires-clause-chain g c =
    let C = g.C.Caller in
    let s = C.standing c.args.caller.now in
    let h = c.requires.table in
    let known = h.0 in
    let name = h.1 in
    let heads = h.2 in
    let buckets = h.3 in
    let k = h.4 in
    let may = h.5 in
    let word = c.args.word.now in
    let t = may.is_table in
    let b = c.args.bucket in
    let home = c.requires.bucket in
    let links = buckets (bucket_of word) in
    let small = bucket_small word in
    let size_of = t.size in
    let within : b < length heads = omega (arith, home, small, size_of) in
    let head = get_or heads b datum.Null in
    let chain = subst (λ i. IsChain known (get_or heads i datum.Null) links) (sym home) (t.chains (bucket_of word) small) in
    let e = c.load.ensures.pushed known name heads k (may.slot, t.object) within in
    let front = top_after s.own _ head c.args.top e c.requires.top in
    let first = subst (λ v. IsChain known v links) (sym front) chain in
    let deep = size_after s.own _ head e in
    (known, links, c.load.ensures.keeps known k, first)

pub climb-said-requires-clause-room : goal.climb-said-requires-clause-room
climb-said-requires-clause-room g c =
    let C = g.C.Caller in
    let s = C.standing c.args.caller.now in
    let h = c.requires.table in
    let known = h.0 in
    let name = h.1 in
    let heads = h.2 in
    let buckets = h.3 in
    let k = h.4 in
    let may = h.5 in
    let word = c.args.word.now in
    let t = may.is_table in
    let b = c.args.bucket in
    let home = c.requires.bucket in
    let links = buckets (bucket_of word) in
    let small = bucket_small word in
    let size_of = t.size in
    let within : b < length heads = omega (arith, home, small, size_of) in
    let head = get_or heads b datum.Null in
    let chain = subst (λ i. IsChain known (get_or heads i datum.Null) links) (sym home) (t.chains (bucket_of word) small) in
    let e = c.load.ensures.pushed known name heads k (may.slot, t.object) within in
    let front = top_after s.own _ head c.args.top e c.requires.top in
    let first = subst (λ v. IsChain known v links) (sym front) chain in
    let deep = size_after s.own _ head e in
    omega (arith, c.requires.room, c.requires.top, deep)

pub climb-said-requires-clause-top : goal.climb-said-requires-clause-top
climb-said-requires-clause-top g c =
    let C = g.C.Caller in
    let s = C.standing c.args.caller.now in
    let h = c.requires.table in
    let known = h.0 in
    let name = h.1 in
    let heads = h.2 in
    let buckets = h.3 in
    let k = h.4 in
    let may = h.5 in
    let word = c.args.word.now in
    let t = may.is_table in
    let b = c.args.bucket in
    let home = c.requires.bucket in
    let links = buckets (bucket_of word) in
    let small = bucket_small word in
    let size_of = t.size in
    let within : b < length heads = omega (arith, home, small, size_of) in
    let head = get_or heads b datum.Null in
    let chain = subst (λ i. IsChain known (get_or heads i datum.Null) links) (sym home) (t.chains (bucket_of word) small) in
    let e = c.load.ensures.pushed known name heads k (may.slot, t.object) within in
    let front = top_after s.own _ head c.args.top e c.requires.top in
    let first = subst (λ v. IsChain known v links) (sym front) chain in
    let deep = size_after s.own _ head e in
    omega (arith, c.requires.top, deep)

pub pop_all-requires-clause-some : goal.pop_all-requires-clause-some
pop_all-requires-clause-some g c =
    let C = g.C.Caller in
    let s = C.standing c.args.caller.now in
    let h = c.requires.table in
    let known = h.0 in
    let name = h.1 in
    let heads = h.2 in
    let buckets = h.3 in
    let k = h.4 in
    let may = h.5 in
    let word = c.args.word.now in
    let t = may.is_table in
    let b = c.args.bucket in
    let home = c.requires.bucket in
    let links = buckets (bucket_of word) in
    let small = bucket_small word in
    let size_of = t.size in
    let within : b < length heads = omega (arith, home, small, size_of) in
    let head = get_or heads b datum.Null in
    let chain = subst (λ i. IsChain known (get_or heads i datum.Null) links) (sym home) (t.chains (bucket_of word) small) in
    let e = c.load.ensures.pushed known name heads k (may.slot, t.object) within in
    let front = top_after s.own _ head c.args.top e c.requires.top in
    let first = subst (λ v. IsChain known v links) (sym front) chain in
    let deep = size_after s.own _ head e in
    let mid = (C.standing c.load.new.caller).own in
    let up = c.climb-said.ensures.climbed known links (c.load.ensures.keeps known k) first in
    let size = climbed_size mid known word links c.args.top _ _ _ up in
    let kept = c.climb-said.ensures.keeps known (c.load.ensures.keeps known k) in
    (known, kept)

pub pop_all-requires-clause-slots : goal.pop_all-requires-clause-slots
pop_all-requires-clause-slots g c =
    let C = g.C.Caller in
    let s = C.standing c.args.caller.now in
    let h = c.requires.table in
    let known = h.0 in
    let name = h.1 in
    let heads = h.2 in
    let buckets = h.3 in
    let k = h.4 in
    let may = h.5 in
    let word = c.args.word.now in
    let t = may.is_table in
    let b = c.args.bucket in
    let home = c.requires.bucket in
    let links = buckets (bucket_of word) in
    let small = bucket_small word in
    let size_of = t.size in
    let within : b < length heads = omega (arith, home, small, size_of) in
    let head = get_or heads b datum.Null in
    let chain = subst (λ i. IsChain known (get_or heads i datum.Null) links) (sym home) (t.chains (bucket_of word) small) in
    let e = c.load.ensures.pushed known name heads k (may.slot, t.object) within in
    let front = top_after s.own _ head c.args.top e c.requires.top in
    let first = subst (λ v. IsChain known v links) (sym front) chain in
    let deep = size_after s.own _ head e in
    let mid = (C.standing c.load.new.caller).own in
    let up = c.climb-said.ensures.climbed known links (c.load.ensures.keeps known k) first in
    let size = climbed_size mid known word links c.args.top _ _ _ up in
    let kept = c.climb-said.ensures.keeps known (c.load.ensures.keeps known k) in
    omega (arith, size, deep)

pub returns-then-not-is_found-clause-ran : goal.returns-then-not-is_found-clause-ran
returns-then-not-is_found-clause-ran g c =
    let C = g.C.Caller in
    let up = ran_more C.base C.tells C.tells_known C.standing _ _ _ c.load.ensures.ran c.climb-said.ensures.ran in
    ran_more C.base C.tells C.tells_known C.standing _ _ _ up c.pop_all.ensures.ran

pub returns-then-not-is_found-clause-own : goal.returns-then-not-is_found-clause-own
returns-then-not-is_found-clause-own g c =
    let C = g.C.Caller in
    let s = C.standing c.args.caller.now in
    let h = c.requires.table in
    let known = h.0 in
    let name = h.1 in
    let heads = h.2 in
    let buckets = h.3 in
    let k = h.4 in
    let may = h.5 in
    let word = c.args.word.now in
    let t = may.is_table in
    let b = c.args.bucket in
    let home = c.requires.bucket in
    let links = buckets (bucket_of word) in
    let small = bucket_small word in
    let size_of = t.size in
    let within : b < length heads = omega (arith, home, small, size_of) in
    let head = get_or heads b datum.Null in
    let chain = subst (λ i. IsChain known (get_or heads i datum.Null) links) (sym home) (t.chains (bucket_of word) small) in
    let e = c.load.ensures.pushed known name heads k (may.slot, t.object) within in
    let front = top_after s.own _ head c.args.top e c.requires.top in
    let first = subst (λ v. IsChain known v links) (sym front) chain in
    let deep = size_after s.own _ head e in
    let mid = (C.standing c.load.new.caller).own in
    let up = c.climb-said.ensures.climbed known links (c.load.ensures.keeps known k) first in
    let size = climbed_size mid known word links c.args.top _ _ _ up in
    let kept = c.climb-said.ensures.keeps known (c.load.ensures.keeps known k) in
    c.pop_all.ensures.popped ∙ ap (λ o. without_top o (c.climb-said.result.1 + 1)) (up.stack ∙ ap (λ (o : Thread). record o { stack = o.stack ++ up.pushes }) e)
    ∙ drop_pushes s.own head up.pushes c.climb-said.result.1 up.size

pub returns-then-not-is_found-clause-added : goal.returns-then-not-is_found-clause-added
returns-then-not-is_found-clause-added g c known name heads buckets k may =
    let C = g.C.Caller in
    let s = C.standing c.args.caller.now in
    let word = c.args.word.now in
    let t = may.is_table in
    let b = c.args.bucket in
    let home = c.requires.bucket in
    let links = buckets (bucket_of word) in
    let small = bucket_small word in
    let size_of = t.size in
    let within : b < length heads = omega (arith, home, small, size_of) in
    let head = get_or heads b datum.Null in
    let chain = subst (λ i. IsChain known (get_or heads i datum.Null) links) (sym home) (t.chains (bucket_of word) small) in
    let e = c.load.ensures.pushed known name heads k (may.slot, t.object) within in
    let front = top_after s.own _ head c.args.top e c.requires.top in
    let first = subst (λ v. IsChain known v links) (sym front) chain in
    let deep = size_after s.own _ head e in
    let mid = (C.standing c.load.new.caller).own in
    let up = c.climb-said.ensures.climbed known links (c.load.ensures.keeps known k) first in
    let size = climbed_size mid known word links c.args.top _ _ _ up in
    let kept = c.climb-said.ensures.keeps known (c.load.ensures.keeps known k) in
    near_left known word c.args.n name buckets _ (C.knows c.pop_all.new.caller) (λ same. true≢false (sym (c.if-not-is_found.ensures.1 same))) (near_end mid known word links c.args.top _ _ _ up) (c.pop_all.ensures.keeps known kept)

pub returns-then-not-is_found-clause-aside : goal.returns-then-not-is_found-clause-aside
returns-then-not-is_found-clause-aside g c known name heads buckets other k may ko lacks = c.pop_all.ensures.keeps other (c.climb-said.ensures.keeps other (c.load.ensures.keeps other ko))

pub raise-requires-clause-entry : goal.raise-requires-clause-entry
raise-requires-clause-entry g c =
    let C = g.C.Caller in
    let s = C.standing c.args.caller.now in
    let h = c.requires.table in
    let known = h.0 in
    let name = h.1 in
    let heads = h.2 in
    let buckets = h.3 in
    let k = h.4 in
    let may = h.5 in
    let word = c.args.word.now in
    let t = may.is_table in
    let b = c.args.bucket in
    let home = c.requires.bucket in
    let links = buckets (bucket_of word) in
    let small = bucket_small word in
    let size_of = t.size in
    let within : b < length heads = omega (arith, home, small, size_of) in
    let head = get_or heads b datum.Null in
    let chain = subst (λ i. IsChain known (get_or heads i datum.Null) links) (sym home) (t.chains (bucket_of word) small) in
    let e = c.load.ensures.pushed known name heads k (may.slot, t.object) within in
    let front = top_after s.own _ head c.args.top e c.requires.top in
    let first = subst (λ v. IsChain known v links) (sym front) chain in
    let deep = size_after s.own _ head e in
    let mid = (C.standing c.load.new.caller).own in
    let up = c.climb-said.ensures.climbed known links (c.load.ensures.keeps known k) first in
    let size = climbed_size mid known word links c.args.top _ _ _ up in
    let kept = c.climb-said.ensures.keeps known (c.load.ensures.keeps known k) in
    let f = near_found mid known word links c.args.top _ _ _ up (c.if-not-is_found.ensures.0 refl) in
    (known, f.2, f.0, kept, (f.5, f.6), may.sum (f.0).count (subst (λ ls. HasCount word ls (f.0).count) (sym f.3) (has_count_at word up.passed f.1 f.0 up.lacks f.4)))

pub raise-requires-clause-room : goal.raise-requires-clause-room
raise-requires-clause-room g c =
    let C = g.C.Caller in
    let s = C.standing c.args.caller.now in
    let h = c.requires.table in
    let known = h.0 in
    let name = h.1 in
    let heads = h.2 in
    let buckets = h.3 in
    let k = h.4 in
    let may = h.5 in
    let word = c.args.word.now in
    let t = may.is_table in
    let b = c.args.bucket in
    let home = c.requires.bucket in
    let links = buckets (bucket_of word) in
    let small = bucket_small word in
    let size_of = t.size in
    let within : b < length heads = omega (arith, home, small, size_of) in
    let head = get_or heads b datum.Null in
    let chain = subst (λ i. IsChain known (get_or heads i datum.Null) links) (sym home) (t.chains (bucket_of word) small) in
    let e = c.load.ensures.pushed known name heads k (may.slot, t.object) within in
    let front = top_after s.own _ head c.args.top e c.requires.top in
    let first = subst (λ v. IsChain known v links) (sym front) chain in
    let deep = size_after s.own _ head e in
    let mid = (C.standing c.load.new.caller).own in
    let up = c.climb-said.ensures.climbed known links (c.load.ensures.keeps known k) first in
    let size = climbed_size mid known word links c.args.top _ _ _ up in
    let kept = c.climb-said.ensures.keeps known (c.load.ensures.keeps known k) in
    omega (arith, size, deep, c.climb-said.ensures.few, c.requires.room, c.requires.top)

pub raise-requires-clause-top : goal.raise-requires-clause-top
raise-requires-clause-top g c =
    let C = g.C.Caller in
    let s = C.standing c.args.caller.now in
    let h = c.requires.table in
    let known = h.0 in
    let name = h.1 in
    let heads = h.2 in
    let buckets = h.3 in
    let k = h.4 in
    let may = h.5 in
    let word = c.args.word.now in
    let t = may.is_table in
    let b = c.args.bucket in
    let home = c.requires.bucket in
    let links = buckets (bucket_of word) in
    let small = bucket_small word in
    let size_of = t.size in
    let within : b < length heads = omega (arith, home, small, size_of) in
    let head = get_or heads b datum.Null in
    let chain = subst (λ i. IsChain known (get_or heads i datum.Null) links) (sym home) (t.chains (bucket_of word) small) in
    let e = c.load.ensures.pushed known name heads k (may.slot, t.object) within in
    let front = top_after s.own _ head c.args.top e c.requires.top in
    let first = subst (λ v. IsChain known v links) (sym front) chain in
    let deep = size_after s.own _ head e in
    let mid = (C.standing c.load.new.caller).own in
    let up = c.climb-said.ensures.climbed known links (c.load.ensures.keeps known k) first in
    let size = climbed_size mid known word links c.args.top _ _ _ up in
    let kept = c.climb-said.ensures.keeps known (c.load.ensures.keeps known k) in
    omega (arith, size, deep, c.requires.top)

pub pop_all-requires-2-clause-some : goal.pop_all-requires-2-clause-some
pop_all-requires-2-clause-some g c =
    let C = g.C.Caller in
    let s = C.standing c.args.caller.now in
    let h = c.requires.table in
    let known = h.0 in
    let name = h.1 in
    let heads = h.2 in
    let buckets = h.3 in
    let k = h.4 in
    let may = h.5 in
    let word = c.args.word.now in
    let t = may.is_table in
    let b = c.args.bucket in
    let home = c.requires.bucket in
    let links = buckets (bucket_of word) in
    let small = bucket_small word in
    let size_of = t.size in
    let within : b < length heads = omega (arith, home, small, size_of) in
    let head = get_or heads b datum.Null in
    let chain = subst (λ i. IsChain known (get_or heads i datum.Null) links) (sym home) (t.chains (bucket_of word) small) in
    let e = c.load.ensures.pushed known name heads k (may.slot, t.object) within in
    let front = top_after s.own _ head c.args.top e c.requires.top in
    let first = subst (λ v. IsChain known v links) (sym front) chain in
    let deep = size_after s.own _ head e in
    let mid = (C.standing c.load.new.caller).own in
    let up = c.climb-said.ensures.climbed known links (c.load.ensures.keeps known k) first in
    let size = climbed_size mid known word links c.args.top _ _ _ up in
    let kept = c.climb-said.ensures.keeps known (c.load.ensures.keeps known k) in
    let f = near_found mid known word links c.args.top _ _ _ up (c.if-not-is_found.ensures.0 refl) in
    (_, c.raise.ensures.raised known f.2 f.0 kept (f.5, f.6))

pub pop_all-requires-2-clause-slots : goal.pop_all-requires-2-clause-slots
pop_all-requires-2-clause-slots g c =
    let C = g.C.Caller in
    let s = C.standing c.args.caller.now in
    let h = c.requires.table in
    let known = h.0 in
    let name = h.1 in
    let heads = h.2 in
    let buckets = h.3 in
    let k = h.4 in
    let may = h.5 in
    let word = c.args.word.now in
    let t = may.is_table in
    let b = c.args.bucket in
    let home = c.requires.bucket in
    let links = buckets (bucket_of word) in
    let small = bucket_small word in
    let size_of = t.size in
    let within : b < length heads = omega (arith, home, small, size_of) in
    let head = get_or heads b datum.Null in
    let chain = subst (λ i. IsChain known (get_or heads i datum.Null) links) (sym home) (t.chains (bucket_of word) small) in
    let e = c.load.ensures.pushed known name heads k (may.slot, t.object) within in
    let front = top_after s.own _ head c.args.top e c.requires.top in
    let first = subst (λ v. IsChain known v links) (sym front) chain in
    let deep = size_after s.own _ head e in
    let mid = (C.standing c.load.new.caller).own in
    let up = c.climb-said.ensures.climbed known links (c.load.ensures.keeps known k) first in
    let size = climbed_size mid known word links c.args.top _ _ _ up in
    let kept = c.climb-said.ensures.keeps known (c.load.ensures.keeps known k) in
    omega (arith, size, deep, ap (λ (o : Thread). length o.stack) c.raise.ensures.own)

pub returns-clause-ran : goal.returns-clause-ran
returns-clause-ran g c =
    let C = g.C.Caller in
    let up = ran_more C.base C.tells C.tells_known C.standing _ _ _ c.load.ensures.ran c.climb-said.ensures.ran in
    ran_more C.base C.tells C.tells_known C.standing _ _ _ (ran_more C.base C.tells C.tells_known C.standing _ _ _ up c.raise.ensures.ran) c.pop_all-2.ensures.ran

pub returns-clause-own : goal.returns-clause-own
returns-clause-own g c =
    let C = g.C.Caller in
    let s = C.standing c.args.caller.now in
    let h = c.requires.table in
    let known = h.0 in
    let name = h.1 in
    let heads = h.2 in
    let buckets = h.3 in
    let k = h.4 in
    let may = h.5 in
    let word = c.args.word.now in
    let t = may.is_table in
    let b = c.args.bucket in
    let home = c.requires.bucket in
    let links = buckets (bucket_of word) in
    let small = bucket_small word in
    let size_of = t.size in
    let within : b < length heads = omega (arith, home, small, size_of) in
    let head = get_or heads b datum.Null in
    let chain = subst (λ i. IsChain known (get_or heads i datum.Null) links) (sym home) (t.chains (bucket_of word) small) in
    let e = c.load.ensures.pushed known name heads k (may.slot, t.object) within in
    let front = top_after s.own _ head c.args.top e c.requires.top in
    let first = subst (λ v. IsChain known v links) (sym front) chain in
    let deep = size_after s.own _ head e in
    let mid = (C.standing c.load.new.caller).own in
    let up = c.climb-said.ensures.climbed known links (c.load.ensures.keeps known k) first in
    let size = climbed_size mid known word links c.args.top _ _ _ up in
    let kept = c.climb-said.ensures.keeps known (c.load.ensures.keeps known k) in
    c.pop_all-2.ensures.popped ∙ ap (λ o. without_top o (c.climb-said.result.1 + 1)) (c.raise.ensures.own ∙ up.stack ∙ ap (λ (o : Thread). record o { stack = o.stack ++ up.pushes }) e)
    ∙ drop_pushes s.own head up.pushes c.climb-said.result.1 up.size

pub returns-clause-added : goal.returns-clause-added
returns-clause-added g c known name heads buckets k may =
    let C = g.C.Caller in
    let s = C.standing c.args.caller.now in
    let word = c.args.word.now in
    let t = may.is_table in
    let b = c.args.bucket in
    let home = c.requires.bucket in
    let links = buckets (bucket_of word) in
    let small = bucket_small word in
    let size_of = t.size in
    let within : b < length heads = omega (arith, home, small, size_of) in
    let head = get_or heads b datum.Null in
    let chain = subst (λ i. IsChain known (get_or heads i datum.Null) links) (sym home) (t.chains (bucket_of word) small) in
    let e = c.load.ensures.pushed known name heads k (may.slot, t.object) within in
    let front = top_after s.own _ head c.args.top e c.requires.top in
    let first = subst (λ v. IsChain known v links) (sym front) chain in
    let deep = size_after s.own _ head e in
    let mid = (C.standing c.load.new.caller).own in
    let up = c.climb-said.ensures.climbed known links (c.load.ensures.keeps known k) first in
    let size = climbed_size mid known word links c.args.top _ _ _ up in
    let kept = c.climb-said.ensures.keeps known (c.load.ensures.keeps known k) in
    let f = near_found mid known word links c.args.top _ _ _ up (c.if-not-is_found.ensures.0 refl) in
    let lifted = c.raise.ensures.raised known f.2 f.0 kept (f.5, f.6) in (
      raised_table known name heads buckets t word c.args.n small up.passed f.1 f.0 f.3 f.4 f.2 f.6 (C.knows c.pop_all-2.new.caller) (c.pop_all-2.ensures.keeps _ lifted),
      ((f.0).count, subst (λ ls. HasCount word ls (f.0).count) (sym f.3) (has_count_at word up.passed f.1 f.0 up.lacks f.4)),
    )

pub returns-clause-aside : goal.returns-clause-aside
returns-clause-aside g c known name heads buckets other k may ko lacks =
    let C = g.C.Caller in
    let s = C.standing c.args.caller.now in
    let word = c.args.word.now in
    let t = may.is_table in
    let b = c.args.bucket in
    let home = c.requires.bucket in
    let links = buckets (bucket_of word) in
    let small = bucket_small word in
    let size_of = t.size in
    let within : b < length heads = omega (arith, home, small, size_of) in
    let head = get_or heads b datum.Null in
    let chain = subst (λ i. IsChain known (get_or heads i datum.Null) links) (sym home) (t.chains (bucket_of word) small) in
    let e = c.load.ensures.pushed known name heads k (may.slot, t.object) within in
    let front = top_after s.own _ head c.args.top e c.requires.top in
    let first = subst (λ v. IsChain known v links) (sym front) chain in
    let deep = size_after s.own _ head e in
    let mid = (C.standing c.load.new.caller).own in
    let up = c.climb-said.ensures.climbed known links (c.load.ensures.keeps known k) first in
    let size = climbed_size mid known word links c.args.top _ _ _ up in
    let kept = c.climb-said.ensures.keeps known (c.load.ensures.keeps known k) in
    let f = near_found mid known word links c.args.top _ _ _ up (c.if-not-is_found.ensures.0 refl) in
    let still = c.climb-said.ensures.keeps other (c.load.ensures.keeps other ko) in
    let rest = lacks_rest other up.passed (f.0 ∷ f.1) links f.3 (lacks.links (bucket_of word) small) in
    c.pop_all-2.ensures.keeps other (c.raise.ensures.aside other still (lacks_as other (datum.Object (f.0).entry) _ (sym f.5) rest.0))
