use Rattle.std.proofs.Common.{◌+◌, ◌++◌, ◌∙◌, ap, sym, subst, arith, get_or, length}
use Rattle.yak_model.specs.Graph.{Thread}
use Rattle.yak_model.specs.declared.datum.Datum.TheVariants as datum
use Rattle.yak_model.specs.Tables.{IsChain}
use Rattle.heap_tables.specs.Runs.{without_top}
use Rattle.heap_tables.proofs.Climbs.{climbed_place, climbed_size, climbed_slot}
use Rattle.heap_tables.proofs.Effects.{drop_pushes, size_after, slot_after, top_after}
use Rattle.heap_tables.proofs.RunOn.{ran_more}
use Rattle.heap_tables.proofs.Asides.{gives_none, lacks_as, lacks_head, lacks_rest}
use Rattle.heap_tables.proofs.chains.look_on.Goals as goal

pub load-requires-clause-field : goal.load-requires-clause-field
load-requires-clause-field g c = let h = c.requires.chain in (h.0, h.1, h.2, h.4, h.5.0, h.5.1)

pub climb-said-requires-clause-chain : goal.climb-said-requires-clause-chain
climb-said-requires-clause-chain g c =
    let h = c.requires.chain in
    let own = (g.C.Caller.standing c.args.caller.now).own in
    let e = c.load.ensures.pushed h.0 h.1 h.2 h.4 h.5.0 h.5.1 in
    let front = top_after own _ (get_or h.2 c.args.bucket datum.Null) c.args.top e c.requires.top in
    let chain = subst (λ v. IsChain h.0 v h.3) (sym front) h.5.2 in
    (h.0, h.3, c.load.ensures.keeps h.0 h.4, chain)

pub climb-said-requires-clause-room : goal.climb-said-requires-clause-room
climb-said-requires-clause-room g c =
    let h = c.requires.chain in
    let e = c.load.ensures.pushed h.0 h.1 h.2 h.4 h.5.0 h.5.1 in
    omega (arith, c.requires.room, size_after (g.C.Caller.standing c.args.caller.now).own _ (get_or h.2 c.args.bucket datum.Null) e)

pub climb-said-requires-clause-top : goal.climb-said-requires-clause-top
climb-said-requires-clause-top g c =
    let h = c.requires.chain in
    let e = c.load.ensures.pushed h.0 h.1 h.2 h.4 h.5.0 h.5.1 in
    omega (arith, c.requires.top, size_after (g.C.Caller.standing c.args.caller.now).own _ (get_or h.2 c.args.bucket datum.Null) e)

pub overflow_add-top : goal.overflow_add-top
overflow_add-top g c = omega (arith, c.requires.top, c.requires.room, c.climb-said.ensures.few)

pub overflow_add-n : goal.overflow_add-n
overflow_add-n g c = omega (arith, c.climb-said.ensures.few)

pub store-requires-clause-field : goal.store-requires-clause-field
store-requires-clause-field g c =
    let h = c.requires.chain in
    let own = (g.C.Caller.standing c.args.caller.now).own in
    let e = c.load.ensures.pushed h.0 h.1 h.2 h.4 h.5.0 h.5.1 in
    let front = top_after own _ (get_or h.2 c.args.bucket datum.Null) c.args.top e c.requires.top in
    let chain = subst (λ v. IsChain h.0 v h.3) (sym front) h.5.2 in
    let up = c.climb-said.ensures.climbed h.0 h.3 (c.load.ensures.keeps h.0 h.4) chain in
    let size = climbed_size (g.C.Caller.standing c.load.new.caller).own h.0 c.args.word.now h.3 c.args.top _ _ _ up in
    let deep = size_after own _ (get_or h.2 c.args.bucket datum.Null) e in
    let slot = climbed_slot (g.C.Caller.standing c.load.new.caller).own h.0 c.args.word.now h.3 c.args.top _ _ _ up c.args.table h.1 h.2 (slot_after own _ (get_or h.2 c.args.bucket datum.Null) h.0 c.args.table h.1 h.2 e h.5.0) in
    (h.0, h.1, h.2, c.climb-said.ensures.keeps h.0 (c.load.ensures.keeps h.0 h.4), slot, h.5.1)

pub store-requires-clause-value : goal.store-requires-clause-value
store-requires-clause-value g c =
    let h = c.requires.chain in
    let own = (g.C.Caller.standing c.args.caller.now).own in
    let e = c.load.ensures.pushed h.0 h.1 h.2 h.4 h.5.0 h.5.1 in
    let front = top_after own _ (get_or h.2 c.args.bucket datum.Null) c.args.top e c.requires.top in
    let chain = subst (λ v. IsChain h.0 v h.3) (sym front) h.5.2 in
    let up = c.climb-said.ensures.climbed h.0 h.3 (c.load.ensures.keeps h.0 h.4) chain in
    let size = climbed_size (g.C.Caller.standing c.load.new.caller).own h.0 c.args.word.now h.3 c.args.top _ _ _ up in
    let deep = size_after own _ (get_or h.2 c.args.bucket datum.Null) e in
    omega (arith, size, deep, c.requires.top)

pub pop_all-requires-clause-some : goal.pop_all-requires-clause-some
pop_all-requires-clause-some g c =
    let h = c.requires.chain in
    let own = (g.C.Caller.standing c.args.caller.now).own in
    let e = c.load.ensures.pushed h.0 h.1 h.2 h.4 h.5.0 h.5.1 in
    let front = top_after own _ (get_or h.2 c.args.bucket datum.Null) c.args.top e c.requires.top in
    let chain = subst (λ v. IsChain h.0 v h.3) (sym front) h.5.2 in
    let up = c.climb-said.ensures.climbed h.0 h.3 (c.load.ensures.keeps h.0 h.4) chain in
    let size = climbed_size (g.C.Caller.standing c.load.new.caller).own h.0 c.args.word.now h.3 c.args.top _ _ _ up in
    let deep = size_after own _ (get_or h.2 c.args.bucket datum.Null) e in
    let slot = climbed_slot (g.C.Caller.standing c.load.new.caller).own h.0 c.args.word.now h.3 c.args.top _ _ _ up c.args.table h.1 h.2 (slot_after own _ (get_or h.2 c.args.bucket datum.Null) h.0 c.args.table h.1 h.2 e h.5.0) in
    (_, c.store.ensures.stored h.0 h.1 h.2 (c.climb-said.ensures.keeps h.0 (c.load.ensures.keeps h.0 h.4)) slot h.5.1)

pub pop_all-requires-clause-slots : goal.pop_all-requires-clause-slots
pop_all-requires-clause-slots g c =
    let h = c.requires.chain in
    let own = (g.C.Caller.standing c.args.caller.now).own in
    let e = c.load.ensures.pushed h.0 h.1 h.2 h.4 h.5.0 h.5.1 in
    let front = top_after own _ (get_or h.2 c.args.bucket datum.Null) c.args.top e c.requires.top in
    let chain = subst (λ v. IsChain h.0 v h.3) (sym front) h.5.2 in
    let up = c.climb-said.ensures.climbed h.0 h.3 (c.load.ensures.keeps h.0 h.4) chain in
    let size = climbed_size (g.C.Caller.standing c.load.new.caller).own h.0 c.args.word.now h.3 c.args.top _ _ _ up in
    let deep = size_after own _ (get_or h.2 c.args.bucket datum.Null) e in
    omega (arith, size, deep, ap (λ (o : Thread). length o.stack) c.store.ensures.own)

pub returns-clause-ran : goal.returns-clause-ran
returns-clause-ran g c =
    let C = g.C.Caller in
    let up = ran_more C.base C.tells C.tells_known C.standing _ _ _ c.load.ensures.ran c.climb-said.ensures.ran in
    ran_more C.base C.tells C.tells_known C.standing _ _ _ (ran_more C.base C.tells C.tells_known C.standing _ _ _ up c.store.ensures.ran) c.pop_all.ensures.ran

pub returns-clause-own : goal.returns-clause-own
returns-clause-own g c =
    let h = c.requires.chain in
    let own = (g.C.Caller.standing c.args.caller.now).own in
    let e = c.load.ensures.pushed h.0 h.1 h.2 h.4 h.5.0 h.5.1 in
    let front = top_after own _ (get_or h.2 c.args.bucket datum.Null) c.args.top e c.requires.top in
    let chain = subst (λ v. IsChain h.0 v h.3) (sym front) h.5.2 in
    let up = c.climb-said.ensures.climbed h.0 h.3 (c.load.ensures.keeps h.0 h.4) chain in
    let size = climbed_size (g.C.Caller.standing c.load.new.caller).own h.0 c.args.word.now h.3 c.args.top _ _ _ up in
    let deep = size_after own _ (get_or h.2 c.args.bucket datum.Null) e in
    c.pop_all.ensures.popped
    ∙ ap (λ o. without_top o (c.climb-said.result.1 + 1)) (c.store.ensures.own ∙ up.stack ∙ ap (λ (o : Thread). record o { stack = o.stack ++ up.pushes }) e)
    ∙ drop_pushes own (get_or h.2 c.args.bucket datum.Null) up.pushes c.climb-said.result.1 up.size

pub returns-clause-passed : goal.returns-clause-passed
returns-clause-passed g c known name values links k at apart =
    let own = (g.C.Caller.standing c.args.caller.now).own in
    let e = c.load.ensures.pushed known name values k at.0 at.1 in
    let front = top_after own _ (get_or values c.args.bucket datum.Null) c.args.top e c.requires.top in
    let chain = subst (λ v. IsChain known v links) (sym front) at.2 in
    let up = c.climb-said.ensures.climbed known links (c.load.ensures.keeps known k) chain in
    let slot = climbed_slot (g.C.Caller.standing c.load.new.caller).own known c.args.word.now links c.args.top _ _ _ up c.args.table name values (slot_after own _ (get_or values c.args.bucket datum.Null) known c.args.table name values e at.0) in
    let stored = c.store.ensures.stored known name values (c.climb-said.ensures.keeps known (c.load.ensures.keeps known k)) slot at.1 in
    climbed_place (g.C.Caller.standing c.load.new.caller).own known c.args.word.now links c.args.top c.climb-said.result.0 c.climb-said.result.1 _ up name values c.args.bucket apart (λ further. omega (arith, c.climb-said.ensures.all further, c.requires.room, c.requires.top))
    (g.C.Caller.knows c.pop_all.new.caller) (c.pop_all.ensures.keeps _ stored)

pub returns-clause-aside : goal.returns-clause-aside
returns-clause-aside g c known name values links other k at apart ko lacks =
    let own = (g.C.Caller.standing c.args.caller.now).own in
    let e = c.load.ensures.pushed known name values k at.0 at.1 in
    let front = top_after own _ (get_or values c.args.bucket datum.Null) c.args.top e c.requires.top in
    let chain = subst (λ v. IsChain known v links) (sym front) at.2 in
    let up = c.climb-said.ensures.climbed known links (c.load.ensures.keeps known k) chain in
    let slot = climbed_slot (g.C.Caller.standing c.load.new.caller).own known c.args.word.now links c.args.top _ _ _ up c.args.table name values (slot_after own _ (get_or values c.args.bucket datum.Null) known c.args.table name values e at.0) in
    let still = c.climb-said.ensures.keeps other (c.load.ensures.keeps other ko) in
    let place = lacks_head other known _ up.rest up.chain (lacks_rest other up.passed up.rest links up.parts lacks.1) in
    c.pop_all.ensures.keeps other (c.store.ensures.aside other other still (lacks_as other (datum.Object name) _ (sym slot.0) lacks.0) (gives_none other _ place))
