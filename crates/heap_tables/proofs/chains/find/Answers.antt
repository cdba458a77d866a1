use Rattle.heap_tables.proofs.RunOn.{ran_more}
use Rattle.std.proofs.Common.{◌<◌, sym, subst, arith, get_or, set, length-set}
use Rattle.yak_model.specs.declared.datum.Datum.TheVariants as datum
use Rattle.heap_tables.proofs.Effects.{slot_after, top_after, size_after}
use Rattle.heap_tables.specs.Walks.{Walked}
use Rattle.heap_tables.proofs.Places.{left_place, put_back, found_after}
use Rattle.heap_tables.proofs.Asides.{gives_none, lacks_as, lacks_head}
use Rattle.heap_tables.proofs.chains.find.Goals as goal

pub load-requires-clause-field : goal.load-requires-clause-field
load-requires-clause-field g c = let h = c.requires.chain in (h.0, h.1, h.2, h.4, h.5.0, h.5.1)

pub walk-found-requires-clause-chain : goal.walk-found-requires-clause-chain
walk-found-requires-clause-chain g c =
    let h = c.requires.chain in
    let e = c.load.ensures.pushed h.0 h.1 h.2 h.4 h.5.0 h.5.1 in
    (h.0, h.1, h.2, h.3, c.load.ensures.keeps h.0 h.4, (slot_after (g.C.Caller.standing c.args.caller.now).own _ (get_or h.2 c.args.bucket datum.Null) h.0 c.args.table h.1 h.2 e h.5.0, h.5.1, h.5.2), h.6, h.7)

pub walk-found-requires-clause-room : goal.walk-found-requires-clause-room
walk-found-requires-clause-room g c =
    let h = c.requires.chain in
    let e = c.load.ensures.pushed h.0 h.1 h.2 h.4 h.5.0 h.5.1 in
    omega (arith, c.requires.room, size_after (g.C.Caller.standing c.args.caller.now).own _ (get_or h.2 c.args.bucket datum.Null) e)

pub walk-found-requires-clause-top : goal.walk-found-requires-clause-top
walk-found-requires-clause-top g c =
    let h = c.requires.chain in
    let e = c.load.ensures.pushed h.0 h.1 h.2 h.4 h.5.0 h.5.1 in
    omega (arith, c.requires.top, size_after (g.C.Caller.standing c.args.caller.now).own _ (get_or h.2 c.args.bucket datum.Null) e)

pub store-requires-clause-field : goal.store-requires-clause-field
store-requires-clause-field g c =
    let C = g.C.Caller in
    let h = c.requires.chain in
    let e = c.load.ensures.pushed h.0 h.1 h.2 h.4 h.5.0 h.5.1 in
    let slot = slot_after (g.C.Caller.standing c.args.caller.now).own _ (get_or h.2 c.args.bucket datum.Null) h.0 c.args.table h.1 h.2 e h.5.0 in
    let size = size_after (g.C.Caller.standing c.args.caller.now).own _ (get_or h.2 c.args.bucket datum.Null) e in
    let left = left_place (C.standing c.load.new.caller) h.0 h.1 h.2 c.args.bucket c.args.word.now h.3 _ _ (C.knows c.walk-found.new.caller) c.args.table c.args.top (get_or h.2 c.args.bucket datum.Null)
    (c.walk-found.ensures.walked h.0 h.1 h.2 h.3 (c.load.ensures.keeps h.0 h.4) (slot, h.5.1, h.5.2) h.6 h.7) slot
    (top_after (g.C.Caller.standing c.args.caller.now).own _ (get_or h.2 c.args.bucket datum.Null) c.args.top e c.requires.top) (omega (arith, c.requires.top, size)) in
    (_, h.1, set h.2 c.args.bucket left.place, left.known_now, (left.slot, left.object), subst (λ n. c.args.bucket < n) (sym (length-set h.2 c.args.bucket left.place)) h.5.1)

pub store-requires-clause-value : goal.store-requires-clause-value
store-requires-clause-value g c =
    let C = g.C.Caller in
    let h = c.requires.chain in
    let e = c.load.ensures.pushed h.0 h.1 h.2 h.4 h.5.0 h.5.1 in
    let slot = slot_after (g.C.Caller.standing c.args.caller.now).own _ (get_or h.2 c.args.bucket datum.Null) h.0 c.args.table h.1 h.2 e h.5.0 in
    let size = size_after (g.C.Caller.standing c.args.caller.now).own _ (get_or h.2 c.args.bucket datum.Null) e in
    (left_place (C.standing c.load.new.caller) h.0 h.1 h.2 c.args.bucket c.args.word.now h.3 _ _ (C.knows c.walk-found.new.caller) c.args.table c.args.top (get_or h.2 c.args.bucket datum.Null)
    (c.walk-found.ensures.walked h.0 h.1 h.2 h.3 (c.load.ensures.keeps h.0 h.4) (slot, h.5.1, h.5.2) h.6 h.7) slot
    (top_after (g.C.Caller.standing c.args.caller.now).own _ (get_or h.2 c.args.bucket datum.Null) c.args.top e c.requires.top) (omega (arith, c.requires.top, size))).below

pub returns-clause-found : goal.returns-clause-found
returns-clause-found g c known name values links k at apart bound =
    let C = g.C.Caller in
    let e = c.load.ensures.pushed known name values k at.0 at.1 in
    let slot = slot_after (g.C.Caller.standing c.args.caller.now).own _ (get_or values c.args.bucket datum.Null) known c.args.table name values e at.0 in
    found_after (C.standing c.load.new.caller) (g.C.Caller.standing c.args.caller.now).own (get_or values c.args.bucket datum.Null) known name values c.args.bucket c.args.word.now links _ _ (C.knows c.walk-found.new.caller)
    (subst (λ o. Walked (C.standing c.load.new.caller) known name values c.args.bucket c.args.word.now links c.walk-found.result o (C.knows c.walk-found.new.caller)) (sym c.store.ensures.own)
    (c.walk-found.ensures.walked known name values links (c.load.ensures.keeps known k) (slot, at.1, at.2) apart bound)) e

pub returns-clause-known : goal.returns-clause-known
returns-clause-known g c known name values links k at apart bound =
    let C = g.C.Caller in
    let e = c.load.ensures.pushed known name values k at.0 at.1 in
    let slot = slot_after (g.C.Caller.standing c.args.caller.now).own _ (get_or values c.args.bucket datum.Null) known c.args.table name values e at.0 in
    let size = size_after (g.C.Caller.standing c.args.caller.now).own _ (get_or values c.args.bucket datum.Null) e in
    let left = left_place (C.standing c.load.new.caller) known name values c.args.bucket c.args.word.now links _ _ (C.knows c.walk-found.new.caller) c.args.table c.args.top (get_or values c.args.bucket datum.Null)
    (c.walk-found.ensures.walked known name values links (c.load.ensures.keeps known k) (slot, at.1, at.2) apart bound) slot
    (top_after (g.C.Caller.standing c.args.caller.now).own _ (get_or values c.args.bucket datum.Null) c.args.top e c.requires.top) (omega (arith, c.requires.top, size)) in
    put_back known name values c.args.bucket left.place _ (C.knows c.store.new.caller) left.front_there at.0.1
    (c.store.ensures.stored _ name (set values c.args.bucket left.place) left.known_now (left.slot, left.object) (subst (λ n. c.args.bucket < n) (sym (length-set values c.args.bucket left.place)) at.1))

pub returns-clause-ran : goal.returns-clause-ran
returns-clause-ran g c = let C = g.C.Caller in ran_more C.base C.tells C.tells_known C.standing _ _ _ (ran_more C.base C.tells C.tells_known C.standing _ _ _ c.load.ensures.ran c.walk-found.ensures.ran) c.store.ensures.ran

pub returns-clause-aside : goal.returns-clause-aside
returns-clause-aside g c known name values links other k at apart bound ko lacks =
    let C = g.C.Caller in
    let e = c.load.ensures.pushed known name values k at.0 at.1 in
    let slot = slot_after (g.C.Caller.standing c.args.caller.now).own _ (get_or values c.args.bucket datum.Null) known c.args.table name values e at.0 in
    let size = size_after (g.C.Caller.standing c.args.caller.now).own _ (get_or values c.args.bucket datum.Null) e in
    let left = left_place (C.standing c.load.new.caller) known name values c.args.bucket c.args.word.now links _ _ (C.knows c.walk-found.new.caller) c.args.table c.args.top (get_or values c.args.bucket datum.Null)
    (c.walk-found.ensures.walked known name values links (c.load.ensures.keeps known k) (slot, at.1, at.2) apart bound) slot
    (top_after (g.C.Caller.standing c.args.caller.now).own _ (get_or values c.args.bucket datum.Null) c.args.top e c.requires.top) (omega (arith, c.requires.top, size)) in
    let still = c.walk-found.ensures.aside known name values links other (c.load.ensures.keeps known k) (slot, at.1, at.2) apart (c.load.ensures.keeps other ko) lacks in
    c.store.ensures.aside other other still (lacks_as other (datum.Object name) _ (sym left.slot) lacks.0) (gives_none other _ (lacks_as other _ _ (sym left.front_there) (lacks_head other known _ links at.2 lacks.1)))
