use Rattle.std.proofs.Common.{◌∙◌, ap, arith, get_or, set, drop, sym}
use Rattle.yak_model.specs.declared.datum.Datum.TheVariants as datum
use Rattle.heap_tables.specs.Runs.{pushed}
use Rattle.heap_tables.specs.Seeks.{first_of}
use Rattle.heap_tables.specs.Walks.{IsAtChain}
use Rattle.heap_tables.proofs.Effects.{size_after, slot_after}
use Rattle.heap_tables.proofs.Places.{put_back}
use Rattle.heap_tables.proofs.RunOn.{ran_more}
use Rattle.heap_tables.proofs.Sought.{sought}
use Rattle.heap_tables.proofs.Asides.{gives_none, lacks_as, lacks_head}
use Rattle.heap_tables.proofs.seek.seek.Goals as goal

pub load-requires-clause-field : goal.load-requires-clause-field
load-requires-clause-field g c = let h = c.requires.chain in (h.0, h.1, h.2, h.4, h.5.0, h.5.1)

pub skip-requires-clause-chain : goal.skip-requires-clause-chain
skip-requires-clause-chain g c =
    let h = c.requires.chain in
    let e = c.load.ensures.pushed h.0 h.1 h.2 h.4 h.5.0 h.5.1 in
    (h.0, h.1, h.2, h.3, c.load.ensures.keeps h.0 h.4, (slot_after (g.C.Caller.standing c.args.caller.now).own _ (get_or h.2 c.args.bucket datum.Null) h.0 c.args.table h.1 h.2 e h.5.0, h.5.1, h.5.2), h.6, h.7)

pub skip-requires-clause-room : goal.skip-requires-clause-room
skip-requires-clause-room g c =
    let h = c.requires.chain in
    let e = c.load.ensures.pushed h.0 h.1 h.2 h.4 h.5.0 h.5.1 in
    omega (arith, c.requires.room, size_after (g.C.Caller.standing c.args.caller.now).own _ (get_or h.2 c.args.bucket datum.Null) e)

pub skip-requires-clause-top : goal.skip-requires-clause-top
skip-requires-clause-top g c =
    let h = c.requires.chain in
    let e = c.load.ensures.pushed h.0 h.1 h.2 h.4 h.5.0 h.5.1 in
    omega (arith, c.requires.top, size_after (g.C.Caller.standing c.args.caller.now).own _ (get_or h.2 c.args.bucket datum.Null) e)

pub load-requires-2-clause-field : goal.load-requires-2-clause-field
load-requires-2-clause-field g c =
    let C = g.C.Caller in
    let s = C.standing c.args.caller.now in
    let h = c.requires.chain in
    let e = c.load.ensures.pushed h.0 h.1 h.2 h.4 h.5.0 h.5.1 in
    let at : IsAtChain (C.standing c.load.new.caller) h.0 c.args.table c.args.bucket h.1 h.2 h.3 = (slot_after s.own _ (get_or h.2 c.args.bucket datum.Null) h.0 c.args.table h.1 h.2 e h.5.0, h.5.1, h.5.2) in
    let p = c.skip.ensures.skipped h.0 h.1 h.2 h.3 (c.load.ensures.keeps h.0 h.4) at h.6 in
    let t = sought s h.0 c.args.table h.1 h.2 c.args.bucket h.3 h.5 c.args.top c.requires.top (drop c.args.place h.3) (C.knows c.skip.new.caller) p (C.standing c.skip.new.caller).own (C.standing c.skip.new.caller).own (c.skip.ensures.own ∙ e) in
    (_, h.1, set h.2 c.args.bucket t.place, t.known_now, (t.slot_mid, t.object), t.within)

pub load-requires-2-clause-room : goal.load-requires-2-clause-room
load-requires-2-clause-room g c =
    let h = c.requires.chain in
    let e = c.load.ensures.pushed h.0 h.1 h.2 h.4 h.5.0 h.5.1 in
    omega (arith, c.requires.room, size_after (g.C.Caller.standing c.args.caller.now).own _ (get_or h.2 c.args.bucket datum.Null) (c.skip.ensures.own ∙ e))

pub store-requires-clause-field : goal.store-requires-clause-field
store-requires-clause-field g c =
    let C = g.C.Caller in
    let s = C.standing c.args.caller.now in
    let h = c.requires.chain in
    let e = c.load.ensures.pushed h.0 h.1 h.2 h.4 h.5.0 h.5.1 in
    let at : IsAtChain (C.standing c.load.new.caller) h.0 c.args.table c.args.bucket h.1 h.2 h.3 = (slot_after s.own _ (get_or h.2 c.args.bucket datum.Null) h.0 c.args.table h.1 h.2 e h.5.0, h.5.1, h.5.2) in
    let p = c.skip.ensures.skipped h.0 h.1 h.2 h.3 (c.load.ensures.keeps h.0 h.4) at h.6 in
    let t = sought s h.0 c.args.table h.1 h.2 c.args.bucket h.3 h.5 c.args.top c.requires.top (drop c.args.place h.3) (C.knows c.skip.new.caller) p (C.standing c.skip.new.caller).own (C.standing c.load-2.new.caller).own (c.skip.ensures.own ∙ e) in
    let up = c.load-2.ensures.pushed _ h.1 (set h.2 c.args.bucket t.place) t.known_now (t.slot_mid, t.object) t.within ∙ ap (pushed (C.standing c.skip.new.caller).own) t.value in
    (_, h.1, set h.2 c.args.bucket t.place, c.load-2.ensures.keeps _ t.known_now, (t.slot_own up, t.object), t.within)

pub store-requires-clause-value : goal.store-requires-clause-value
store-requires-clause-value g c =
    let C = g.C.Caller in
    let s = C.standing c.args.caller.now in
    let h = c.requires.chain in
    let e = c.load.ensures.pushed h.0 h.1 h.2 h.4 h.5.0 h.5.1 in
    let at : IsAtChain (C.standing c.load.new.caller) h.0 c.args.table c.args.bucket h.1 h.2 h.3 = (slot_after s.own _ (get_or h.2 c.args.bucket datum.Null) h.0 c.args.table h.1 h.2 e h.5.0, h.5.1, h.5.2) in
    let p = c.skip.ensures.skipped h.0 h.1 h.2 h.3 (c.load.ensures.keeps h.0 h.4) at h.6 in
    let t = sought s h.0 c.args.table h.1 h.2 c.args.bucket h.3 h.5 c.args.top c.requires.top (drop c.args.place h.3) (C.knows c.skip.new.caller) p (C.standing c.skip.new.caller).own (C.standing c.load-2.new.caller).own (c.skip.ensures.own ∙ e) in
    let up = c.load-2.ensures.pushed _ h.1 (set h.2 c.args.bucket t.place) t.known_now (t.slot_mid, t.object) t.within ∙ ap (pushed (C.standing c.skip.new.caller).own) t.value in
    omega (arith, c.requires.top, size_after s.own _ (get_or h.2 c.args.bucket datum.Null) (c.skip.ensures.own ∙ e), size_after (C.standing c.skip.new.caller).own _ (first_of (drop c.args.place h.3)) up)

pub returns-clause-ran : goal.returns-clause-ran
returns-clause-ran g c = let C = g.C.Caller in ran_more C.base C.tells C.tells_known C.standing _ _ _ (ran_more C.base C.tells C.tells_known C.standing _ _ _ (ran_more C.base C.tells C.tells_known C.standing _ _ _ c.load.ensures.ran c.skip.ensures.ran) c.load-2.ensures.ran) c.store.ensures.ran

pub returns-clause-sought : goal.returns-clause-sought
returns-clause-sought g c known name values links k here apart =
    let C = g.C.Caller in
    let s = C.standing c.args.caller.now in
    let front = get_or values c.args.bucket datum.Null in
    let e = c.load.ensures.pushed known name values k here.0 here.1 in
    let at : IsAtChain (C.standing c.load.new.caller) known c.args.table c.args.bucket name values links = (slot_after s.own _ front known c.args.table name values e here.0, here.1, here.2) in
    let p = c.skip.ensures.skipped known name values links (c.load.ensures.keeps known k) at apart in
    let rest = drop c.args.place links in
    let t = sought s known c.args.table name values c.args.bucket links here c.args.top c.requires.top rest (C.knows c.skip.new.caller) p (C.standing c.skip.new.caller).own (C.standing c.load-2.new.caller).own (c.skip.ensures.own ∙ e) in
    let up = c.load-2.ensures.pushed _ name (set values c.args.bucket t.place) t.known_now (t.slot_mid, t.object) t.within ∙ ap (pushed (C.standing c.skip.new.caller).own) t.value in
    let stored = c.store.ensures.stored _ name (set values c.args.bucket t.place) (c.load-2.ensures.keeps _ t.known_now) (t.slot_own up, t.object) t.within in (
      c.store.ensures.own ∙ up ∙ ap (λ o. pushed o (first_of rest)) (c.skip.ensures.own ∙ e),
      put_back known name values c.args.bucket t.place _ (C.knows c.store.new.caller) (t.front_own up) here.0.1 stored,
    )

pub returns-clause-aside : goal.returns-clause-aside
returns-clause-aside g c known name values links other k here apart ko lacks =
    let C = g.C.Caller in
    let s = C.standing c.args.caller.now in
    let front = get_or values c.args.bucket datum.Null in
    let e = c.load.ensures.pushed known name values k here.0 here.1 in
    let at : IsAtChain (C.standing c.load.new.caller) known c.args.table c.args.bucket name values links = (slot_after s.own _ front known c.args.table name values e here.0, here.1, here.2) in
    let p = c.skip.ensures.skipped known name values links (c.load.ensures.keeps known k) at apart in
    let rest = drop c.args.place links in
    let t = sought s known c.args.table name values c.args.bucket links here c.args.top c.requires.top rest (C.knows c.skip.new.caller) p (C.standing c.skip.new.caller).own (C.standing c.load-2.new.caller).own (c.skip.ensures.own ∙ e) in
    let up = c.load-2.ensures.pushed _ name (set values c.args.bucket t.place) t.known_now (t.slot_mid, t.object) t.within ∙ ap (pushed (C.standing c.skip.new.caller).own) t.value in
    let still = c.load-2.ensures.keeps other (c.skip.ensures.aside known name values links other (c.load.ensures.keeps known k) at apart (c.load.ensures.keeps other ko) lacks) in
    c.store.ensures.aside other other still (lacks_as other (datum.Object name) _ (sym (t.slot_own up)) lacks.0) (gives_none other _ (lacks_as other front _ (sym (t.front_own up)) (lacks_head other known front links here.2 lacks.1)))
