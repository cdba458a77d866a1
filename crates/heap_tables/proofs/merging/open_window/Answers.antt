use Rattle.std.proofs.Common.{◌∙◌, ap, arith, get_or}
use Rattle.yak_model.specs.declared.datum.Datum.TheVariants as datum
use Rattle.heap_tables.specs.Runs.{pushed}
use Rattle.heap_tables.specs.Seeks.{first_of}
use Rattle.heap_tables.proofs.Effects.{size_after, slot_after}
use Rattle.heap_tables.proofs.RunOn.{ran_more}
use Rattle.heap_tables.proofs.Sought.{chain_front}
use Rattle.heap_tables.proofs.Laid.{drop_start}
use Rattle.heap_tables.proofs.merging.open_window.Goals as goal

pub load-requires-clause-field : goal.load-requires-clause-field
load-requires-clause-field g c =
    let C = g.C.Caller in
    let s = C.standing c.args.caller.now in
    let h = c.requires.chain in
    let known = h.0 in
    let name = h.1 in
    let values = h.2 in
    let k = h.4 in
    let at = h.5 in
    (known, name, values, k, at.0, at.1)

pub load-requires-2-clause-field : goal.load-requires-2-clause-field
load-requires-2-clause-field g c =
    let C = g.C.Caller in
    let s = C.standing c.args.caller.now in
    let h = c.requires.chain in
    let known = h.0 in
    let name = h.1 in
    let values = h.2 in
    let k = h.4 in
    let at = h.5 in
    let front = get_or values c.args.bucket datum.Null in
    let e = c.load.ensures.pushed known name values k at.0 at.1 in
    let slot = slot_after s.own _ front known c.args.table name values e at.0 in
    let kept = c.load.ensures.keeps known k in
    (known, name, values, kept, slot, at.1)

pub load-requires-2-clause-room : goal.load-requires-2-clause-room
load-requires-2-clause-room g c =
    let C = g.C.Caller in
    let s = C.standing c.args.caller.now in
    let h = c.requires.chain in
    let known = h.0 in
    let name = h.1 in
    let values = h.2 in
    let k = h.4 in
    let at = h.5 in
    let front = get_or values c.args.bucket datum.Null in
    let e = c.load.ensures.pushed known name values k at.0 at.1 in
    let slot = slot_after s.own _ front known c.args.table name values e at.0 in
    let kept = c.load.ensures.keeps known k in
    omega (arith, c.requires.room, size_after s.own _ front e)

pub returns-clause-ran : goal.returns-clause-ran
returns-clause-ran g c = let C = g.C.Caller in ran_more C.base C.tells C.tells_known C.standing _ _ _ c.load.ensures.ran c.load-2.ensures.ran

pub returns-clause-opened : goal.returns-clause-opened
returns-clause-opened g c known name values links k at apart =
    let C = g.C.Caller in
    let s = C.standing c.args.caller.now in
    let front = get_or values c.args.bucket datum.Null in
    let e = c.load.ensures.pushed known name values k at.0 at.1 in
    let slot = slot_after s.own _ front known c.args.table name values e at.0 in
    let kept = c.load.ensures.keeps known k in
    let on = c.load-2.ensures.pushed known name values kept slot at.1 in
    (on ∙ ap (λ o. pushed o front) e ∙ ap (pushed (pushed s.own front)) (chain_front known front links at.2 ∙ ap first_of (drop_start c.args.place links (omega arith))), c.load-2.ensures.keeps known kept)
