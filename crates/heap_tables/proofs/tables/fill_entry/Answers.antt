use Rattle.heap_tables.proofs.RunOn.{ran_more}
use Rattle.std.proofs.Common.{◌∙◌, ap, subst, arith, length, length-set, set}
use Rattle.yak_model.specs.Graph.{Thread}
use Rattle.heap_tables.specs.Runs.{slot_in, with_field}
use Rattle.heap_tables.proofs.Effects.{value_same}
use Rattle.heap_tables.specs.Adds.{with_fields}
use Rattle.heap_tables.proofs.Filled.{stored_at, filled}
use Rattle.heap_tables.proofs.tables.fill_entry.Goals as goal

pub store-requires-clause-field : goal.store-requires-clause-field
store-requires-clause-field g c = let h = c.requires.entry in (h.0, h.1, h.2, h.3, h.4, omega (arith, h.5))

pub store-requires-2-clause-field : goal.store-requires-2-clause-field
store-requires-2-clause-field g c =
    let h = c.requires.entry in
    let a = slot_in (g.C.Caller.standing c.args.caller.now) c.args.next in
    (with_field h.0 h.1 h.2 0 a, h.1, set h.2 0 a, c.store.ensures.stored h.0 h.1 h.2 h.3 h.4 (omega (arith, h.5)), stored_at (g.C.Caller.standing c.args.caller.now).own _ h.0 c.args.entry h.1 h.2 0 a c.store.ensures.own h.4, omega (arith, h.5, length-set h.2 0 a))

pub store-requires-2-clause-value : goal.store-requires-2-clause-value
store-requires-2-clause-value g c = omega (arith, c.requires.key, ap (λ (o : Thread). length o.stack) c.store.ensures.own)

pub put_int-requires-clause-field : goal.put_int-requires-clause-field
put_int-requires-clause-field g c =
    let h = c.requires.entry in
    let a = slot_in (g.C.Caller.standing c.args.caller.now) c.args.next in
    let b = slot_in (g.C.Caller.standing c.store.new.caller) c.args.key in
    let one = stored_at (g.C.Caller.standing c.args.caller.now).own _ h.0 c.args.entry h.1 h.2 0 a c.store.ensures.own h.4 in
    let size = length-set h.2 0 a in
    let first = c.store.ensures.stored h.0 h.1 h.2 h.3 h.4 (omega (arith, h.5)) in (
      with_field (with_field h.0 h.1 h.2 0 a) h.1 (set h.2 0 a) 1 b,
      h.1,
      set (set h.2 0 a) 1 b,
      c.store-2.ensures.stored (with_field h.0 h.1 h.2 0 a) h.1 (set h.2 0 a) first one (omega (arith, h.5, size)),
      stored_at _ _ (with_field h.0 h.1 h.2 0 a) c.args.entry h.1 (set h.2 0 a) 1 b c.store-2.ensures.own one,
      omega (arith, h.5, size, length-set (set h.2 0 a) 1 b),
    )

pub put_int-requires-clause-room : goal.put_int-requires-clause-room
put_int-requires-clause-room g c = omega (arith, c.requires.room, ap (λ (o : Thread). length o.stack) (c.store-2.ensures.own ∙ c.store.ensures.own))

pub put_int-requires-clause-top : goal.put_int-requires-clause-top
put_int-requires-clause-top g c = omega (arith, c.requires.top, ap (λ (o : Thread). length o.stack) (c.store-2.ensures.own ∙ c.store.ensures.own))

pub returns-clause-filled : goal.returns-clause-filled
returns-clause-filled g c known name values k slot three =
    let a = slot_in (g.C.Caller.standing c.args.caller.now) c.args.next in
    let b = slot_in (g.C.Caller.standing c.store.new.caller) c.args.key in
    let one = stored_at (g.C.Caller.standing c.args.caller.now).own _ known c.args.entry name values 0 a c.store.ensures.own slot in
    let two = stored_at _ _ (with_field known name values 0 a) c.args.entry name (set values 0 a) 1 b c.store-2.ensures.own one in
    let size = length-set values 0 a in
    let first = c.store.ensures.stored known name values k slot (omega (arith, three)) in
    let second = c.store-2.ensures.stored (with_field known name values 0 a) name (set values 0 a) first one (omega (arith, three, size)) in
    let third = c.put_int.ensures.stored (with_field (with_field known name values 0 a) name (set values 0 a) 1 b) name (set (set values 0 a) 1 b) second two (omega (arith, three, size, length-set (set values 0 a) 1 b)) in
    subst (λ v. g.C.Caller.knows c.put_int.new.caller (with_fields known name a v c.args.n)) (value_same _ _ c.args.key c.store.ensures.own)
    (filled known name values a b c.args.n (g.C.Caller.knows c.put_int.new.caller) three third)

pub returns-clause-ran : goal.returns-clause-ran
returns-clause-ran g c = let C = g.C.Caller in ran_more C.base C.tells C.tells_known C.standing _ _ _ (ran_more C.base C.tells C.tells_known C.standing _ _ _ c.store.ensures.ran c.store-2.ensures.ran) c.put_int.ensures.ran
