use Rattle.std.proofs.Common.{◌<◌, ◌^◌, ◌∙◌, ap, sym, subst, arith, drop, get_or, set, length, length-set}
use Rattle.yak_model.specs.Graph.{Thread}
use Rattle.yak_model.specs.declared.datum.Datum.TheVariants as datum
use Rattle.heap_tables.specs.Layouts.{FoundBeyond}
use Rattle.heap_tables.specs.Walks.{with_place}
use Rattle.heap_tables.proofs.Asides.{gives_none, lacks_as, lacks_drop}
use Rattle.heap_tables.proofs.Effects.{value_same}
use Rattle.heap_tables.proofs.Laid.{beyond_found, put_front, skipped_at}
use Rattle.heap_tables.proofs.LaidTables.{drop_length, found_past}
use Rattle.heap_tables.proofs.Places.{left_place}
use Rattle.heap_tables.proofs.RunOn.{ran_more}
use Rattle.heap_tables.proofs.Sought.{apart_drop}
use Rattle.heap_tables.proofs.layouts.find_beyond.Goals as goal

pub walk-found-requires-clause-chain : goal.walk-found-requires-clause-chain
walk-found-requires-clause-chain g c =
    let C = g.C.Caller in
    let s = C.standing c.args.caller.now in
    let h = c.requires.chain in
    let y = h.5 in
    let b = c.args.bucket in
    let n = c.args.further in
    let front = get_or h.2 b datum.Null in
    let own = c.set_out.ensures.own in
    let out = c.set_out.ensures.set_out h.0 h.1 h.2 h.3 h.4 y in
    let place = out.place in
    let at = skipped_at s h.0 c.args.table b c.args.at c.args.start h.1 h.2 h.3 y place (drop n h.3) out.chain (C.standing c.set_out.new.caller) own in
    let apart = apart_drop h.1 n h.3 y.apart in
    let short = drop_length n h.3 in
    let few : length (drop n h.3) < 2 ^ 63 = omega (arith, short, y.few) in
    (with_place h.0 h.1 h.2 b place, h.1, set h.2 b place, drop n h.3, out.known_now, at, apart, few)

pub store-requires-clause-field : goal.store-requires-clause-field
store-requires-clause-field g c =
    let C = g.C.Caller in
    let s = C.standing c.args.caller.now in
    let h = c.requires.chain in
    let y = h.5 in
    let b = c.args.bucket in
    let n = c.args.further in
    let front = get_or h.2 b datum.Null in
    let own = c.set_out.ensures.own in
    let out = c.set_out.ensures.set_out h.0 h.1 h.2 h.3 h.4 y in
    let place = out.place in
    let at = skipped_at s h.0 c.args.table b c.args.at c.args.start h.1 h.2 h.3 y place (drop n h.3) out.chain (C.standing c.set_out.new.caller) own in
    let apart = apart_drop h.1 n h.3 y.apart in
    let short = drop_length n h.3 in
    let few : length (drop n h.3) < 2 ^ 63 = omega (arith, short, y.few) in
    let walked = c.walk-found.ensures.walked _ h.1 (set h.2 b place) (drop n h.3) out.known_now at apart few in
    let left = left_place (C.standing c.set_out.new.caller) (with_place h.0 h.1 h.2 b place) h.1 (set h.2 b place) b c.args.word.now (drop n h.3) _ _ (C.knows c.walk-found.new.caller) c.args.table c.args.at front walked at.0
    (value_same s.own _ c.args.at own ∙ y.front) (omega (arith, c.requires.top, c.requires.order, ap (λ (o : Thread). length o.stack) own)) in
    (_, h.1, set (set h.2 b place) b left.place, left.known_now, (left.slot, left.object), subst (λ n. b < n) (sym (length-set (set h.2 b place) b left.place ∙ length-set h.2 b place)) y.within)

pub store-requires-clause-value : goal.store-requires-clause-value
store-requires-clause-value g c =
    let C = g.C.Caller in
    let s = C.standing c.args.caller.now in
    let h = c.requires.chain in
    let y = h.5 in
    let b = c.args.bucket in
    let n = c.args.further in
    let front = get_or h.2 b datum.Null in
    let own = c.set_out.ensures.own in
    let out = c.set_out.ensures.set_out h.0 h.1 h.2 h.3 h.4 y in
    let place = out.place in
    let at = skipped_at s h.0 c.args.table b c.args.at c.args.start h.1 h.2 h.3 y place (drop n h.3) out.chain (C.standing c.set_out.new.caller) own in
    let apart = apart_drop h.1 n h.3 y.apart in
    let short = drop_length n h.3 in
    let few : length (drop n h.3) < 2 ^ 63 = omega (arith, short, y.few) in
    let walked = c.walk-found.ensures.walked _ h.1 (set h.2 b place) (drop n h.3) out.known_now at apart few in
    let left = left_place (C.standing c.set_out.new.caller) (with_place h.0 h.1 h.2 b place) h.1 (set h.2 b place) b c.args.word.now (drop n h.3) _ _ (C.knows c.walk-found.new.caller) c.args.table c.args.at front walked at.0
    (value_same s.own _ c.args.at own ∙ y.front) (omega (arith, c.requires.top, c.requires.order, ap (λ (o : Thread). length o.stack) own)) in
    left.below

pub returns-clause-ran : goal.returns-clause-ran
returns-clause-ran g c = let C = g.C.Caller in ran_more C.base C.tells C.tells_known C.standing _ _ _ (ran_more C.base C.tells C.tells_known C.standing _ _ _ c.set_out.ensures.ran c.walk-found.ensures.ran) c.store.ensures.ran

pub returns-clause-found : goal.returns-clause-found
returns-clause-found g c known name values links k y =
    let C = g.C.Caller in
    let s = C.standing c.args.caller.now in
    let b = c.args.bucket in
    let n = c.args.further in
    let own = c.set_out.ensures.own in
    let out = c.set_out.ensures.set_out known name values links k y in
    let place = out.place in
    let at = skipped_at s known c.args.table b c.args.at c.args.start name values links y place (drop n links) out.chain (C.standing c.set_out.new.caller) own in
    let apart = apart_drop name n links y.apart in
    let short = drop_length n links in
    let few : length (drop n links) < 2 ^ 63 = omega (arith, short, y.few) in
    let walked = c.walk-found.ensures.walked _ name (set values b place) (drop n links) out.known_now at apart few in
    subst (λ o. FoundBeyond s.own c.args.word.now links c.walk-found.result o) (sym c.store.ensures.own)
    (found_past s.own c.args.word.now n links _ _ (beyond_found s.own (C.standing c.set_out.new.caller) (with_place known name values b place) name (set values b place) b c.args.word.now (drop n links) _ _ (C.knows c.walk-found.new.caller) own walked))

pub returns-clause-known : goal.returns-clause-known
returns-clause-known g c known name values links k y =
    let C = g.C.Caller in
    let s = C.standing c.args.caller.now in
    let b = c.args.bucket in
    let n = c.args.further in
    let front = get_or values b datum.Null in
    let own = c.set_out.ensures.own in
    let out = c.set_out.ensures.set_out known name values links k y in
    let place = out.place in
    let at = skipped_at s known c.args.table b c.args.at c.args.start name values links y place (drop n links) out.chain (C.standing c.set_out.new.caller) own in
    let apart = apart_drop name n links y.apart in
    let short = drop_length n links in
    let few : length (drop n links) < 2 ^ 63 = omega (arith, short, y.few) in
    let walked = c.walk-found.ensures.walked _ name (set values b place) (drop n links) out.known_now at apart few in
    let left = left_place (C.standing c.set_out.new.caller) (with_place known name values b place) name (set values b place) b c.args.word.now (drop n links) _ _ (C.knows c.walk-found.new.caller) c.args.table c.args.at front walked at.0
    (value_same s.own _ c.args.at own ∙ y.front) (omega (arith, c.requires.top, c.requires.order, ap (λ (o : Thread). length o.stack) own)) in
    put_front known name values b place left.place _ (C.knows c.store.new.caller) left.front_there y.slot.1
    (c.store.ensures.stored _ name (set (set values b place) b left.place) left.known_now (left.slot, left.object) (subst (λ n. b < n) (sym (length-set (set values b place) b left.place ∙ length-set values b place)) y.within))

pub returns-clause-aside : goal.returns-clause-aside
returns-clause-aside g c known name values links other k y ko lacks_table lacks_front lacks =
    let C = g.C.Caller in
    let s = C.standing c.args.caller.now in
    let b = c.args.bucket in
    let n = c.args.further in
    let front = get_or values b datum.Null in
    let own = c.set_out.ensures.own in
    let out = c.set_out.ensures.set_out known name values links k y in
    let place = out.place in
    let at = skipped_at s known c.args.table b c.args.at c.args.start name values links y place (drop n links) out.chain (C.standing c.set_out.new.caller) own in
    let apart = apart_drop name n links y.apart in
    let short = drop_length n links in
    let few : length (drop n links) < 2 ^ 63 = omega (arith, short, y.few) in
    let walked = c.walk-found.ensures.walked _ name (set values b place) (drop n links) out.known_now at apart few in
    let left = left_place (C.standing c.set_out.new.caller) (with_place known name values b place) name (set values b place) b c.args.word.now (drop n links) _ _ (C.knows c.walk-found.new.caller) c.args.table c.args.at front walked at.0
    (value_same s.own _ c.args.at own ∙ y.front) (omega (arith, c.requires.top, c.requires.order, ap (λ (o : Thread). length o.stack) own)) in
    let absent = lacks_as other _ (datum.Object name) y.slot.0 lacks_table in
    let first = c.set_out.ensures.aside known name values links other k y ko lacks_table lacks in
    let still = c.walk-found.ensures.aside _ name (set values b place) (drop n links) other out.known_now at apart first (absent, lacks_drop other n links lacks) in
    c.store.ensures.aside other other still (lacks_as other (datum.Object name) _ (sym left.slot) absent) (gives_none other _ (lacks_as other _ _ (y.front ∙ sym left.front_there) lacks_front))
