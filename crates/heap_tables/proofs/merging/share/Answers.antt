use Rattle.std.proofs.Common.{◌≡◌, ◌+◌, ◌∙◌, ap, sym, refl, arith, length, drop, get_or}
use Rattle.std.specs.FinMap.{get}
use Rattle.yak_model.specs.Graph.{Thread}
use Rattle.yak_model.specs.Room.{entry_words}
use Rattle.yak_model.specs.declared.datum.Datum.TheVariants as datum
use Rattle.heap_tables.specs.Adds.{having_made}
use Rattle.heap_tables.specs.Runs.{KnowsSome, next_of, popped, pushed}
use Rattle.heap_tables.proofs.Effects.{length-take_pop, length_push, popped_pushed, size_after, slot_after, top_after}
use Rattle.heap_tables.proofs.Linked.{popped_having, shared_map}
use Rattle.heap_tables.proofs.OnResult.{either, ok_map, err_map}
use Rattle.heap_tables.proofs.RunOn.{next_same, ran_end, out_then, then_out, then_ran}
use Rattle.heap_tables.proofs.Sought.{entry_drop, front_is}
use Rattle.heap_tables.proofs.Asides.{lacks_at}
use Rattle.heap_tables.proofs.merging.share.Goals as goal

pub seek-requires-clause-chain : goal.seek-requires-clause-chain
seek-requires-clause-chain g c =
    let h = c.requires.tables in (h.0, h.1, h.3, h.5, h.8, (h.9).at, (h.9).apart, (h.9).few)

pub share_key-shared-requires-clause-entry : goal.share_key-shared-requires-clause-entry
share_key-shared-requires-clause-entry g c =
    let C = g.C.Caller in
    let s = C.standing c.args.caller.now in
    let h = c.requires.tables in
    let is = h.9 in
    let front = get_or h.3 c.args.bucket datum.Null in
    let ent = datum.Object (h.6).entry in
    let q = c.seek.ensures.sought h.0 h.1 h.3 h.5 h.8 is.at is.apart in
    let two : (C.standing c.seek.new.caller).own ≡ pushed (pushed s.own front) ent = q.0 ∙ ap (pushed (pushed s.own front)) (front_is (drop c.args.place h.5) h.7 h.6 is.there) in
    let entry = entry_drop h.0 front h.5 h.7 h.6 c.args.place is.at.2 is.there in
    let into2 = slot_after (pushed s.own front) _ ent h.0 c.args.into h.2 h.4 two (slot_after s.own (pushed s.own front) front h.0 c.args.into h.2 h.4 refl is.slot) in
    let size1 = length_push s.own.stack front in
    let size2 = size_after (pushed s.own front) _ ent two in
    let there = top_after (pushed s.own front) _ ent (c.args.top + 1) two (omega (arith, size1, c.requires.top)) in
    (h.0, h.2, h.4, entry.0, h.6, q.1, into2, is.within, (there, entry.1))

pub share_key-shared-requires-clause-names : goal.share_key-shared-requires-clause-names
share_key-shared-requires-clause-names g c =
    let C = g.C.Caller in
    let s = C.standing c.args.caller.now in
    let h = c.requires.tables in
    let is = h.9 in
    let front = get_or h.3 c.args.bucket datum.Null in
    let ent = datum.Object (h.6).entry in
    let q = c.seek.ensures.sought h.0 h.1 h.3 h.5 h.8 is.at is.apart in
    let two : (C.standing c.seek.new.caller).own ≡ pushed (pushed s.own front) ent = q.0 ∙ ap (pushed (pushed s.own front)) (front_is (drop c.args.place h.5) h.7 h.6 is.there) in
    let entry = entry_drop h.0 front h.5 h.7 h.6 c.args.place is.at.2 is.there in
    let into2 = slot_after (pushed s.own front) _ ent h.0 c.args.into h.2 h.4 two (slot_after s.own (pushed s.own front) front h.0 c.args.into h.2 h.4 refl is.slot) in
    let size1 = length_push s.own.stack front in
    let size2 = size_after (pushed s.own front) _ ent two in
    omega (arith, c.requires.names, ap (λ (o : Thread). o.made) two)

pub share_key-shared-requires-clause-room : goal.share_key-shared-requires-clause-room
share_key-shared-requires-clause-room g c =
    let C = g.C.Caller in
    let s = C.standing c.args.caller.now in
    let h = c.requires.tables in
    let is = h.9 in
    let front = get_or h.3 c.args.bucket datum.Null in
    let ent = datum.Object (h.6).entry in
    let q = c.seek.ensures.sought h.0 h.1 h.3 h.5 h.8 is.at is.apart in
    let two : (C.standing c.seek.new.caller).own ≡ pushed (pushed s.own front) ent = q.0 ∙ ap (pushed (pushed s.own front)) (front_is (drop c.args.place h.5) h.7 h.6 is.there) in
    let entry = entry_drop h.0 front h.5 h.7 h.6 c.args.place is.at.2 is.there in
    let into2 = slot_after (pushed s.own front) _ ent h.0 c.args.into h.2 h.4 two (slot_after s.own (pushed s.own front) front h.0 c.args.into h.2 h.4 refl is.slot) in
    let size1 = length_push s.own.stack front in
    let size2 = size_after (pushed s.own front) _ ent two in
    omega (arith, c.requires.room, size1, size2)

pub share_key-shared-requires-clause-top : goal.share_key-shared-requires-clause-top
share_key-shared-requires-clause-top g c =
    let C = g.C.Caller in
    let s = C.standing c.args.caller.now in
    let h = c.requires.tables in
    let is = h.9 in
    let front = get_or h.3 c.args.bucket datum.Null in
    let ent = datum.Object (h.6).entry in
    let q = c.seek.ensures.sought h.0 h.1 h.3 h.5 h.8 is.at is.apart in
    let two : (C.standing c.seek.new.caller).own ≡ pushed (pushed s.own front) ent = q.0 ∙ ap (pushed (pushed s.own front)) (front_is (drop c.args.place h.5) h.7 h.6 is.there) in
    let entry = entry_drop h.0 front h.5 h.7 h.6 c.args.place is.at.2 is.there in
    let into2 = slot_after (pushed s.own front) _ ent h.0 c.args.into h.2 h.4 two (slot_after s.own (pushed s.own front) front h.0 c.args.into h.2 h.4 refl is.slot) in
    let size1 = length_push s.own.stack front in
    let size2 = size_after (pushed s.own front) _ ent two in
    omega (arith, c.requires.top, size1, size2)

pub pop-requires-clause-some : goal.pop-requires-clause-some
pop-requires-clause-some g c =
    let C = g.C.Caller in
    let s = C.standing c.args.caller.now in
    let h = c.requires.tables in
    let is = h.9 in
    let front = get_or h.3 c.args.bucket datum.Null in
    let ent = datum.Object (h.6).entry in
    let q = c.seek.ensures.sought h.0 h.1 h.3 h.5 h.8 is.at is.apart in
    let two : (C.standing c.seek.new.caller).own ≡ pushed (pushed s.own front) ent = q.0 ∙ ap (pushed (pushed s.own front)) (front_is (drop c.args.place h.5) h.7 h.6 is.there) in
    let entry = entry_drop h.0 front h.5 h.7 h.6 c.args.place is.at.2 is.there in
    let into2 = slot_after (pushed s.own front) _ ent h.0 c.args.into h.2 h.4 two (slot_after s.own (pushed s.own front) front h.0 c.args.into h.2 h.4 refl is.slot) in
    let size1 = length_push s.own.stack front in
    let size2 = size_after (pushed s.own front) _ ent two in
    let there = top_after (pushed s.own front) _ ent (c.args.top + 1) two (omega (arith, size1, c.requires.top)) in
    let some : KnowsSome (C.knows c.share_key-shared.new.caller) = either c.share_key-shared.result _ (ok_map c.share_key-shared.result _ _ (λ f. (_, (f h.0 h.2 h.4 entry.0 h.6 q.1 into2 is.within (there, entry.1)).0)) c.share_key-shared.ensures.shared) (err_map c.share_key-shared.result _ _ (λ f. (h.0, f h.0 q.1)) c.share_key-shared.ensures.keeps) in
    some

pub pop-requires-clause-slot : goal.pop-requires-clause-slot
pop-requires-clause-slot g c =
    let C = g.C.Caller in
    let s = C.standing c.args.caller.now in
    let h = c.requires.tables in
    let is = h.9 in
    let front = get_or h.3 c.args.bucket datum.Null in
    let ent = datum.Object (h.6).entry in
    let q = c.seek.ensures.sought h.0 h.1 h.3 h.5 h.8 is.at is.apart in
    let two : (C.standing c.seek.new.caller).own ≡ pushed (pushed s.own front) ent = q.0 ∙ ap (pushed (pushed s.own front)) (front_is (drop c.args.place h.5) h.7 h.6 is.there) in
    let entry = entry_drop h.0 front h.5 h.7 h.6 c.args.place is.at.2 is.there in
    let into2 = slot_after (pushed s.own front) _ ent h.0 c.args.into h.2 h.4 two (slot_after s.own (pushed s.own front) front h.0 c.args.into h.2 h.4 refl is.slot) in
    let size1 = length_push s.own.stack front in
    let size2 = size_after (pushed s.own front) _ ent two in
    let deep = either c.share_key-shared.result (length (C.standing c.share_key-shared.new.caller).own.stack ≡ length (C.standing c.seek.new.caller).own.stack) (ok_map c.share_key-shared.result _ _ (λ e. ap (λ (o : Thread). length o.stack) e) c.share_key-shared.ensures.own) (err_map c.share_key-shared.result _ _ (λ e. ap (λ (o : Thread). length o.stack) e) c.share_key-shared.ensures.same) in
    omega (arith, size1, size2, deep)

pub pop-requires-2-clause-some : goal.pop-requires-2-clause-some
pop-requires-2-clause-some g c =
    let C = g.C.Caller in
    let s = C.standing c.args.caller.now in
    let h = c.requires.tables in
    let is = h.9 in
    let front = get_or h.3 c.args.bucket datum.Null in
    let ent = datum.Object (h.6).entry in
    let q = c.seek.ensures.sought h.0 h.1 h.3 h.5 h.8 is.at is.apart in
    let two : (C.standing c.seek.new.caller).own ≡ pushed (pushed s.own front) ent = q.0 ∙ ap (pushed (pushed s.own front)) (front_is (drop c.args.place h.5) h.7 h.6 is.there) in
    let entry = entry_drop h.0 front h.5 h.7 h.6 c.args.place is.at.2 is.there in
    let into2 = slot_after (pushed s.own front) _ ent h.0 c.args.into h.2 h.4 two (slot_after s.own (pushed s.own front) front h.0 c.args.into h.2 h.4 refl is.slot) in
    let size1 = length_push s.own.stack front in
    let size2 = size_after (pushed s.own front) _ ent two in
    let there = top_after (pushed s.own front) _ ent (c.args.top + 1) two (omega (arith, size1, c.requires.top)) in
    let some : KnowsSome (C.knows c.share_key-shared.new.caller) = either c.share_key-shared.result _ (ok_map c.share_key-shared.result _ _ (λ f. (_, (f h.0 h.2 h.4 entry.0 h.6 q.1 into2 is.within (there, entry.1)).0)) c.share_key-shared.ensures.shared) (err_map c.share_key-shared.result _ _ (λ f. (h.0, f h.0 q.1)) c.share_key-shared.ensures.keeps) in
    (some.0, c.pop.ensures.keeps some.0 some.1)

pub pop-requires-2-clause-slot : goal.pop-requires-2-clause-slot
pop-requires-2-clause-slot g c =
    let C = g.C.Caller in
    let s = C.standing c.args.caller.now in
    let h = c.requires.tables in
    let is = h.9 in
    let front = get_or h.3 c.args.bucket datum.Null in
    let ent = datum.Object (h.6).entry in
    let q = c.seek.ensures.sought h.0 h.1 h.3 h.5 h.8 is.at is.apart in
    let two : (C.standing c.seek.new.caller).own ≡ pushed (pushed s.own front) ent = q.0 ∙ ap (pushed (pushed s.own front)) (front_is (drop c.args.place h.5) h.7 h.6 is.there) in
    let entry = entry_drop h.0 front h.5 h.7 h.6 c.args.place is.at.2 is.there in
    let into2 = slot_after (pushed s.own front) _ ent h.0 c.args.into h.2 h.4 two (slot_after s.own (pushed s.own front) front h.0 c.args.into h.2 h.4 refl is.slot) in
    let size1 = length_push s.own.stack front in
    let size2 = size_after (pushed s.own front) _ ent two in
    let deep = either c.share_key-shared.result (length (C.standing c.share_key-shared.new.caller).own.stack ≡ length (C.standing c.seek.new.caller).own.stack) (ok_map c.share_key-shared.result _ _ (λ e. ap (λ (o : Thread). length o.stack) e) c.share_key-shared.ensures.own) (err_map c.share_key-shared.result _ _ (λ e. ap (λ (o : Thread). length o.stack) e) c.share_key-shared.ensures.same) in
    let less = ap (λ (o : Thread). length o.stack) c.pop.ensures.popped in
    let short = length-take_pop (C.standing c.share_key-shared.new.caller).own.stack in
    omega (arith, size1, size2, deep, less, short)

pub returns-clause-ran : goal.returns-clause-ran
returns-clause-ran g c =
    let C = g.C.Caller in
    ok_map c.share_key-shared.result _ _ (λ r. ran_end C.base C.tells C.tells_known C.standing _ _ _ entry_words (ran_end C.base C.tells C.tells_known C.standing _ _ _ entry_words (then_ran C.base C.tells C.tells_known C.standing _ _ _ entry_words c.seek.ensures.ran r) c.pop.ensures.ran) c.pop-2.ensures.ran) c.share_key-shared.ensures.ran

pub returns-clause-own : goal.returns-clause-own
returns-clause-own g c =
    let C = g.C.Caller in
    let s = C.standing c.args.caller.now in
    let h = c.requires.tables in
    let is = h.9 in
    let front = get_or h.3 c.args.bucket datum.Null in
    let ent = datum.Object (h.6).entry in
    let q = c.seek.ensures.sought h.0 h.1 h.3 h.5 h.8 is.at is.apart in
    let two : (C.standing c.seek.new.caller).own ≡ pushed (pushed s.own front) ent = q.0 ∙ ap (pushed (pushed s.own front)) (front_is (drop c.args.place h.5) h.7 h.6 is.there) in
    let entry = entry_drop h.0 front h.5 h.7 h.6 c.args.place is.at.2 is.there in
    let into2 = slot_after (pushed s.own front) _ ent h.0 c.args.into h.2 h.4 two (slot_after s.own (pushed s.own front) front h.0 c.args.into h.2 h.4 refl is.slot) in
    let size1 = length_push s.own.stack front in
    let size2 = size_after (pushed s.own front) _ ent two in
    ok_map c.share_key-shared.result _ _ (λ e. c.pop-2.ensures.popped ∙ ap popped (c.pop.ensures.popped ∙ ap popped (e ∙ ap (λ o. having_made o 1) two) ∙ popped_having (pushed s.own front) ent 1) ∙ popped_having s.own front 1) c.share_key-shared.ensures.own

pub returns-clause-same : goal.returns-clause-same
returns-clause-same g c =
    let C = g.C.Caller in
    let s = C.standing c.args.caller.now in
    let h = c.requires.tables in
    let is = h.9 in
    let front = get_or h.3 c.args.bucket datum.Null in
    let ent = datum.Object (h.6).entry in
    let q = c.seek.ensures.sought h.0 h.1 h.3 h.5 h.8 is.at is.apart in
    let two : (C.standing c.seek.new.caller).own ≡ pushed (pushed s.own front) ent = q.0 ∙ ap (pushed (pushed s.own front)) (front_is (drop c.args.place h.5) h.7 h.6 is.there) in
    let entry = entry_drop h.0 front h.5 h.7 h.6 c.args.place is.at.2 is.there in
    let into2 = slot_after (pushed s.own front) _ ent h.0 c.args.into h.2 h.4 two (slot_after s.own (pushed s.own front) front h.0 c.args.into h.2 h.4 refl is.slot) in
    let size1 = length_push s.own.stack front in
    let size2 = size_after (pushed s.own front) _ ent two in
    err_map c.share_key-shared.result _ _ (λ e. c.pop-2.ensures.popped ∙ ap popped (c.pop.ensures.popped ∙ ap popped (e ∙ two) ∙ popped_pushed (pushed s.own front) ent) ∙ popped_pushed s.own front) c.share_key-shared.ensures.same

pub returns-clause-kept : goal.returns-clause-kept
returns-clause-kept g c =
    err_map c.share_key-shared.result _ _ (λ f known from_name into_name values heads links link rest k is. c.pop-2.ensures.keeps known (c.pop.ensures.keeps known (f known (c.seek.ensures.sought known from_name values links k is.at is.apart).1))) c.share_key-shared.ensures.keeps

pub returns-clause-ran_out : goal.returns-clause-ran_out
returns-clause-ran_out g c =
    let C = g.C.Caller in
    err_map c.share_key-shared.result _ _ (λ r. out_then C.base C.tells C.tells_known C.standing _ _ _ 0 _ (out_then C.base C.tells C.tells_known C.standing _ _ _ 0 _ (then_out C.base C.tells C.tells_known C.standing _ _ _ 0 _ c.seek.ensures.ran r) c.pop.ensures.ran) c.pop-2.ensures.ran) c.share_key-shared.ensures.ran_out

pub returns-clause-shared : goal.returns-clause-shared
returns-clause-shared g c =
    let C = g.C.Caller in
    let s = C.standing c.args.caller.now in
    ok_map c.share_key-shared.result _ _
    (λ shared known from_name into_name values heads links link rest k is.
    let front = get_or values c.args.bucket datum.Null in
    let ent = datum.Object link.entry in
    let q = c.seek.ensures.sought known from_name values links k is.at is.apart in
    let two : (C.standing c.seek.new.caller).own ≡ pushed (pushed s.own front) ent = q.0 ∙ ap (pushed (pushed s.own front)) (front_is (drop c.args.place links) rest link is.there) in
    let entry = entry_drop known front links rest link c.args.place is.at.2 is.there in
    let into2 = slot_after (pushed s.own front) _ ent known c.args.into into_name heads two (slot_after s.own (pushed s.own front) front known c.args.into into_name heads refl is.slot) in
    let size1 = length_push s.own.stack front in
    let size2 = size_after (pushed s.own front) _ ent two in
    let there = top_after (pushed s.own front) _ ent (c.args.top + 1) two (omega (arith, size1, c.requires.top)) in
    let r = shared known into_name heads entry.0 link q.1 into2 is.within (there, entry.1) in
    let same = next_same s (C.standing c.seek.new.caller) c.seek.ensures.ran.since.thread (ap (λ (o : Thread). o.made) two) in
    let knows = C.knows c.pop-2.new.caller in
    let into_front = get_or heads c.args.bucket datum.Null in
    let now = c.pop-2.ensures.keeps _ (c.pop.ensures.keeps _ r.0) in
    let named = shared_map known into_name heads c.args.bucket c.args.n knows _ _ _ into_front (next_of s) (datum.Object link.key) same refl refl now in
    (named, sym (ap (get known) same) ∙ r.1))
    c.share_key-shared.ensures.shared

pub returns-clause-aside : goal.returns-clause-aside
returns-clause-aside g c =
    let C = g.C.Caller in
    let s = C.standing c.args.caller.now in
    ok_map c.share_key-shared.result _ _
    (λ given known from_name into_name values heads links link rest other k is ko from_lacks lacks lacks_front.
    let front = get_or values c.args.bucket datum.Null in
    let ent = datum.Object link.entry in
    let q = c.seek.ensures.sought known from_name values links k is.at is.apart in
    let two : (C.standing c.seek.new.caller).own ≡ pushed (pushed s.own front) ent = q.0 ∙ ap (pushed (pushed s.own front)) (front_is (drop c.args.place links) rest link is.there) in
    let entry = entry_drop known front links rest link c.args.place is.at.2 is.there in
    let into2 = slot_after (pushed s.own front) _ ent known c.args.into into_name heads two (slot_after s.own (pushed s.own front) front known c.args.into into_name heads refl is.slot) in
    let size1 = length_push s.own.stack front in
    let size2 = size_after (pushed s.own front) _ ent two in
    let there = top_after (pushed s.own front) _ ent (c.args.top + 1) two (omega (arith, size1, c.requires.top)) in
    let same = next_same s (C.standing c.seek.new.caller) c.seek.ensures.ran.since.thread (ap (λ (o : Thread). o.made) two) in
    let still = c.seek.ensures.aside known from_name values links other k is.at is.apart ko from_lacks in
    let r = given known into_name heads entry.0 link other q.1 into2 is.within (there, entry.1) still lacks lacks_front (lacks_at other c.args.place links rest link is.there from_lacks.1) in
    (c.pop-2.ensures.keeps other (c.pop.ensures.keeps other r.0), sym (ap (get other) same) ∙ r.1))
    c.share_key-shared.ensures.aside

pub returns-clause-left : goal.returns-clause-left
returns-clause-left g c =
    err_map c.share_key-shared.result _ _
    (λ f known from_name into_name values heads links link rest other k is ko from_lacks. c.pop-2.ensures.keeps other (c.pop.ensures.keeps other (f other (c.seek.ensures.aside known from_name values links other k is.at is.apart ko from_lacks))))
    c.share_key-shared.ensures.keeps
