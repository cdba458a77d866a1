use Rattle.heap_tables.proofs.RunOn.{ran_more, ran_then, ran_words, ran_out, out_then, out_words, next_same}
use Rattle.std.proofs.Common.{inl, inr, ⊎_elim, sym, ◌<◌}
use Rattle.yak_model.specs.Room.{entry_words, key_words}
use Rattle.heap_tables.specs.Adds.{having_made}
use Rattle.heap_tables.proofs.Effects.{popped_pushed}
use Rattle.heap_tables.proofs.Linked.{after_moved, after_raised, popped_having}
use Rattle.std.proofs.Common.{◌+◌, ◌-◌, ◌<◌, ◌∙◌, ap, sym, subst, refl, arith, length, take, get_or, List}
use Rattle.yak_model.specs.Graph.{Thread}
use Rattle.yak_model.specs.declared.datum.Datum.{Datum}
use Rattle.yak_model.specs.declared.datum.Datum.TheVariants as datum
use Rattle.heap_tables.specs.Runs.{pushed, popped}
use Rattle.heap_tables.proofs.Effects.{slot_same, slot_after, top_after, size_after, take_push}
use Rattle.yak_model.specs.Tables.{LacksWord, bucket_of, IsChain}
use Rattle.heap_tables.proofs.RaisedCounts.{lacks_count}
use Rattle.heap_tables.proofs.Asides.{lacks_as, lacks_head}
use Rattle.std.specs.FinMap.{insert}
use Rattle.yak_model.specs.declared.TheConstants.{BUCKETS}
use Rattle.heap_tables.proofs.tables.add_links.Goals as goal

pub load-requires-clause-field : goal.load-requires-clause-field
load-requires-clause-field g c =
    let h = c.requires.table in
    let missing = (c.if-add_present.ensures.added h.0 h.1 h.2 h.3 h.4 h.5).1 refl in
    let t = (h.5).is_table in
    let e = c.bucket_of-bucket.ensures.same in
    let small = c.bucket_of-bucket.ensures.small in
    let same = c.add_present.ensures.own in
    let slot = slot_same (g.C.Caller.standing c.args.caller.now).own _ h.0 c.args.table h.1 h.2 same ((h.5).slot, t.object) in
    let within : c.bucket_of-bucket.result < length h.2 = omega (arith, t.size, small) in
    (h.0, h.1, h.2, missing.1, slot, within)

pub insert_new-requires-clause-table : goal.insert_new-requires-clause-table
insert_new-requires-clause-table g c =
    let h = c.requires.table in
    let missing = (c.if-add_present.ensures.added h.0 h.1 h.2 h.3 h.4 h.5).1 refl in
    let t = (h.5).is_table in
    let e = c.bucket_of-bucket.ensures.same in
    let small = c.bucket_of-bucket.ensures.small in
    let same = c.add_present.ensures.own in
    let slot = slot_same (g.C.Caller.standing c.args.caller.now).own _ h.0 c.args.table h.1 h.2 same ((h.5).slot, t.object) in
    let within : c.bucket_of-bucket.result < length h.2 = omega (arith, t.size, small) in
    let loaded = c.load.ensures.pushed h.0 h.1 h.2 missing.1 slot within ∙ ap (λ o. pushed o (get_or h.2 c.bucket_of-bucket.result datum.Null)) same in
    let there = slot_after (g.C.Caller.standing c.args.caller.now).own _ (get_or h.2 c.bucket_of-bucket.result datum.Null) h.0 c.args.table h.1 h.2 loaded ((h.5).slot, t.object) in
    let still = c.load.ensures.keeps h.0 missing.1 in
    let size = size_after (g.C.Caller.standing c.args.caller.now).own _ (get_or h.2 c.bucket_of-bucket.result datum.Null) loaded in
    (h.0, h.1, h.2, still, there, within)

pub insert_new-requires-clause-names : goal.insert_new-requires-clause-names
insert_new-requires-clause-names g c =
    let h = c.requires.table in
    let missing = (c.if-add_present.ensures.added h.0 h.1 h.2 h.3 h.4 h.5).1 refl in
    let t = (h.5).is_table in
    let e = c.bucket_of-bucket.ensures.same in
    let small = c.bucket_of-bucket.ensures.small in
    let same = c.add_present.ensures.own in
    let slot = slot_same (g.C.Caller.standing c.args.caller.now).own _ h.0 c.args.table h.1 h.2 same ((h.5).slot, t.object) in
    let within : c.bucket_of-bucket.result < length h.2 = omega (arith, t.size, small) in
    let loaded = c.load.ensures.pushed h.0 h.1 h.2 missing.1 slot within ∙ ap (λ o. pushed o (get_or h.2 c.bucket_of-bucket.result datum.Null)) same in
    let there = slot_after (g.C.Caller.standing c.args.caller.now).own _ (get_or h.2 c.bucket_of-bucket.result datum.Null) h.0 c.args.table h.1 h.2 loaded ((h.5).slot, t.object) in
    let still = c.load.ensures.keeps h.0 missing.1 in
    let size = size_after (g.C.Caller.standing c.args.caller.now).own _ (get_or h.2 c.bucket_of-bucket.result datum.Null) loaded in
    omega (arith, c.requires.names, ap (λ (o : Thread). o.made) loaded)

pub insert_new-requires-clause-room : goal.insert_new-requires-clause-room
insert_new-requires-clause-room g c =
    let h = c.requires.table in
    let missing = (c.if-add_present.ensures.added h.0 h.1 h.2 h.3 h.4 h.5).1 refl in
    let t = (h.5).is_table in
    let e = c.bucket_of-bucket.ensures.same in
    let small = c.bucket_of-bucket.ensures.small in
    let same = c.add_present.ensures.own in
    let slot = slot_same (g.C.Caller.standing c.args.caller.now).own _ h.0 c.args.table h.1 h.2 same ((h.5).slot, t.object) in
    let within : c.bucket_of-bucket.result < length h.2 = omega (arith, t.size, small) in
    let loaded = c.load.ensures.pushed h.0 h.1 h.2 missing.1 slot within ∙ ap (λ o. pushed o (get_or h.2 c.bucket_of-bucket.result datum.Null)) same in
    let there = slot_after (g.C.Caller.standing c.args.caller.now).own _ (get_or h.2 c.bucket_of-bucket.result datum.Null) h.0 c.args.table h.1 h.2 loaded ((h.5).slot, t.object) in
    let still = c.load.ensures.keeps h.0 missing.1 in
    let size = size_after (g.C.Caller.standing c.args.caller.now).own _ (get_or h.2 c.bucket_of-bucket.result datum.Null) loaded in
    omega (arith, c.requires.room, size)

pub insert_new-requires-clause-top : goal.insert_new-requires-clause-top
insert_new-requires-clause-top g c =
    let h = c.requires.table in
    let missing = (c.if-add_present.ensures.added h.0 h.1 h.2 h.3 h.4 h.5).1 refl in
    let t = (h.5).is_table in
    let e = c.bucket_of-bucket.ensures.same in
    let small = c.bucket_of-bucket.ensures.small in
    let same = c.add_present.ensures.own in
    let slot = slot_same (g.C.Caller.standing c.args.caller.now).own _ h.0 c.args.table h.1 h.2 same ((h.5).slot, t.object) in
    let within : c.bucket_of-bucket.result < length h.2 = omega (arith, t.size, small) in
    let loaded = c.load.ensures.pushed h.0 h.1 h.2 missing.1 slot within ∙ ap (λ o. pushed o (get_or h.2 c.bucket_of-bucket.result datum.Null)) same in
    let there = slot_after (g.C.Caller.standing c.args.caller.now).own _ (get_or h.2 c.bucket_of-bucket.result datum.Null) h.0 c.args.table h.1 h.2 loaded ((h.5).slot, t.object) in
    let still = c.load.ensures.keeps h.0 missing.1 in
    let size = size_after (g.C.Caller.standing c.args.caller.now).own _ (get_or h.2 c.bucket_of-bucket.result datum.Null) loaded in
    omega (arith, c.requires.top, size)

pub pop-requires-clause-some : goal.pop-requires-clause-some
pop-requires-clause-some g c =
    let h = c.requires.table in
    let missing = (c.if-add_present.ensures.added h.0 h.1 h.2 h.3 h.4 h.5).1 refl in
    let t = (h.5).is_table in
    let e = c.bucket_of-bucket.ensures.same in
    let small = c.bucket_of-bucket.ensures.small in
    let same = c.add_present.ensures.own in
    let slot = slot_same (g.C.Caller.standing c.args.caller.now).own _ h.0 c.args.table h.1 h.2 same ((h.5).slot, t.object) in
    let within : c.bucket_of-bucket.result < length h.2 = omega (arith, t.size, small) in
    let loaded = c.load.ensures.pushed h.0 h.1 h.2 missing.1 slot within ∙ ap (λ o. pushed o (get_or h.2 c.bucket_of-bucket.result datum.Null)) same in
    let there = slot_after (g.C.Caller.standing c.args.caller.now).own _ (get_or h.2 c.bucket_of-bucket.result datum.Null) h.0 c.args.table h.1 h.2 loaded ((h.5).slot, t.object) in
    let still = c.load.ensures.keeps h.0 missing.1 in
    let size = size_after (g.C.Caller.standing c.args.caller.now).own _ (get_or h.2 c.bucket_of-bucket.result datum.Null) loaded in
    let added = c.in-Ok.ensures.added h.0 h.1 h.2 h.3 still there.0 t (top_after (g.C.Caller.standing c.args.caller.now).own _ (get_or h.2 c.bucket_of-bucket.result datum.Null) c.args.top loaded c.requires.top) (sym e) small (subst (λ i. LacksWord c.args.word.now (h.3 i)) (sym e) missing.0) in
    (added.0.after, added.0.known_now)

pub pop-requires-clause-slot : goal.pop-requires-clause-slot
pop-requires-clause-slot g c =
    let h = c.requires.table in
    let missing = (c.if-add_present.ensures.added h.0 h.1 h.2 h.3 h.4 h.5).1 refl in
    let t = (h.5).is_table in
    let e = c.bucket_of-bucket.ensures.same in
    let small = c.bucket_of-bucket.ensures.small in
    let same = c.add_present.ensures.own in
    let slot = slot_same (g.C.Caller.standing c.args.caller.now).own _ h.0 c.args.table h.1 h.2 same ((h.5).slot, t.object) in
    let within : c.bucket_of-bucket.result < length h.2 = omega (arith, t.size, small) in
    let loaded = c.load.ensures.pushed h.0 h.1 h.2 missing.1 slot within ∙ ap (λ o. pushed o (get_or h.2 c.bucket_of-bucket.result datum.Null)) same in
    let there = slot_after (g.C.Caller.standing c.args.caller.now).own _ (get_or h.2 c.bucket_of-bucket.result datum.Null) h.0 c.args.table h.1 h.2 loaded ((h.5).slot, t.object) in
    let still = c.load.ensures.keeps h.0 missing.1 in
    let size = size_after (g.C.Caller.standing c.args.caller.now).own _ (get_or h.2 c.bucket_of-bucket.result datum.Null) loaded in
    omega (arith, size, ap (λ (o : Thread). length o.stack) c.in-Ok.ensures.own)

pub pop-requires-in-Err-clause-some : goal.pop-requires-in-Err-clause-some
pop-requires-in-Err-clause-some g c =
    let h = c.requires.table in
    let missing = (c.if-add_present.ensures.added h.0 h.1 h.2 h.3 h.4 h.5).1 refl in
    let t = (h.5).is_table in
    let e = c.bucket_of-bucket.ensures.same in
    let small = c.bucket_of-bucket.ensures.small in
    let same = c.add_present.ensures.own in
    let slot = slot_same (g.C.Caller.standing c.args.caller.now).own _ h.0 c.args.table h.1 h.2 same ((h.5).slot, t.object) in
    let within : c.bucket_of-bucket.result < length h.2 = omega (arith, t.size, small) in
    let loaded = c.load.ensures.pushed h.0 h.1 h.2 missing.1 slot within ∙ ap (λ o. pushed o (get_or h.2 c.bucket_of-bucket.result datum.Null)) same in
    let there = slot_after (g.C.Caller.standing c.args.caller.now).own _ (get_or h.2 c.bucket_of-bucket.result datum.Null) h.0 c.args.table h.1 h.2 loaded ((h.5).slot, t.object) in
    let still = c.load.ensures.keeps h.0 missing.1 in
    let size = size_after (g.C.Caller.standing c.args.caller.now).own _ (get_or h.2 c.bucket_of-bucket.result datum.Null) loaded in
    let r = c.in-Err.ensures.kept h.0 still in (r.0, r.1)

pub pop-requires-in-Err-clause-slot : goal.pop-requires-in-Err-clause-slot
pop-requires-in-Err-clause-slot g c =
    let h = c.requires.table in
    let missing = (c.if-add_present.ensures.added h.0 h.1 h.2 h.3 h.4 h.5).1 refl in
    let t = (h.5).is_table in
    let e = c.bucket_of-bucket.ensures.same in
    let small = c.bucket_of-bucket.ensures.small in
    let same = c.add_present.ensures.own in
    let slot = slot_same (g.C.Caller.standing c.args.caller.now).own _ h.0 c.args.table h.1 h.2 same ((h.5).slot, t.object) in
    let within : c.bucket_of-bucket.result < length h.2 = omega (arith, t.size, small) in
    let loaded = c.load.ensures.pushed h.0 h.1 h.2 missing.1 slot within ∙ ap (λ o. pushed o (get_or h.2 c.bucket_of-bucket.result datum.Null)) same in
    let there = slot_after (g.C.Caller.standing c.args.caller.now).own _ (get_or h.2 c.bucket_of-bucket.result datum.Null) h.0 c.args.table h.1 h.2 loaded ((h.5).slot, t.object) in
    let still = c.load.ensures.keeps h.0 missing.1 in
    let size = size_after (g.C.Caller.standing c.args.caller.now).own _ (get_or h.2 c.bucket_of-bucket.result datum.Null) loaded in
    omega (arith, size, ap (λ (st : List Datum). length st) c.in-Err.ensures.stack)

pub returns-in-Ok-clause-stack : goal.returns-in-Ok-clause-stack
returns-in-Ok-clause-stack g c =
    let h = c.requires.table in
    let missing = (c.if-add_present.ensures.added h.0 h.1 h.2 h.3 h.4 h.5).1 refl in
    let t = (h.5).is_table in
    let e = c.bucket_of-bucket.ensures.same in
    let small = c.bucket_of-bucket.ensures.small in
    let same = c.add_present.ensures.own in
    let slot = slot_same (g.C.Caller.standing c.args.caller.now).own _ h.0 c.args.table h.1 h.2 same ((h.5).slot, t.object) in
    let within : c.bucket_of-bucket.result < length h.2 = omega (arith, t.size, small) in
    let loaded = c.load.ensures.pushed h.0 h.1 h.2 missing.1 slot within ∙ ap (λ o. pushed o (get_or h.2 c.bucket_of-bucket.result datum.Null)) same in
    let there = slot_after (g.C.Caller.standing c.args.caller.now).own _ (get_or h.2 c.bucket_of-bucket.result datum.Null) h.0 c.args.table h.1 h.2 loaded ((h.5).slot, t.object) in
    let still = c.load.ensures.keeps h.0 missing.1 in
    let size = size_after (g.C.Caller.standing c.args.caller.now).own _ (get_or h.2 c.bucket_of-bucket.result datum.Null) loaded in
    ap (λ (o : Thread). o.stack) c.pop.ensures.popped ∙ ap (λ (st : List Datum). take (length st - 1) st) (ap (λ (o : Thread). o.stack) c.in-Ok.ensures.own ∙ ap (λ (o : Thread). o.stack) loaded) ∙ take_push (g.C.Caller.standing c.args.caller.now).own.stack (get_or h.2 c.bucket_of-bucket.result datum.Null)

pub returns-in-Ok-clause-added : goal.returns-in-Ok-clause-added
returns-in-Ok-clause-added g c known name heads buckets k may =
    let missing = (c.if-add_present.ensures.added known name heads buckets k may).1 refl in
    let t = (may).is_table in
    let e = c.bucket_of-bucket.ensures.same in
    let small = c.bucket_of-bucket.ensures.small in
    let same = c.add_present.ensures.own in
    let slot = slot_same (g.C.Caller.standing c.args.caller.now).own _ known c.args.table name heads same ((may).slot, t.object) in
    let within : c.bucket_of-bucket.result < length heads = omega (arith, t.size, small) in
    let loaded = c.load.ensures.pushed known name heads missing.1 slot within ∙ ap (λ o. pushed o (get_or heads c.bucket_of-bucket.result datum.Null)) same in
    let there = slot_after (g.C.Caller.standing c.args.caller.now).own _ (get_or heads c.bucket_of-bucket.result datum.Null) known c.args.table name heads loaded ((may).slot, t.object) in
    let still = c.load.ensures.keeps known missing.1 in
    let size = size_after (g.C.Caller.standing c.args.caller.now).own _ (get_or heads c.bucket_of-bucket.result datum.Null) loaded in
    let both = c.in-Ok.ensures.added known name heads buckets still there.0 t (top_after (g.C.Caller.standing c.args.caller.now).own _ (get_or heads c.bucket_of-bucket.result datum.Null) c.args.top loaded c.requires.top) (sym e) small (subst (λ i. LacksWord c.args.word.now (buckets i)) (sym e) missing.0) in
    let added = both.0 in (
      record { after = added.after; heads = added.heads; links = added.links; known_now = c.pop.ensures.keeps _ added.known_now; is_table = added.is_table; adds = added.adds; others = added.others; fresh = added.fresh },
      after_moved (g.C.Caller.standing c.load.new.caller) (g.C.Caller.standing c.args.caller.now) (buckets (bucket_of c.args.word.now)) added.links (c.load.ensures.ran.since.thread ∙ c.if-add_present.ensures.ran.since.thread) (ap (λ (o : Thread). o.made) loaded) both.1,
    )

pub returns-in-Err-clause-stack : goal.returns-in-Err-clause-stack
returns-in-Err-clause-stack g c =
    let h = c.requires.table in
    let missing = (c.if-add_present.ensures.added h.0 h.1 h.2 h.3 h.4 h.5).1 refl in
    let t = (h.5).is_table in
    let e = c.bucket_of-bucket.ensures.same in
    let small = c.bucket_of-bucket.ensures.small in
    let same = c.add_present.ensures.own in
    let slot = slot_same (g.C.Caller.standing c.args.caller.now).own _ h.0 c.args.table h.1 h.2 same ((h.5).slot, t.object) in
    let within : c.bucket_of-bucket.result < length h.2 = omega (arith, t.size, small) in
    let loaded = c.load.ensures.pushed h.0 h.1 h.2 missing.1 slot within ∙ ap (λ o. pushed o (get_or h.2 c.bucket_of-bucket.result datum.Null)) same in
    let there = slot_after (g.C.Caller.standing c.args.caller.now).own _ (get_or h.2 c.bucket_of-bucket.result datum.Null) h.0 c.args.table h.1 h.2 loaded ((h.5).slot, t.object) in
    let still = c.load.ensures.keeps h.0 missing.1 in
    let size = size_after (g.C.Caller.standing c.args.caller.now).own _ (get_or h.2 c.bucket_of-bucket.result datum.Null) loaded in
    ap (λ (o : Thread). o.stack) c.pop-in-Err.ensures.popped ∙ ap (λ (st : List Datum). take (length st - 1) st) (c.in-Err.ensures.stack ∙ ap (λ (o : Thread). o.stack) loaded) ∙ take_push (g.C.Caller.standing c.args.caller.now).own.stack (get_or h.2 c.bucket_of-bucket.result datum.Null)

pub returns-in-Err-clause-kept : goal.returns-in-Err-clause-kept
returns-in-Err-clause-kept g c known name heads buckets k may =
    let missing = (c.if-add_present.ensures.added known name heads buckets k may).1 refl in
    let t = (may).is_table in
    let e = c.bucket_of-bucket.ensures.same in
    let small = c.bucket_of-bucket.ensures.small in
    let same = c.add_present.ensures.own in
    let slot = slot_same (g.C.Caller.standing c.args.caller.now).own _ known c.args.table name heads same ((may).slot, t.object) in
    let within : c.bucket_of-bucket.result < length heads = omega (arith, t.size, small) in
    let loaded = c.load.ensures.pushed known name heads missing.1 slot within ∙ ap (λ o. pushed o (get_or heads c.bucket_of-bucket.result datum.Null)) same in
    let there = slot_after (g.C.Caller.standing c.args.caller.now).own _ (get_or heads c.bucket_of-bucket.result datum.Null) known c.args.table name heads loaded ((may).slot, t.object) in
    let still = c.load.ensures.keeps known missing.1 in
    let size = size_after (g.C.Caller.standing c.args.caller.now).own _ (get_or heads c.bucket_of-bucket.result datum.Null) loaded in
    let r = c.in-Err.ensures.kept known still in (r.0, c.pop-in-Err.ensures.keeps r.0 r.1, r.2, missing.0)

pub returns-in-Ok-clause-ran : goal.returns-in-Ok-clause-ran
returns-in-Ok-clause-ran g c =
    let C = g.C.Caller in
    let h = c.requires.table in
    let missing = (c.if-add_present.ensures.added h.0 h.1 h.2 h.3 h.4 h.5).1 refl in
    let t = (h.5).is_table in
    let e = c.bucket_of-bucket.ensures.same in
    let small = c.bucket_of-bucket.ensures.small in
    let same = c.add_present.ensures.own in
    let slot = slot_same (C.standing c.args.caller.now).own _ h.0 c.args.table h.1 h.2 same ((h.5).slot, t.object) in
    let within : c.bucket_of-bucket.result < length h.2 = omega (arith, t.size, small) in
    let value = get_or h.2 c.bucket_of-bucket.result datum.Null in
    let loaded = c.load.ensures.pushed h.0 h.1 h.2 missing.1 slot within ∙ ap (λ o. pushed o value) same in
    let words = key_words c.args.word.now + entry_words in
    let looked = ran_more C.base C.tells C.tells_known C.standing _ _ _ c.if-add_present.ensures.ran c.load.ensures.ran in
    let ran = ran_then C.base C.tells C.tells_known C.standing _ _ _ (0 + words) 0 (ran_then C.base C.tells C.tells_known C.standing _ _ _ 0 words looked c.in-Ok.ensures.ran) c.pop.ensures.ran in
    inr (ran_words C.base C.tells C.tells_known C.standing _ _ (0 + words + 0) words (omega arith) ran, c.pop.ensures.popped ∙ ap popped (c.in-Ok.ensures.own ∙ ap (λ o. having_made o 2) loaded) ∙ popped_having (C.standing c.args.caller.now).own value 2)

pub returns-in-Err-clause-ran_out : goal.returns-in-Err-clause-ran_out
returns-in-Err-clause-ran_out g c =
    let C = g.C.Caller in
    let h = c.requires.table in
    let missing = (c.if-add_present.ensures.added h.0 h.1 h.2 h.3 h.4 h.5).1 refl in
    let t = (h.5).is_table in
    let e = c.bucket_of-bucket.ensures.same in
    let small = c.bucket_of-bucket.ensures.small in
    let same = c.add_present.ensures.own in
    let slot = slot_same (C.standing c.args.caller.now).own _ h.0 c.args.table h.1 h.2 same ((h.5).slot, t.object) in
    let within : c.bucket_of-bucket.result < length h.2 = omega (arith, t.size, small) in
    let value = get_or h.2 c.bucket_of-bucket.result datum.Null in
    let loaded = c.load.ensures.pushed h.0 h.1 h.2 missing.1 slot within ∙ ap (λ o. pushed o value) same in
    let looked = ran_more C.base C.tells C.tells_known C.standing _ _ _ c.if-add_present.ensures.ran c.load.ensures.ran in
    ⊎_elim
    (λ x. inl (out_words C.base C.tells C.tells_known C.standing _ _ 0 0 _ refl (out_then C.base C.tells C.tells_known C.standing _ _ _ 0 _ (ran_out C.base C.tells C.tells_known C.standing _ _ _ 0 0 _ looked x.0) c.pop-in-Err.ensures.ran), c.pop-in-Err.ensures.popped ∙ ap popped (x.1 ∙ loaded) ∙ popped_pushed (C.standing c.args.caller.now).own value))
    (λ x. inr (out_words C.base C.tells C.tells_known C.standing _ _ (0 + key_words c.args.word.now) _ _ (omega arith) (out_then C.base C.tells C.tells_known C.standing _ _ _ (0 + key_words c.args.word.now) _ (ran_out C.base C.tells C.tells_known C.standing _ _ _ 0 (key_words c.args.word.now) _ looked x.0) c.pop-in-Err.ensures.ran), c.pop-in-Err.ensures.popped ∙ ap popped (x.1 ∙ ap (λ o. having_made o 1) loaded) ∙ popped_having (C.standing c.args.caller.now).own value 1))
    c.in-Err.ensures.ran_out

pub returns-then-add_present-clause-added : goal.returns-then-add_present-clause-added
returns-then-add_present-clause-added g c known name heads buckets k may =
    let both = (c.if-add_present.ensures.added known name heads buckets k may).0 refl in
    (both.0, after_raised (g.C.Caller.standing c.args.caller.now) c.args.word.now c.args.n (buckets (bucket_of c.args.word.now)) (both.0).links (λ lacks. lacks_count c.args.word.now (buckets (bucket_of c.args.word.now)) both.1.0 lacks both.1.1) (both.0).adds)

pub returns-then-add_present-clause-made : goal.returns-then-add_present-clause-made
returns-then-add_present-clause-made g c known name heads buckets k may =
    let there = ((c.if-add_present.ensures.added known name heads buckets k may).0 refl).1 in
    (λ m h. ap (λ (o : Thread). o.made) c.if-add_present.ensures.own, λ lacks. absurd (lacks_count c.args.word.now (buckets (bucket_of c.args.word.now)) there.0 lacks there.1))

pub returns-in-Ok-clause-made : goal.returns-in-Ok-clause-made
returns-in-Ok-clause-made g c known name heads buckets k may =
    let h = c.requires.table in
    let missing = (c.if-add_present.ensures.added known name heads buckets k may).1 refl in
    let t = may.is_table in
    let same = c.add_present.ensures.own in
    let slot = slot_same (g.C.Caller.standing c.args.caller.now).own _ known c.args.table name heads same (may.slot, t.object) in
    let within : c.bucket_of-bucket.result < length heads = omega (arith, t.size, c.bucket_of-bucket.ensures.small) in
    let value = get_or heads c.bucket_of-bucket.result datum.Null in
    let loaded = c.load.ensures.pushed known name heads missing.1 slot within ∙ ap (λ o. pushed o value) same in
    let own = c.pop.ensures.popped ∙ ap popped (c.in-Ok.ensures.own ∙ ap (λ o. having_made o 2) loaded) ∙ popped_having (g.C.Caller.standing c.args.caller.now).own value 2 in
    (λ m has. absurd (lacks_count c.args.word.now (buckets (bucket_of c.args.word.now)) m missing.0 has), λ _. ap (λ (o : Thread). o.made) own)

pub returns-then-add_present-clause-aside : goal.returns-then-add_present-clause-aside
returns-then-add_present-clause-aside g c known name heads buckets other k may ko lacks = c.if-add_present.ensures.aside known name heads buckets other k may ko lacks

pub returns-in-Ok-clause-aside : goal.returns-in-Ok-clause-aside
returns-in-Ok-clause-aside g c known name heads buckets other k may ko lacks =
    let missing = (c.if-add_present.ensures.added known name heads buckets k may).1 refl in
    let t = may.is_table in
    let b = bucket_of c.args.word.now in
    let e = c.bucket_of-bucket.ensures.same in
    let small = c.bucket_of-bucket.ensures.small in
    let bound : b < BUCKETS = omega (arith, e, small) in
    let same = c.add_present.ensures.own in
    let own = (g.C.Caller.standing c.args.caller.now).own in
    let value = get_or heads c.bucket_of-bucket.result datum.Null in
    let slot = slot_same own _ known c.args.table name heads same (may.slot, t.object) in
    let within : c.bucket_of-bucket.result < length heads = omega (arith, t.size, small) in
    let loaded = c.load.ensures.pushed known name heads missing.1 slot within ∙ ap (λ o. pushed o value) same in
    let there = slot_after own _ value known c.args.table name heads loaded (may.slot, t.object) in
    let still = c.load.ensures.keeps other (c.if-add_present.ensures.aside known name heads buckets other k may ko lacks) in
    let front = lacks_head other known value (buckets b) (subst (λ i. IsChain known (get_or heads i datum.Null) (buckets b)) (sym e) (t.chains b bound)) (lacks.links b bound) in
    let top = top_after own _ value c.args.top loaded c.requires.top in
    c.pop.ensures.keeps other (c.in-Ok.ensures.aside other still (lacks_as other (datum.Object name) _ (sym there.0) lacks.head) (lacks_as other value _ (sym top) front))

pub returns-in-Err-clause-left : goal.returns-in-Err-clause-left
returns-in-Err-clause-left g c known name heads buckets other k may ko lacks =
    let missing = (c.if-add_present.ensures.added known name heads buckets k may).1 refl in
    let t = may.is_table in
    let b = bucket_of c.args.word.now in
    let e = c.bucket_of-bucket.ensures.same in
    let small = c.bucket_of-bucket.ensures.small in
    let bound : b < BUCKETS = omega (arith, e, small) in
    let same = c.add_present.ensures.own in
    let own = (g.C.Caller.standing c.args.caller.now).own in
    let value = get_or heads c.bucket_of-bucket.result datum.Null in
    let slot = slot_same own _ known c.args.table name heads same (may.slot, t.object) in
    let within : c.bucket_of-bucket.result < length heads = omega (arith, t.size, small) in
    let loaded = c.load.ensures.pushed known name heads missing.1 slot within ∙ ap (λ o. pushed o value) same in
    let there = slot_after own _ value known c.args.table name heads loaded (may.slot, t.object) in
    let still = c.load.ensures.keeps other (c.if-add_present.ensures.aside known name heads buckets other k may ko lacks) in
    let s = g.C.Caller.standing c.args.caller.now in
    let next = next_same s (g.C.Caller.standing c.load.new.caller) (c.load.ensures.ran.since.thread ∙ c.if-add_present.ensures.ran.since.thread) (ap (λ (o : Thread). o.made) loaded) in
    elim (c.in-Err.ensures.left other still) [
      | inl h ↦ inl (c.pop-in-Err.ensures.keeps other h)
      | inr h ↦ inr (h.0, subst (λ n. g.C.Caller.knows c.pop-in-Err.new.caller (insert other n h.0)) next (c.pop-in-Err.ensures.keeps _ h.1))
    ]
