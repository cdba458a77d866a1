use Rattle.std.proofs.Common.{◌∙◌, ap, sym, refl, arith, length, get_or, subst}
use Rattle.yak_model.specs.Graph.{Thread}
use Rattle.yak_model.specs.Tables.{bucket_of}
use Rattle.heap_tables.specs.Adds.{having_made}
use Rattle.heap_tables.specs.Merges.{AreSlots, done_at}
use Rattle.heap_tables.proofs.RaisedCounts.{lacks_count, lacks_none, bucket_small}
use Rattle.heap_tables.proofs.Effects.{value_same}
use Rattle.heap_tables.proofs.OnResult.{err_map, ok_both, ok_map, err_both, ok_three, err_three}
use Rattle.heap_tables.proofs.RunOn.{then_out, then_ran}
use Rattle.heap_tables.proofs.Untouched.{get_now, goes_new, goes_present, is_share, length_walk, may_merge, merged_as, merged_step, shared_now, shares_present, stops_here, from_lacks}
use Rattle.heap_tables.proofs.Asides.{lacks_at, lacks_head, lacks_raised, none_known}
use Rattle.heap_tables.specs.Asides.{LacksLinks}
use Rattle.heap_tables.specs.Runs.{next_of}
use Rattle.yak_model.specs.declared.datum.Datum.TheVariants as datum
use Rattle.heap_tables.proofs.merging.add_entry.Goals as goal

pub add_present-requires-clause-table : goal.add_present-requires-clause-table
add_present-requires-clause-table g c =
    let C = g.C.Caller in
    let s = C.standing c.args.caller.now in
    let h = c.requires.tables in
    let m = h.0 in
    let is = h.1 in
    let link = h.2 in
    let rest = h.3 in
    let slots = h.4 in
    let d = h.5 in
    let at = h.6 in
    let b = c.args.bucket in
    let p = c.args.place in
    let word = c.args.word.now in
    let n = c.args.n in
    let may = may_merge s c.args.into m is b p (C.knows c.args.caller.now) d c.requires.bucket (omega (arith, c.ranges.place)) (length_walk m.buckets is.from_few b (omega (arith, c.requires.bucket))) slots.1 word n link rest at in
    let table = d.into_table in
    (d.after, m.into_name, table.heads, table.buckets, d.known_now, may)

pub returns-then-add_present-clause-added : goal.returns-then-add_present-clause-added
returns-then-add_present-clause-added g c m is link rest slots d at =
    let C = g.C.Caller in
    let s = C.standing c.args.caller.now in
    let b = c.args.bucket in
    let p = c.args.place in
    let word = c.args.word.now in
    let n = c.args.n in
    let may = may_merge s c.args.into m is b p (C.knows c.args.caller.now) d c.requires.bucket (omega (arith, c.ranges.place)) (length_walk m.buckets is.from_few b (omega (arith, c.requires.bucket))) slots.1 word n link rest at in
    let table = d.into_table in
    let a = (c.if-add_present.ensures.added d.after m.into_name table.heads table.buckets d.known_now may).0 refl in
    let merged = merged_step m is (done_at m.buckets b p) (C.knows c.args.caller.now) d word n link at.1 at.2 (C.knows c.add_present.new.caller) a.0 (shares_present word n link (table.buckets (bucket_of word)) (a.0).links at.1 at.2 (λ lacks. lacks_count word (table.buckets (bucket_of word)) a.1.0 lacks a.1.1) (a.0).adds)
    (λ other has. (
      c.if-add_present.ensures.aside d.after m.into_name table.heads table.buckets other d.known_now may (d.others_known other has) (d.aside other has),
      lacks_raised other word n (table.buckets (bucket_of word)) (a.0).links (λ lacks. lacks_count word (table.buckets (bucket_of word)) a.1.0 lacks a.1.1) (a.0).adds ((d.aside other has).links (bucket_of word) (bucket_small word)),
    )) in
    goes_present C.base C.tells C.tells_known C.standing m is b p word n link rest at c.args.caller.now c.add_present.new.caller (C.knows c.add_present.new.caller) merged
    (λ none. lacks_count word (table.buckets (bucket_of word)) a.1.0 (table.absent word (get_now m is b p c.requires.bucket (C.knows c.args.caller.now) d word link at.1 ∙ none)) a.1.1)
    c.add_present.ensures.ran c.add_present.ensures.own

pub share-added-requires-clause-number : goal.share-added-requires-clause-number
share-added-requires-clause-number g c =
    let C = g.C.Caller in
    let s = C.standing c.args.caller.now in
    let h = c.requires.tables in
    let m = h.0 in
    let is = h.1 in
    let link = h.2 in
    let rest = h.3 in
    let slots = h.4 in
    let d = h.5 in
    let at = h.6 in
    let b = c.args.bucket in
    let p = c.args.place in
    let word = c.args.word.now in
    let n = c.args.n in
    let may = may_merge s c.args.into m is b p (C.knows c.args.caller.now) d c.requires.bucket (omega (arith, c.ranges.place)) (length_walk m.buckets is.from_few b (omega (arith, c.requires.bucket))) slots.1 word n link rest at in
    let table = d.into_table in
    may.number

pub share-added-requires-clause-tables : goal.share-added-requires-clause-tables
share-added-requires-clause-tables g c =
    let C = g.C.Caller in
    let s = C.standing c.args.caller.now in
    let h = c.requires.tables in
    let m = h.0 in
    let is = h.1 in
    let link = h.2 in
    let rest = h.3 in
    let slots = h.4 in
    let d = h.5 in
    let at = h.6 in
    let b = c.args.bucket in
    let p = c.args.place in
    let word = c.args.word.now in
    let n = c.args.n in
    let may = may_merge s c.args.into m is b p (C.knows c.args.caller.now) d c.requires.bucket (omega (arith, c.ranges.place)) (length_walk m.buckets is.from_few b (omega (arith, c.requires.bucket))) slots.1 word n link rest at in
    let table = d.into_table in
    let missing = (c.if-add_present.ensures.added d.after m.into_name table.heads table.buckets d.known_now may).1 refl in
    let own = c.add_present.ensures.own in
    let now_slots : AreSlots (C.standing c.add_present.new.caller) c.args.from c.args.into m = (value_same s.own _ c.args.from own ∙ slots.0, value_same s.own _ c.args.into own ∙ slots.1) in
    let shares = is_share m is b p c.requires.bucket (C.knows c.args.caller.now) d (C.standing c.add_present.new.caller) c.args.from c.args.into now_slots link rest at.0 in
    (d.after, m.from_name, m.into_name, m.heads, table.heads, m.buckets b, link, rest, missing.1, shares)

pub share-added-requires-clause-names : goal.share-added-requires-clause-names
share-added-requires-clause-names g c =
    omega (arith, c.requires.names, ap (λ (o : Thread). o.made) c.add_present.ensures.own)

pub share-added-requires-clause-room : goal.share-added-requires-clause-room
share-added-requires-clause-room g c =
    omega (arith, c.requires.room, ap (λ (o : Thread). length o.stack) c.add_present.ensures.own)

pub share-added-requires-clause-top : goal.share-added-requires-clause-top
share-added-requires-clause-top g c =
    omega (arith, c.requires.top, ap (λ (o : Thread). length o.stack) c.add_present.ensures.own)

pub returns-then-is_ok-clause-added : goal.returns-then-is_ok-clause-added
returns-then-is_ok-clause-added g c =
    let C = g.C.Caller in
    let s = C.standing c.args.caller.now in
    ok_map c.share-added.result _ _
    (λ all m is link rest slots d at.
    let b = c.args.bucket in
    let p = c.args.place in
    let word = c.args.word.now in
    let n = c.args.n in
    let may = may_merge s c.args.into m is b p (C.knows c.args.caller.now) d c.requires.bucket (omega (arith, c.ranges.place)) (length_walk m.buckets is.from_few b (omega (arith, c.requires.bucket))) slots.1 word n link rest at in
    let table = d.into_table in
    let missing = (c.if-add_present.ensures.added d.after m.into_name table.heads table.buckets d.known_now may).1 refl in
    let own = c.add_present.ensures.own in
    let now_slots : AreSlots (C.standing c.add_present.new.caller) c.args.from c.args.into m = (value_same s.own _ c.args.from own ∙ slots.0, value_same s.own _ c.args.into own ∙ slots.1) in
    let shares = is_share m is b p c.requires.bucket (C.knows c.args.caller.now) d (C.standing c.add_present.new.caller) c.args.from c.args.into now_slots link rest at.0 in
    let sh = all.0 d.after m.from_name m.into_name m.heads table.heads (m.buckets b) link rest missing.1 shares in
    let mid = C.standing c.add_present.new.caller in
    let added = shared_now m is b p c.requires.bucket (C.knows c.args.caller.now) d word n link rest at missing.0 mid sh.1 (C.knows c.share-added.new.caller) sh.0 in
    let merged = merged_step m is (done_at m.buckets b p) (C.knows c.args.caller.now) d word n link at.1 at.2 (C.knows c.share-added.new.caller) added.0.0 added.0.1
    (λ other has.
    let lacks = d.aside other has in
    let still = c.if-add_present.ensures.aside d.after m.into_name table.heads table.buckets other d.known_now may (d.others_known other has) lacks in
    let front = lacks_head other d.after (get_or table.heads b datum.Null) (table.buckets b) ((table.table).chains b c.requires.bucket) (lacks.links b c.requires.bucket) in
    let from = from_lacks m is b c.requires.bucket other has in
    let r = all.1 d.after m.from_name m.into_name m.heads table.heads (m.buckets b) link rest other missing.1 shares still from lacks.head front in
    (r.0, subst (LacksLinks other) (sym added.1) (λ h. none_known other (next_of mid) r.1 h, lacks_at other p (m.buckets b) rest link at.0 from.1, lacks.links (bucket_of word) (bucket_small word)))) in
    let absent = sym (get_now m is b p c.requires.bucket (C.knows c.args.caller.now) d word link at.1) ∙ lacks_none d.after m.into_name d.counts table word missing.0 in
    goes_new C.base C.tells C.tells_known C.standing m is b p word n link rest at c.args.caller.now c.share-added.new.caller (C.knows c.share-added.new.caller) merged absent
    (then_ran C.base C.tells C.tells_known C.standing _ _ _ _ c.add_present.ensures.ran all.2.0) (all.2.1 ∙ ap (λ o. having_made o 1) own))
    (ok_three c.share-added.result _ _ _ c.share-added.ensures.shared c.share-added.ensures.aside (ok_both c.share-added.result _ _ c.share-added.ensures.ran c.share-added.ensures.own))

pub returns-else-is_ok-clause-stopped : goal.returns-else-is_ok-clause-stopped
returns-else-is_ok-clause-stopped g c =
    let C = g.C.Caller in
    let s = C.standing c.args.caller.now in
    err_map c.share-added.result _ _
    (λ all m is link rest slots d at.
    let b = c.args.bucket in
    let p = c.args.place in
    let word = c.args.word.now in
    let n = c.args.n in
    let may = may_merge s c.args.into m is b p (C.knows c.args.caller.now) d c.requires.bucket (omega (arith, c.ranges.place)) (length_walk m.buckets is.from_few b (omega (arith, c.requires.bucket))) slots.1 word n link rest at in
    let table = d.into_table in
    let missing = (c.if-add_present.ensures.added d.after m.into_name table.heads table.buckets d.known_now may).1 refl in
    let own = c.add_present.ensures.own in
    let now_slots : AreSlots (C.standing c.add_present.new.caller) c.args.from c.args.into m = (value_same s.own _ c.args.from own ∙ slots.0, value_same s.own _ c.args.into own ∙ slots.1) in
    let shares = is_share m is b p c.requires.bucket (C.knows c.args.caller.now) d (C.standing c.add_present.new.caller) c.args.from c.args.into now_slots link rest at.0 in
    let kept = all.0 d.after m.from_name m.into_name m.heads table.heads (m.buckets b) link rest missing.1 shares in
    let absent = sym (get_now m is b p c.requires.bucket (C.knows c.args.caller.now) d word link at.1) ∙ lacks_none d.after m.into_name d.counts table word missing.0 in
    stops_here C.base C.tells C.tells_known C.standing m is b p word n link rest c.requires.bucket at c.args.caller.now c.share-added.new.caller (C.knows c.share-added.new.caller)
    (merged_as m is (done_at m.buckets b p) (C.knows c.args.caller.now) (C.knows c.share-added.new.caller) d kept (λ other has. all.1 d.after m.from_name m.into_name m.heads table.heads (m.buckets b) link rest other missing.1 shares (c.if-add_present.ensures.aside d.after m.into_name table.heads table.buckets other d.known_now may (d.others_known other has) (d.aside other has)) (from_lacks m is b c.requires.bucket other has))) absent
    (then_out C.base C.tells C.tells_known C.standing _ _ _ _ _ c.add_present.ensures.ran all.2.0) (all.2.1 ∙ own))
    (err_three c.share-added.result _ _ _ c.share-added.ensures.kept c.share-added.ensures.left (err_both c.share-added.result _ _ c.share-added.ensures.ran_out c.share-added.ensures.same))
