use Rattle.std.proofs.Common.{◌∙◌, ap, sym, subst, refl, arith, length, true≢false}
use Rattle.yak_model.specs.Graph.{Thread}
use Rattle.yak_model.specs.Tables.{entry_fields}
use Rattle.heap_tables.specs.Reads.{AreShort}
use Rattle.heap_tables.specs.Runs.{slot_in}
use Rattle.heap_tables.proofs.Effects.{value_same}
use Rattle.heap_tables.proofs.RunOn.{ran_more}
use Rattle.heap_tables.proofs.Sought.{chain_front, first_of_links, took_none, took_some}
use Rattle.heap_tables.proofs.reading.read_entry.Goals as goal

pub slot_is_null-requires-clause-some : goal.slot_is_null-requires-clause-some
slot_is_null-requires-clause-some g c =
    let h = c.requires.chain in (h.0, h.2)

pub returns-then-slot_is_null-clause-took : goal.returns-then-slot_is_null-clause-took
returns-then-slot_is_null-clause-took g c known links k chain = took_none links _ (sym (chain_front known _ links chain) ∙ c.if-slot_is_null.ensures.answer.0 refl)

pub entry_word-size-requires-clause-entry : goal.entry_word-size-requires-clause-entry
entry_word-size-requires-clause-entry g c =
    let h = c.requires.chain in
    let slot = slot_in (g.C.Caller.standing c.args.caller.now) c.args.entry in
    let f = first_of_links h.0 slot h.1 h.3 (λ null. true≢false (sym (c.if-slot_is_null.ensures.answer.1 null))) in
    let kept = c.slot_is_null.ensures.keeps h.0 h.2 in
    let there = value_same _ _ c.args.entry c.slot_is_null.ensures.own ∙ f.4 in
    (h.0, f.2, f.0, kept, (there, f.5), (subst AreShort f.3 h.4).0)

pub entry_word-size-requires-clause-room : goal.entry_word-size-requires-clause-room
entry_word-size-requires-clause-room g c =
    omega (arith, c.requires.room, ap (λ (o : Thread). length o.stack) c.slot_is_null.ensures.own)

pub entry_word-size-requires-clause-top : goal.entry_word-size-requires-clause-top
entry_word-size-requires-clause-top g c =
    omega (arith, c.requires.top, ap (λ (o : Thread). length o.stack) c.slot_is_null.ensures.own)

pub field_int-count-requires-clause-field : goal.field_int-count-requires-clause-field
field_int-count-requires-clause-field g c =
    let h = c.requires.chain in
    let slot = slot_in (g.C.Caller.standing c.args.caller.now) c.args.entry in
    let f = first_of_links h.0 slot h.1 h.3 (λ null. true≢false (sym (c.if-slot_is_null.ensures.answer.1 null))) in
    let kept = c.slot_is_null.ensures.keeps h.0 h.2 in
    let there = value_same _ _ c.args.entry c.slot_is_null.ensures.own ∙ f.4 in
    (h.0, (f.0).entry, entry_fields f.2 (f.0).key (f.0).count, c.entry_word-size.ensures.keeps h.0 kept, (value_same _ _ c.args.entry c.entry_word-size.ensures.own ∙ there, f.5.0), omega arith)

pub field_int-count-requires-clause-room : goal.field_int-count-requires-clause-room
field_int-count-requires-clause-room g c =
    omega (arith, c.requires.room, ap (λ (o : Thread). length o.stack) (c.entry_word-size.ensures.own ∙ c.slot_is_null.ensures.own))

pub field_int-count-requires-clause-top : goal.field_int-count-requires-clause-top
field_int-count-requires-clause-top g c =
    omega (arith, c.requires.top, ap (λ (o : Thread). length o.stack) (c.entry_word-size.ensures.own ∙ c.slot_is_null.ensures.own))

pub returns-clause-ran : goal.returns-clause-ran
returns-clause-ran g c =
    let C = g.C.Caller in
    let up = ran_more C.base C.tells C.tells_known C.standing _ _ _ c.if-slot_is_null.ensures.ran c.entry_word-size.ensures.ran in
    ran_more C.base C.tells C.tells_known C.standing _ _ _ up c.field_int-count.ensures.ran

pub returns-clause-took : goal.returns-clause-took
returns-clause-took g c known links k chain =
    let h = c.requires.chain in
    let slot = slot_in (g.C.Caller.standing c.args.caller.now) c.args.entry in
    let f = first_of_links known slot links chain (λ null. true≢false (sym (c.if-slot_is_null.ensures.answer.1 null))) in
    let kept = c.slot_is_null.ensures.keeps known k in
    let there = value_same _ _ c.args.entry c.slot_is_null.ensures.own ∙ f.4 in
    let copied = c.entry_word-size.ensures.copied known f.2 f.0 kept (there, f.5) in
    let count = c.field_int-count.ensures.value known (f.0).entry (entry_fields f.2 (f.0).key (f.0).count) (f.0).count (c.entry_word-size.ensures.keeps known kept) (value_same _ _ c.args.entry c.entry_word-size.ensures.own ∙ there, f.5.0) (omega arith) refl in
    took_some links f.1 f.0 c.entry_word-size.result c.field_int-count.result _ f.3 copied count
