use Rattle.std.proofs.Common.{◌+◌, ap, subst, refl, arith, length, sym}
use Rattle.yak_model.specs.Graph.{Thread}
use Rattle.heap_tables.proofs.Effects.{slot_same, value_same}
use Rattle.yak_model.specs.Tables.{entry_fields}
use Rattle.heap_tables.specs.Adds.{with_count}
use Rattle.heap_tables.proofs.Asides.{lacks_as}
use Rattle.heap_tables.proofs.tables.raise.Goals as goal

pub field_int-count-requires-clause-field : goal.field_int-count-requires-clause-field
field_int-count-requires-clause-field g c =
    let h = c.requires.entry in
    (h.0, (h.2).entry, entry_fields h.1 (h.2).key (h.2).count, h.3, (h.4.0, h.4.1.0), omega arith)

pub overflow_add-count : goal.overflow_add-count
overflow_add-count g c =
    let h = c.requires.entry in
    let e = c.field_int-count.ensures.value h.0 (h.2).entry (entry_fields h.1 (h.2).key (h.2).count) (h.2).count h.3 (h.4.0, h.4.1.0) (omega arith) refl in
    omega (arith, e, h.5)

pub put_int-requires-clause-field : goal.put_int-requires-clause-field
put_int-requires-clause-field g c =
    let h = c.requires.entry in
    let fields = entry_fields h.1 (h.2).key (h.2).count in
    (h.0, (h.2).entry, fields, c.field_int-count.ensures.keeps h.0 h.3, slot_same _ _ h.0 c.args.entry (h.2).entry fields c.field_int-count.ensures.own (h.4.0, h.4.1.0), omega arith)

pub put_int-requires-clause-room : goal.put_int-requires-clause-room
put_int-requires-clause-room g c = omega (arith, c.requires.room, ap (λ (o : Thread). length o.stack) c.field_int-count.ensures.own)

pub put_int-requires-clause-top : goal.put_int-requires-clause-top
put_int-requires-clause-top g c = omega (arith, c.requires.top, ap (λ (o : Thread). length o.stack) c.field_int-count.ensures.own)

pub returns-clause-raised : goal.returns-clause-raised
returns-clause-raised g c known next link k slot =
    let fields = entry_fields next link.key link.count in
    let e = c.field_int-count.ensures.value known link.entry fields link.count k (slot.0, slot.1.0) (omega arith) refl in
    subst (λ m. g.C.Caller.knows c.put_int.new.caller (with_count known next link (m + c.args.n))) e
    (c.put_int.ensures.stored known link.entry fields (c.field_int-count.ensures.keeps known k) (slot_same _ _ known c.args.entry link.entry fields c.field_int-count.ensures.own (slot.0, slot.1.0)) (omega arith))

pub put_int-requires-clause-number : goal.put_int-requires-clause-number
put_int-requires-clause-number g c =
    let h = c.requires.entry in
    let e = c.field_int-count.ensures.value h.0 (h.2).entry (entry_fields h.1 (h.2).key (h.2).count) (h.2).count h.3 (h.4.0, h.4.1.0) (omega arith) refl in
    omega (arith, e, h.5)

pub returns-clause-aside : goal.returns-clause-aside
returns-clause-aside g c other k lacks =
    c.put_int.ensures.aside other (c.field_int-count.ensures.keeps other k) (lacks_as other _ _ (sym (value_same _ _ c.args.entry c.field_int-count.ensures.own)) lacks)
