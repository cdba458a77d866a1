use Rattle.std.proofs.Common.{◌∙◌, ap, arith}
use Rattle.yak_model.specs.declared.datum.Datum.TheVariants as datum
use Rattle.yak_model.specs.Tables.{entry_fields}
use Rattle.heap_tables.specs.Runs.{popped}
use Rattle.heap_tables.proofs.Effects.{popped_pushed, size_after, top_after}
use Rattle.heap_tables.proofs.RunOn.{ran_more}
use Rattle.heap_tables.proofs.layouts.is_entry_of.Goals as goal

pub load-requires-clause-field : goal.load-requires-clause-field
load-requires-clause-field g c = let h = c.requires.entry in (h.0, (h.2).entry, entry_fields h.1 (h.2).key (h.2).count, h.3, (h.4.0, h.4.1.0), omega arith)

pub is_key-same-requires-clause-key : goal.is_key-same-requires-clause-key
is_key-same-requires-clause-key g c =
    let h = c.requires.entry in
    let e = c.load.ensures.pushed h.0 (h.2).entry (entry_fields h.1 (h.2).key (h.2).count) h.3 (h.4.0, h.4.1.0) (omega arith) in
    (h.0, (h.2).key, (h.2).word, c.load.ensures.keeps h.0 h.3, (top_after (g.C.Caller.standing c.args.caller.now).own _ (datum.Object (h.2).key) c.args.top e c.requires.top, h.4.1.1))

pub is_key-same-requires-clause-room : goal.is_key-same-requires-clause-room
is_key-same-requires-clause-room g c =
    let h = c.requires.entry in
    let e = c.load.ensures.pushed h.0 (h.2).entry (entry_fields h.1 (h.2).key (h.2).count) h.3 (h.4.0, h.4.1.0) (omega arith) in
    omega (arith, c.requires.room, size_after (g.C.Caller.standing c.args.caller.now).own _ (datum.Object (h.2).key) e)

pub is_key-same-requires-clause-top : goal.is_key-same-requires-clause-top
is_key-same-requires-clause-top g c =
    let h = c.requires.entry in
    let e = c.load.ensures.pushed h.0 (h.2).entry (entry_fields h.1 (h.2).key (h.2).count) h.3 (h.4.0, h.4.1.0) (omega arith) in
    omega (arith, c.requires.top, size_after (g.C.Caller.standing c.args.caller.now).own _ (datum.Object (h.2).key) e)

pub pop-requires-clause-some : goal.pop-requires-clause-some
pop-requires-clause-some g c = let h = c.requires.entry in (h.0, c.is_key-same.ensures.keeps h.0 (c.load.ensures.keeps h.0 h.3))

pub pop-requires-clause-slot : goal.pop-requires-clause-slot
pop-requires-clause-slot g c =
    let h = c.requires.entry in
    let e = c.load.ensures.pushed h.0 (h.2).entry (entry_fields h.1 (h.2).key (h.2).count) h.3 (h.4.0, h.4.1.0) (omega arith) in
    omega (arith, size_after (g.C.Caller.standing c.args.caller.now).own _ (datum.Object (h.2).key) (c.is_key-same.ensures.own ∙ e))

pub returns-clause-ran : goal.returns-clause-ran
returns-clause-ran g c = let C = g.C.Caller in ran_more C.base C.tells C.tells_known C.standing _ _ _ (ran_more C.base C.tells C.tells_known C.standing _ _ _ c.load.ensures.ran c.is_key-same.ensures.ran) c.pop.ensures.ran

pub returns-clause-own : goal.returns-clause-own
returns-clause-own g c =
    let h = c.requires.entry in
    let e = c.load.ensures.pushed h.0 (h.2).entry (entry_fields h.1 (h.2).key (h.2).count) h.3 (h.4.0, h.4.1.0) (omega arith) in
    c.pop.ensures.popped ∙ ap popped (c.is_key-same.ensures.own ∙ e) ∙ popped_pushed _ _

pub returns-clause-answer : goal.returns-clause-answer
returns-clause-answer g c known next link k at said =
    let e = c.load.ensures.pushed known link.entry (entry_fields next link.key link.count) k (at.0, at.1.0) (omega arith) in
    (c.is_key-same.ensures.answer known link.key link.word (c.load.ensures.keeps known k) (top_after (g.C.Caller.standing c.args.caller.now).own _ (datum.Object link.key) c.args.top e c.requires.top, at.1.1)).0 said
