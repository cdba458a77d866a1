use Rattle.std.proofs.Common.{◌+◌, ◌∙◌, ap, sym, arith, length, true≢false}
use Rattle.yak_model.specs.Graph.{Thread}
use Rattle.yak_model.specs.declared.datum.Datum.TheVariants as datum
use Rattle.yak_model.specs.Tables.{entry_fields}
use Rattle.heap_tables.specs.Runs.{popped, pushed}
use Rattle.heap_tables.proofs.Effects.{popped_pushed, size_after, top_after, value_same}
use Rattle.heap_tables.proofs.Laid.{lays_end, lays_more}
use Rattle.heap_tables.proofs.RunOn.{ran_more}
use Rattle.heap_tables.proofs.Sought.{first_of_links}
use Rattle.heap_tables.proofs.layouts.lay_next.Goals as goal

pub returns-then-not-try_load-clause-laid : goal.returns-then-not-try_load-clause-laid
returns-then-not-try_load-clause-laid g c known links k chain =
    lays_end (g.C.Caller.standing c.args.caller.now).own _ known _ links chain (λ null. (c.if-not-try_load.ensures.null null).1)
    (λ next link head entry. true≢false (sym (c.if-not-try_load.ensures.pushed known link.entry (entry_fields next link.key link.count) k (head, entry.0) (omega arith)).0))

pub first_group-requires-clause-key : goal.first_group-requires-clause-key
first_group-requires-clause-key g c =
    let h = c.requires.chain in
    let f = first_of_links h.0 _ h.1 h.3 (λ null. true≢false (c.if-not-try_load.ensures.null null).0) in
    let e = (c.if-not-try_load.ensures.pushed h.0 (f.0).entry (entry_fields f.2 (f.0).key (f.0).count) h.2 (f.4, f.5.0) (omega arith)).1 in
    (h.0, (f.0).key, (f.0).word, c.if-not-try_load.ensures.keeps h.0 h.2, (top_after (g.C.Caller.standing c.args.caller.now).own _ (datum.Object (f.0).key) (c.args.at + 1) e c.requires.top, f.5.1))

pub first_group-requires-clause-room : goal.first_group-requires-clause-room
first_group-requires-clause-room g c =
    let h = c.requires.chain in
    let f = first_of_links h.0 _ h.1 h.3 (λ null. true≢false (c.if-not-try_load.ensures.null null).0) in
    let e = (c.if-not-try_load.ensures.pushed h.0 (f.0).entry (entry_fields f.2 (f.0).key (f.0).count) h.2 (f.4, f.5.0) (omega arith)).1 in
    omega (arith, c.requires.room, size_after (g.C.Caller.standing c.args.caller.now).own _ (datum.Object (f.0).key) e)

pub first_group-requires-clause-top : goal.first_group-requires-clause-top
first_group-requires-clause-top g c =
    let h = c.requires.chain in
    let f = first_of_links h.0 _ h.1 h.3 (λ null. true≢false (c.if-not-try_load.ensures.null null).0) in
    let e = (c.if-not-try_load.ensures.pushed h.0 (f.0).entry (entry_fields f.2 (f.0).key (f.0).count) h.2 (f.4, f.5.0) (omega arith)).1 in
    omega (arith, c.requires.top, size_after (g.C.Caller.standing c.args.caller.now).own _ (datum.Object (f.0).key) e)

pub pop-requires-clause-some : goal.pop-requires-clause-some
pop-requires-clause-some g c = let h = c.requires.chain in (h.0, c.first_group.ensures.keeps h.0 (c.if-not-try_load.ensures.keeps h.0 h.2))

pub pop-requires-clause-slot : goal.pop-requires-clause-slot
pop-requires-clause-slot g c =
    let h = c.requires.chain in
    let f = first_of_links h.0 _ h.1 h.3 (λ null. true≢false (c.if-not-try_load.ensures.null null).0) in
    let e = (c.if-not-try_load.ensures.pushed h.0 (f.0).entry (entry_fields f.2 (f.0).key (f.0).count) h.2 (f.4, f.5.0) (omega arith)).1 in
    omega (arith, size_after (g.C.Caller.standing c.args.caller.now).own _ (datum.Object (f.0).key) (c.first_group.ensures.own ∙ e))

pub load-requires-clause-field : goal.load-requires-clause-field
load-requires-clause-field g c =
    let h = c.requires.chain in
    let f = first_of_links h.0 _ h.1 h.3 (λ null. true≢false (c.if-not-try_load.ensures.null null).0) in
    let e = (c.if-not-try_load.ensures.pushed h.0 (f.0).entry (entry_fields f.2 (f.0).key (f.0).count) h.2 (f.4, f.5.0) (omega arith)).1 in
    let same = c.pop.ensures.popped ∙ ap popped (c.first_group.ensures.own ∙ e) ∙ popped_pushed _ _ in
    (h.0, (f.0).entry, entry_fields f.2 (f.0).key (f.0).count, c.pop.ensures.keeps h.0 (c.first_group.ensures.keeps h.0 (c.if-not-try_load.ensures.keeps h.0 h.2)), (value_same (g.C.Caller.standing c.args.caller.now).own _ c.args.at same ∙ f.4, f.5.0), omega arith)

pub load-requires-clause-room : goal.load-requires-clause-room
load-requires-clause-room g c =
    let h = c.requires.chain in
    let f = first_of_links h.0 _ h.1 h.3 (λ null. true≢false (c.if-not-try_load.ensures.null null).0) in
    let e = (c.if-not-try_load.ensures.pushed h.0 (f.0).entry (entry_fields f.2 (f.0).key (f.0).count) h.2 (f.4, f.5.0) (omega arith)).1 in
    let same = c.pop.ensures.popped ∙ ap popped (c.first_group.ensures.own ∙ e) ∙ popped_pushed _ _ in
    omega (arith, c.requires.room, ap (λ (o : Thread). length o.stack) same)

pub returns-clause-ran : goal.returns-clause-ran
returns-clause-ran g c = let C = g.C.Caller in ran_more C.base C.tells C.tells_known C.standing _ _ _ (ran_more C.base C.tells C.tells_known C.standing _ _ _ (ran_more C.base C.tells C.tells_known C.standing _ _ _ c.if-not-try_load.ensures.ran c.first_group.ensures.ran) c.pop.ensures.ran) c.load.ensures.ran

pub returns-clause-laid : goal.returns-clause-laid
returns-clause-laid g c known links k chain =
    let h = c.requires.chain in
    let f = first_of_links h.0 _ h.1 h.3 (λ null. true≢false (c.if-not-try_load.ensures.null null).0) in
    let e = (c.if-not-try_load.ensures.pushed h.0 (f.0).entry (entry_fields f.2 (f.0).key (f.0).count) h.2 (f.4, f.5.0) (omega arith)).1 in
    let same = c.pop.ensures.popped ∙ ap popped (c.first_group.ensures.own ∙ e) ∙ popped_pushed _ _ in
    lays_more (g.C.Caller.standing c.args.caller.now).own _ known _ links chain (λ null. true≢false (c.if-not-try_load.ensures.null null).0)
    (λ next link head entry.
    let kept = c.pop.ensures.keeps known (c.first_group.ensures.keeps known (c.if-not-try_load.ensures.keeps known k)) in
    let on = c.load.ensures.pushed known link.entry (entry_fields next link.key link.count) kept (value_same (g.C.Caller.standing c.args.caller.now).own _ c.args.at same ∙ head, entry.0) (omega arith) in
    on ∙ ap (λ o. pushed o next) same)
