use Rattle.std.proofs.Common.{◌≡◌, ◌+◌, ◌∙◌, ap, sym, arith, length, get_or, subst}
use Rattle.std.specs.FinMap.{get}
use Rattle.yak_model.specs.Graph.{Thread}
use Rattle.yak_model.specs.Room.{entry_words}
use Rattle.yak_model.specs.declared.datum.Datum.TheVariants as datum
use Rattle.yak_model.specs.Tables.{entry_fields}
use Rattle.heap_tables.specs.Adds.{having_made, with_fields}
use Rattle.heap_tables.specs.Runs.{KnowsSome, next_of, popped, pushed, slot_in}
use Rattle.heap_tables.proofs.Effects.{length-take_pop, popped_pushed, size_after, slot_after, slot_below, top_after}
use Rattle.heap_tables.proofs.Linked.{popped_having, shared_map}
use Rattle.heap_tables.proofs.OnResult.{either, ok_map, err_map}
use Rattle.heap_tables.proofs.RunOn.{next_same, ran_end, ran_more, out_then, then_out, then_ran}
use Rattle.heap_tables.proofs.Asides.{lacks_as, shared_back}
use Rattle.yak_model.specs.Private.{LosesAll}
use Rattle.heap_tables.proofs.merging.share_key.Goals as goal

pub load-requires-clause-field : goal.load-requires-clause-field
load-requires-clause-field g c =
    let h = c.requires.entry in (h.0, h.1, h.2, h.5, h.6, h.7)

pub load-requires-2-clause-field : goal.load-requires-2-clause-field
load-requires-2-clause-field g c =
    let C = g.C.Caller in
    let s = C.standing c.args.caller.now in
    let h = c.requires.entry in
    let front = get_or h.2 c.args.bucket datum.Null in
    let key = datum.Object (h.4).key in
    let fields = entry_fields h.3 (h.4).key (h.4).count in
    let e1 = c.load.ensures.pushed h.0 h.1 h.2 h.5 h.6 h.7 in
    let k1 = c.load.ensures.keeps h.0 h.5 in
    let at1 = slot_after s.own _ front h.0 c.args.entry (h.4).entry fields e1 (h.8.0, h.8.1.0) in
    let into1 = slot_after s.own _ front h.0 c.args.into h.1 h.2 e1 h.6 in
    let size1 = size_after s.own _ front e1 in
    (h.0, (h.4).entry, fields, k1, at1, omega arith)

pub load-requires-2-clause-room : goal.load-requires-2-clause-room
load-requires-2-clause-room g c =
    let C = g.C.Caller in
    let s = C.standing c.args.caller.now in
    let h = c.requires.entry in
    let front = get_or h.2 c.args.bucket datum.Null in
    let key = datum.Object (h.4).key in
    let fields = entry_fields h.3 (h.4).key (h.4).count in
    let e1 = c.load.ensures.pushed h.0 h.1 h.2 h.5 h.6 h.7 in
    let k1 = c.load.ensures.keeps h.0 h.5 in
    let at1 = slot_after s.own _ front h.0 c.args.entry (h.4).entry fields e1 (h.8.0, h.8.1.0) in
    let into1 = slot_after s.own _ front h.0 c.args.into h.1 h.2 e1 h.6 in
    let size1 = size_after s.own _ front e1 in
    omega (arith, c.requires.room, size1)

pub link_new-linked-requires-clause-table : goal.link_new-linked-requires-clause-table
link_new-linked-requires-clause-table g c =
    let C = g.C.Caller in
    let s = C.standing c.args.caller.now in
    let h = c.requires.entry in
    let front = get_or h.2 c.args.bucket datum.Null in
    let key = datum.Object (h.4).key in
    let fields = entry_fields h.3 (h.4).key (h.4).count in
    let e1 = c.load.ensures.pushed h.0 h.1 h.2 h.5 h.6 h.7 in
    let k1 = c.load.ensures.keeps h.0 h.5 in
    let at1 = slot_after s.own _ front h.0 c.args.entry (h.4).entry fields e1 (h.8.0, h.8.1.0) in
    let into1 = slot_after s.own _ front h.0 c.args.into h.1 h.2 e1 h.6 in
    let size1 = size_after s.own _ front e1 in
    let e2 = c.load-2.ensures.pushed h.0 (h.4).entry fields k1 at1 (omega arith) in
    let k2 = c.load-2.ensures.keeps h.0 k1 in
    let into2 = slot_after _ _ key h.0 c.args.into h.1 h.2 e2 into1 in
    let size2 = size_after (C.standing c.load.new.caller).own _ key e2 in
    (h.0, h.1, h.2, k2, into2, h.7)

pub link_new-linked-requires-clause-names : goal.link_new-linked-requires-clause-names
link_new-linked-requires-clause-names g c =
    let C = g.C.Caller in
    let s = C.standing c.args.caller.now in
    let h = c.requires.entry in
    let front = get_or h.2 c.args.bucket datum.Null in
    let key = datum.Object (h.4).key in
    let fields = entry_fields h.3 (h.4).key (h.4).count in
    let e1 = c.load.ensures.pushed h.0 h.1 h.2 h.5 h.6 h.7 in
    let k1 = c.load.ensures.keeps h.0 h.5 in
    let at1 = slot_after s.own _ front h.0 c.args.entry (h.4).entry fields e1 (h.8.0, h.8.1.0) in
    let into1 = slot_after s.own _ front h.0 c.args.into h.1 h.2 e1 h.6 in
    let size1 = size_after s.own _ front e1 in
    let e2 = c.load-2.ensures.pushed h.0 (h.4).entry fields k1 at1 (omega arith) in
    let k2 = c.load-2.ensures.keeps h.0 k1 in
    let into2 = slot_after _ _ key h.0 c.args.into h.1 h.2 e2 into1 in
    let size2 = size_after (C.standing c.load.new.caller).own _ key e2 in
    let own2 : (C.standing c.load-2.new.caller).own ≡ pushed (pushed s.own front) key = e2 ∙ ap (λ o. pushed o key) e1 in
    omega (arith, c.requires.names, ap (λ (o : Thread). o.made) own2)

pub link_new-linked-requires-clause-room : goal.link_new-linked-requires-clause-room
link_new-linked-requires-clause-room g c =
    let C = g.C.Caller in
    let s = C.standing c.args.caller.now in
    let h = c.requires.entry in
    let front = get_or h.2 c.args.bucket datum.Null in
    let key = datum.Object (h.4).key in
    let fields = entry_fields h.3 (h.4).key (h.4).count in
    let e1 = c.load.ensures.pushed h.0 h.1 h.2 h.5 h.6 h.7 in
    let k1 = c.load.ensures.keeps h.0 h.5 in
    let at1 = slot_after s.own _ front h.0 c.args.entry (h.4).entry fields e1 (h.8.0, h.8.1.0) in
    let into1 = slot_after s.own _ front h.0 c.args.into h.1 h.2 e1 h.6 in
    let size1 = size_after s.own _ front e1 in
    let e2 = c.load-2.ensures.pushed h.0 (h.4).entry fields k1 at1 (omega arith) in
    let k2 = c.load-2.ensures.keeps h.0 k1 in
    let into2 = slot_after _ _ key h.0 c.args.into h.1 h.2 e2 into1 in
    let size2 = size_after (C.standing c.load.new.caller).own _ key e2 in
    omega (arith, c.requires.room, size1, size2)

pub link_new-linked-requires-clause-top : goal.link_new-linked-requires-clause-top
link_new-linked-requires-clause-top g c =
    let C = g.C.Caller in
    let s = C.standing c.args.caller.now in
    let h = c.requires.entry in
    let front = get_or h.2 c.args.bucket datum.Null in
    let key = datum.Object (h.4).key in
    let fields = entry_fields h.3 (h.4).key (h.4).count in
    let e1 = c.load.ensures.pushed h.0 h.1 h.2 h.5 h.6 h.7 in
    let k1 = c.load.ensures.keeps h.0 h.5 in
    let at1 = slot_after s.own _ front h.0 c.args.entry (h.4).entry fields e1 (h.8.0, h.8.1.0) in
    let into1 = slot_after s.own _ front h.0 c.args.into h.1 h.2 e1 h.6 in
    let size1 = size_after s.own _ front e1 in
    let e2 = c.load-2.ensures.pushed h.0 (h.4).entry fields k1 at1 (omega arith) in
    let k2 = c.load-2.ensures.keeps h.0 k1 in
    let into2 = slot_after _ _ key h.0 c.args.into h.1 h.2 e2 into1 in
    let size2 = size_after (C.standing c.load.new.caller).own _ key e2 in
    omega (arith, c.requires.top, size1, size2)

pub pop-requires-clause-some : goal.pop-requires-clause-some
pop-requires-clause-some g c =
    let C = g.C.Caller in
    let s = C.standing c.args.caller.now in
    let h = c.requires.entry in
    let front = get_or h.2 c.args.bucket datum.Null in
    let key = datum.Object (h.4).key in
    let fields = entry_fields h.3 (h.4).key (h.4).count in
    let e1 = c.load.ensures.pushed h.0 h.1 h.2 h.5 h.6 h.7 in
    let k1 = c.load.ensures.keeps h.0 h.5 in
    let at1 = slot_after s.own _ front h.0 c.args.entry (h.4).entry fields e1 (h.8.0, h.8.1.0) in
    let into1 = slot_after s.own _ front h.0 c.args.into h.1 h.2 e1 h.6 in
    let size1 = size_after s.own _ front e1 in
    let e2 = c.load-2.ensures.pushed h.0 (h.4).entry fields k1 at1 (omega arith) in
    let k2 = c.load-2.ensures.keeps h.0 k1 in
    let into2 = slot_after _ _ key h.0 c.args.into h.1 h.2 e2 into1 in
    let size2 = size_after (C.standing c.load.new.caller).own _ key e2 in
    let some : KnowsSome (C.knows c.link_new-linked.new.caller) = either c.link_new-linked.result _ (ok_map c.link_new-linked.result _ _ (λ f. (_, (f h.0 h.1 h.2 k2 into2 h.7).0)) c.link_new-linked.ensures.linked) (err_map c.link_new-linked.result _ _ (λ f. (h.0, f h.0 k2)) c.link_new-linked.ensures.keeps) in
    some

pub pop-requires-clause-slot : goal.pop-requires-clause-slot
pop-requires-clause-slot g c =
    let C = g.C.Caller in
    let s = C.standing c.args.caller.now in
    let h = c.requires.entry in
    let front = get_or h.2 c.args.bucket datum.Null in
    let key = datum.Object (h.4).key in
    let fields = entry_fields h.3 (h.4).key (h.4).count in
    let e1 = c.load.ensures.pushed h.0 h.1 h.2 h.5 h.6 h.7 in
    let k1 = c.load.ensures.keeps h.0 h.5 in
    let at1 = slot_after s.own _ front h.0 c.args.entry (h.4).entry fields e1 (h.8.0, h.8.1.0) in
    let into1 = slot_after s.own _ front h.0 c.args.into h.1 h.2 e1 h.6 in
    let size1 = size_after s.own _ front e1 in
    let e2 = c.load-2.ensures.pushed h.0 (h.4).entry fields k1 at1 (omega arith) in
    let k2 = c.load-2.ensures.keeps h.0 k1 in
    let into2 = slot_after _ _ key h.0 c.args.into h.1 h.2 e2 into1 in
    let size2 = size_after (C.standing c.load.new.caller).own _ key e2 in
    let deep = either c.link_new-linked.result (length (C.standing c.link_new-linked.new.caller).own.stack ≡ length (C.standing c.load-2.new.caller).own.stack) (ok_map c.link_new-linked.result _ _ (λ e. ap (λ (o : Thread). length o.stack) e) c.link_new-linked.ensures.own) (err_map c.link_new-linked.result _ _ (λ e. ap (λ (o : Thread). length o.stack) e) c.link_new-linked.ensures.same) in
    omega (arith, size1, size2, deep)

pub pop-requires-2-clause-some : goal.pop-requires-2-clause-some
pop-requires-2-clause-some g c =
    let C = g.C.Caller in
    let s = C.standing c.args.caller.now in
    let h = c.requires.entry in
    let front = get_or h.2 c.args.bucket datum.Null in
    let key = datum.Object (h.4).key in
    let fields = entry_fields h.3 (h.4).key (h.4).count in
    let e1 = c.load.ensures.pushed h.0 h.1 h.2 h.5 h.6 h.7 in
    let k1 = c.load.ensures.keeps h.0 h.5 in
    let at1 = slot_after s.own _ front h.0 c.args.entry (h.4).entry fields e1 (h.8.0, h.8.1.0) in
    let into1 = slot_after s.own _ front h.0 c.args.into h.1 h.2 e1 h.6 in
    let size1 = size_after s.own _ front e1 in
    let e2 = c.load-2.ensures.pushed h.0 (h.4).entry fields k1 at1 (omega arith) in
    let k2 = c.load-2.ensures.keeps h.0 k1 in
    let into2 = slot_after _ _ key h.0 c.args.into h.1 h.2 e2 into1 in
    let size2 = size_after (C.standing c.load.new.caller).own _ key e2 in
    let some : KnowsSome (C.knows c.link_new-linked.new.caller) = either c.link_new-linked.result _ (ok_map c.link_new-linked.result _ _ (λ f. (_, (f h.0 h.1 h.2 k2 into2 h.7).0)) c.link_new-linked.ensures.linked) (err_map c.link_new-linked.result _ _ (λ f. (h.0, f h.0 k2)) c.link_new-linked.ensures.keeps) in
    (some.0, c.pop.ensures.keeps some.0 some.1)

pub pop-requires-2-clause-slot : goal.pop-requires-2-clause-slot
pop-requires-2-clause-slot g c =
    let C = g.C.Caller in
    let s = C.standing c.args.caller.now in
    let h = c.requires.entry in
    let front = get_or h.2 c.args.bucket datum.Null in
    let key = datum.Object (h.4).key in
    let fields = entry_fields h.3 (h.4).key (h.4).count in
    let e1 = c.load.ensures.pushed h.0 h.1 h.2 h.5 h.6 h.7 in
    let k1 = c.load.ensures.keeps h.0 h.5 in
    let at1 = slot_after s.own _ front h.0 c.args.entry (h.4).entry fields e1 (h.8.0, h.8.1.0) in
    let into1 = slot_after s.own _ front h.0 c.args.into h.1 h.2 e1 h.6 in
    let size1 = size_after s.own _ front e1 in
    let e2 = c.load-2.ensures.pushed h.0 (h.4).entry fields k1 at1 (omega arith) in
    let k2 = c.load-2.ensures.keeps h.0 k1 in
    let into2 = slot_after _ _ key h.0 c.args.into h.1 h.2 e2 into1 in
    let size2 = size_after (C.standing c.load.new.caller).own _ key e2 in
    let deep = either c.link_new-linked.result (length (C.standing c.link_new-linked.new.caller).own.stack ≡ length (C.standing c.load-2.new.caller).own.stack) (ok_map c.link_new-linked.result _ _ (λ e. ap (λ (o : Thread). length o.stack) e) c.link_new-linked.ensures.own) (err_map c.link_new-linked.result _ _ (λ e. ap (λ (o : Thread). length o.stack) e) c.link_new-linked.ensures.same) in
    let less = ap (λ (o : Thread). length o.stack) c.pop.ensures.popped in
    let short = length-take_pop (C.standing c.link_new-linked.new.caller).own.stack in
    omega (arith, size1, size2, deep, less, short)

pub returns-clause-ran : goal.returns-clause-ran
returns-clause-ran g c =
    let C = g.C.Caller in
    ok_map c.link_new-linked.result _ _ (λ r. ran_end C.base C.tells C.tells_known C.standing _ _ _ entry_words (ran_end C.base C.tells C.tells_known C.standing _ _ _ entry_words (then_ran C.base C.tells C.tells_known C.standing _ _ _ entry_words (ran_more C.base C.tells C.tells_known C.standing _ _ _ c.load.ensures.ran c.load-2.ensures.ran) r) c.pop.ensures.ran) c.pop-2.ensures.ran) c.link_new-linked.ensures.ran

pub returns-clause-own : goal.returns-clause-own
returns-clause-own g c =
    let C = g.C.Caller in
    let s = C.standing c.args.caller.now in
    let h = c.requires.entry in
    let front = get_or h.2 c.args.bucket datum.Null in
    let key = datum.Object (h.4).key in
    let fields = entry_fields h.3 (h.4).key (h.4).count in
    let e1 = c.load.ensures.pushed h.0 h.1 h.2 h.5 h.6 h.7 in
    let k1 = c.load.ensures.keeps h.0 h.5 in
    let at1 = slot_after s.own _ front h.0 c.args.entry (h.4).entry fields e1 (h.8.0, h.8.1.0) in
    let into1 = slot_after s.own _ front h.0 c.args.into h.1 h.2 e1 h.6 in
    let size1 = size_after s.own _ front e1 in
    let e2 = c.load-2.ensures.pushed h.0 (h.4).entry fields k1 at1 (omega arith) in
    let k2 = c.load-2.ensures.keeps h.0 k1 in
    let into2 = slot_after _ _ key h.0 c.args.into h.1 h.2 e2 into1 in
    let size2 = size_after (C.standing c.load.new.caller).own _ key e2 in
    let own2 : (C.standing c.load-2.new.caller).own ≡ pushed (pushed s.own front) key = e2 ∙ ap (λ o. pushed o key) e1 in
    ok_map c.link_new-linked.result _ _ (λ e. c.pop-2.ensures.popped ∙ ap popped (c.pop.ensures.popped ∙ ap popped (e ∙ ap (λ o. having_made o 1) own2) ∙ popped_having (pushed s.own front) key 1) ∙ popped_having s.own front 1) c.link_new-linked.ensures.own

pub returns-clause-same : goal.returns-clause-same
returns-clause-same g c =
    let C = g.C.Caller in
    let s = C.standing c.args.caller.now in
    let h = c.requires.entry in
    let front = get_or h.2 c.args.bucket datum.Null in
    let key = datum.Object (h.4).key in
    let fields = entry_fields h.3 (h.4).key (h.4).count in
    let e1 = c.load.ensures.pushed h.0 h.1 h.2 h.5 h.6 h.7 in
    let k1 = c.load.ensures.keeps h.0 h.5 in
    let at1 = slot_after s.own _ front h.0 c.args.entry (h.4).entry fields e1 (h.8.0, h.8.1.0) in
    let into1 = slot_after s.own _ front h.0 c.args.into h.1 h.2 e1 h.6 in
    let size1 = size_after s.own _ front e1 in
    let e2 = c.load-2.ensures.pushed h.0 (h.4).entry fields k1 at1 (omega arith) in
    let k2 = c.load-2.ensures.keeps h.0 k1 in
    let into2 = slot_after _ _ key h.0 c.args.into h.1 h.2 e2 into1 in
    let size2 = size_after (C.standing c.load.new.caller).own _ key e2 in
    let own2 : (C.standing c.load-2.new.caller).own ≡ pushed (pushed s.own front) key = e2 ∙ ap (λ o. pushed o key) e1 in
    err_map c.link_new-linked.result _ _ (λ e. c.pop-2.ensures.popped ∙ ap popped (c.pop.ensures.popped ∙ ap popped (e ∙ own2) ∙ popped_pushed (pushed s.own front) key) ∙ popped_pushed s.own front) c.link_new-linked.ensures.same

pub returns-clause-keeps : goal.returns-clause-keeps
returns-clause-keeps g c =
    err_map c.link_new-linked.result _ _ (λ f known k. c.pop-2.ensures.keeps known (c.pop.ensures.keeps known (f known (c.load-2.ensures.keeps known (c.load.ensures.keeps known k))))) c.link_new-linked.ensures.keeps

pub returns-clause-ran_out : goal.returns-clause-ran_out
returns-clause-ran_out g c =
    let C = g.C.Caller in
    err_map c.link_new-linked.result _ _ (λ r. out_then C.base C.tells C.tells_known C.standing _ _ _ 0 _ (out_then C.base C.tells C.tells_known C.standing _ _ _ 0 _ (then_out C.base C.tells C.tells_known C.standing _ _ _ 0 _ (ran_more C.base C.tells C.tells_known C.standing _ _ _ c.load.ensures.ran c.load-2.ensures.ran) r) c.pop.ensures.ran) c.pop-2.ensures.ran) c.link_new-linked.ensures.ran_out

pub returns-clause-shared : goal.returns-clause-shared
returns-clause-shared g c =
    let C = g.C.Caller in
    let s = C.standing c.args.caller.now in
    ok_map c.link_new-linked.result _ _
    (λ linked known name heads next link k slot within entry.
    let front = get_or heads c.args.bucket datum.Null in
    let key = datum.Object link.key in
    let fields = entry_fields next link.key link.count in
    let e1 = c.load.ensures.pushed known name heads k slot within in
    let k1 = c.load.ensures.keeps known k in
    let at1 = slot_after s.own _ front known c.args.entry link.entry fields e1 (entry.0, entry.1.0) in
    let into1 = slot_after s.own _ front known c.args.into name heads e1 slot in
    let size1 = size_after s.own _ front e1 in
    let e2 = c.load-2.ensures.pushed known link.entry fields k1 at1 (omega arith) in
    let k2 = c.load-2.ensures.keeps known k1 in
    let into2 = slot_after _ _ key known c.args.into name heads e2 into1 in
    let size2 = size_after (C.standing c.load.new.caller).own _ key e2 in
    let own2 : (C.standing c.load-2.new.caller).own ≡ pushed (pushed s.own front) key = e2 ∙ ap (λ o. pushed o key) e1 in
    let r = linked known name heads k2 into2 within in
    let same = next_same s (C.standing c.load-2.new.caller) (c.load-2.ensures.ran.since.thread ∙ c.load.ensures.ran.since.thread) (ap (λ (o : Thread). o.made) own2) in
    let v1 = ap (λ (o : Thread). get_or o.stack c.args.top datum.Null) e2 ∙ slot_below (C.standing c.load.new.caller).own.stack key c.args.top (omega (arith, size1, c.requires.top)) ∙ top_after s.own _ front c.args.top e1 c.requires.top in
    let v2 = top_after (C.standing c.load.new.caller).own _ key (c.args.top + 1) e2 (omega (arith, size1, c.requires.top)) in
    let knows = C.knows c.pop-2.new.caller in
    let now = c.pop-2.ensures.keeps _ (c.pop.ensures.keeps _ r.0) in
    let named = shared_map known name heads c.args.bucket c.args.n knows _ _ _ front (next_of s) key same v1 v2 now in
    (named, sym (ap (get known) same) ∙ r.1))
    c.link_new-linked.ensures.linked

pub returns-clause-aside : goal.returns-clause-aside
returns-clause-aside g c =
    let C = g.C.Caller in
    let s = C.standing c.args.caller.now in
    ok_map c.link_new-linked.result _ _
    (λ given known name heads next link other k slot within entry ko lacks lacks_front lacks_key.
    let front = get_or heads c.args.bucket datum.Null in
    let key = datum.Object link.key in
    let fields = entry_fields next link.key link.count in
    let e1 = c.load.ensures.pushed known name heads k slot within in
    let k1 = c.load.ensures.keeps known k in
    let at1 = slot_after s.own _ front known c.args.entry link.entry fields e1 (entry.0, entry.1.0) in
    let into1 = slot_after s.own _ front known c.args.into name heads e1 slot in
    let size1 = size_after s.own _ front e1 in
    let e2 = c.load-2.ensures.pushed known link.entry fields k1 at1 (omega arith) in
    let k2 = c.load-2.ensures.keeps known k1 in
    let into2 = slot_after _ _ key known c.args.into name heads e2 into1 in
    let size2 = size_after (C.standing c.load.new.caller).own _ key e2 in
    let own2 : (C.standing c.load-2.new.caller).own ≡ pushed (pushed s.own front) key = e2 ∙ ap (λ o. pushed o key) e1 in
    let same = next_same s (C.standing c.load-2.new.caller) (c.load-2.ensures.ran.since.thread ∙ c.load.ensures.ran.since.thread) (ap (λ (o : Thread). o.made) own2) in
    let v1 = ap (λ (o : Thread). get_or o.stack c.args.top datum.Null) e2 ∙ slot_below (C.standing c.load.new.caller).own.stack key c.args.top (omega (arith, size1, c.requires.top)) ∙ top_after s.own _ front c.args.top e1 c.requires.top in
    let v2 = top_after (C.standing c.load.new.caller).own _ key (c.args.top + 1) e2 (omega (arith, size1, c.requires.top)) in
    let sm = C.standing c.load-2.new.caller in
    let r = given other (c.load-2.ensures.keeps other (c.load.ensures.keeps other ko)) in
    let back = shared_back other (next_of sm) front key c.args.n r.0 lacks_front lacks_key in
    let loses = subst (λ v. LosesAll (with_fields other (next_of sm) v (slot_in sm (c.args.top + 1)) c.args.n) (next_of sm) other) (sym v1) (subst (λ v. LosesAll (with_fields other (next_of sm) front v c.args.n) (next_of sm) other) (sym v2) back) in
    (c.pop-2.ensures.keeps other (c.pop.ensures.keeps other (r.1 other (lacks_as other (datum.Object name) _ (sym into2.0) lacks) loses)), sym (ap (get other) same) ∙ r.0))
    c.link_new-linked.ensures.aside
