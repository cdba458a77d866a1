use Rattle.std.proofs.Common.{◌+◌, ◌∙◌, drop, drop-drop, refl, sym, arith}
use Rattle.yak_model.specs.Tables.{bucket_of}
use Rattle.yak_model.specs.declared.datum.Datum.TheVariants as datum
use Rattle.heap_tables.proofs.Asides.{lacks_as}
use Rattle.heap_tables.proofs.Effects.{value_same}
use Rattle.heap_tables.proofs.Laid.{chain_at, laid_entry}
use Rattle.heap_tables.proofs.LaidTables.{lacks_entry, may_first, raised_there, sum_fits}
use Rattle.heap_tables.proofs.RunOn.{ran_more}
use Rattle.heap_tables.proofs.Visits.{drop_parts}
use Rattle.heap_tables.proofs.raising.raise_laid.Goals as goal

pub is_entry_of-requires-clause-entry : goal.is_entry_of-requires-clause-entry
is_entry_of-requires-clause-entry g c =
    let C = g.C.Caller in
    let s = C.standing c.args.caller.now in
    let h = c.requires.laid in
    let word = c.args.word.now in
    let links = h.3 (bucket_of word) in
    let first = may_first s h.0 c.args.table word c.args.n h.1 h.2 h.3 h.6 in
    let r = laid_entry h.0 h.4 (drop c.args.window links) (chain_at h.0 links c.args.window first) c.args.laid c.args.at s.own h.7 h.8 c.args.place (omega (arith, c.requires.place)) in
    (h.0, r.2, r.0, h.5, (r.4, r.5))

pub raise-requires-clause-entry : goal.raise-requires-clause-entry
raise-requires-clause-entry g c =
    let C = g.C.Caller in
    let s = C.standing c.args.caller.now in
    let h = c.requires.laid in
    let word = c.args.word.now in
    let links = h.3 (bucket_of word) in
    let first = may_first s h.0 c.args.table word c.args.n h.1 h.2 h.3 h.6 in
    let r = laid_entry h.0 h.4 (drop c.args.window links) (chain_at h.0 links c.args.window first) c.args.laid c.args.at s.own h.7 h.8 c.args.place (omega (arith, c.requires.place)) in
    let parts = drop_parts (c.args.window + c.args.place) links r.1 r.0 (sym (drop-drop c.args.place c.args.window links) ∙ r.3) in
    let same = c.if-not-is_entry_of.ensures.answer h.0 r.2 r.0 h.5 (r.4, r.5) refl in
    let there = value_same s.own _ (c.args.at + c.args.place) c.if-not-is_entry_of.ensures.own ∙ r.4 in
    (h.0, r.2, r.0, c.if-not-is_entry_of.ensures.keeps h.0 h.5, (there, r.5), sum_fits s h.0 c.args.table word c.args.n h.1 h.2 h.3 h.6 parts.0 r.1 r.0 parts.1 same)

pub returns-clause-ran : goal.returns-clause-ran
returns-clause-ran g c = let C = g.C.Caller in ran_more C.base C.tells C.tells_known C.standing _ _ _ c.if-not-is_entry_of.ensures.ran c.raise.ensures.ran

pub returns-clause-raised : goal.returns-clause-raised
returns-clause-raised g c known name heads buckets own k may laid size =
    let C = g.C.Caller in
    let s = C.standing c.args.caller.now in
    let word = c.args.word.now in
    let links = buckets (bucket_of word) in
    let first = may_first s known c.args.table word c.args.n name heads buckets may in
    let r = laid_entry known own (drop c.args.window links) (chain_at known links c.args.window first) c.args.laid c.args.at s.own laid size c.args.place (omega (arith, c.requires.place)) in
    let parts = drop_parts (c.args.window + c.args.place) links r.1 r.0 (sym (drop-drop c.args.place c.args.window links) ∙ r.3) in
    let same = c.if-not-is_entry_of.ensures.answer known r.2 r.0 k (r.4, r.5) refl in
    let there = value_same s.own _ (c.args.at + c.args.place) c.if-not-is_entry_of.ensures.own ∙ r.4 in
    let lifted = c.raise.ensures.raised known r.2 r.0 (c.if-not-is_entry_of.ensures.keeps known k) (there, r.5) in
    raised_there s known c.args.table word c.args.n name heads buckets may parts.0 r.1 r.0 parts.1 same r.2 r.5 (C.knows c.raise.new.caller) lifted

pub returns-clause-aside : goal.returns-clause-aside
returns-clause-aside g c known name heads buckets own other k may laid size ko lacks =
    let C = g.C.Caller in
    let s = C.standing c.args.caller.now in
    let word = c.args.word.now in
    let links = buckets (bucket_of word) in
    let first = may_first s known c.args.table word c.args.n name heads buckets may in
    let r = laid_entry known own (drop c.args.window links) (chain_at known links c.args.window first) c.args.laid c.args.at s.own laid size c.args.place (omega (arith, c.requires.place)) in
    let parts = drop_parts (c.args.window + c.args.place) links r.1 r.0 (sym (drop-drop c.args.place c.args.window links) ∙ r.3) in
    let same = c.if-not-is_entry_of.ensures.answer known r.2 r.0 k (r.4, r.5) refl in
    let there = value_same s.own _ (c.args.at + c.args.place) c.if-not-is_entry_of.ensures.own ∙ r.4 in
    c.raise.ensures.aside other (c.if-not-is_entry_of.ensures.keeps other ko) (lacks_as other (datum.Object (r.0).entry) _ (sym there) (lacks_entry s known c.args.table word c.args.n name heads buckets may parts.0 r.1 r.0 parts.1 same other lacks))
