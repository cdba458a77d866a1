use Rattle.std.proofs.Common.{eqb-true, sym, subst, refl, arith, drop}
use Rattle.yak_model.specs.Tables.{bucket_of}
use Rattle.heap_tables.specs.Layouts.{IsLaid}
use Rattle.heap_tables.proofs.Laid.{laid_whole, whole_laid}
use Rattle.heap_tables.proofs.LaidMerges.{laid_may, laid_merges, word_home}
use Rattle.heap_tables.proofs.merging.merge_word.Goals as goal

pub raise_present-requires-clause-laid : goal.raise_present-requires-clause-laid
raise_present-requires-clause-laid g c =
    let C = g.C.Caller in
    let s = C.standing c.args.caller.now in
    let h = c.requires.tables in
    let y = h.8 in
    let d = y.merged in
    let table = d.into_table in
    let home = word_home h.0 h.1 c.args.bucket h.2 c.args.place c.args.window c.args.laid h.3 s.own (C.knows c.args.caller.now) y c.requires.bucket c.args.word.now c.args.n h.4 h.5 h.9 in
    let may = laid_may h.0 h.1 c.args.bucket h.2 c.args.place c.args.window c.args.laid h.3 s.own (C.knows c.args.caller.now) y c.requires.bucket c.args.word.now c.args.n h.4 h.5 h.9 s c.args.from c.args.into refl h.6 (omega (arith, c.ranges.place)) in
    let laid = subst (λ k. IsLaid h.3 (drop c.args.window (table.buckets k)) c.args.laid s.own) home y.laid in
    let none = c.requires.window (eqb-true _ _ (sym c.if-is_empty.ensures)) in
    (d.after, (h.0).into_name, table.heads, table.buckets, h.3, d.known_now, may, laid_whole h.3 (table.buckets (bucket_of c.args.word.now)) c.args.window c.args.laid s.own none laid, h.7, h.6.1)

pub raise_present-requires-clause-bucket : goal.raise_present-requires-clause-bucket
raise_present-requires-clause-bucket g c =
    let C = g.C.Caller in
    let s = C.standing c.args.caller.now in
    let h = c.requires.tables in
    word_home h.0 h.1 c.args.bucket h.2 c.args.place c.args.window c.args.laid h.3 s.own (C.knows c.args.caller.now) h.8 c.requires.bucket c.args.word.now c.args.n h.4 h.5 h.9

pub returns-then-is_empty-clause-merged : goal.returns-then-is_empty-clause-merged
returns-then-is_empty-clause-merged g c m is start own link rest below size y at =
    let C = g.C.Caller in
    let s = C.standing c.args.caller.now in
    let d = y.merged in
    let table = d.into_table in
    let links = table.buckets (bucket_of c.args.word.now) in
    let home = word_home m is c.args.bucket start c.args.place c.args.window c.args.laid own s.own (C.knows c.args.caller.now) y c.requires.bucket c.args.word.now c.args.n link rest at in
    let may = laid_may m is c.args.bucket start c.args.place c.args.window c.args.laid own s.own (C.knows c.args.caller.now) y c.requires.bucket c.args.word.now c.args.n link rest at s c.args.from c.args.into refl below (omega (arith, c.ranges.place)) in
    let laid = subst (λ k. IsLaid own (drop c.args.window (table.buckets k)) c.args.laid s.own) home y.laid in
    let none = c.requires.window (eqb-true _ _ (sym c.if-is_empty.ensures)) in
    let whole = laid_whole own links c.args.window c.args.laid s.own none laid in
    laid_merges m is c.args.bucket start c.args.place c.args.window c.args.laid own s.own (C.knows c.args.caller.now) y c.requires.bucket c.args.word.now c.args.n link rest at _ _ (C.standing c.raise_present.new.caller).own (C.knows c.raise_present.new.caller)
    (c.raise_present.ensures.raised d.after m.into_name table.heads table.buckets own d.known_now may whole size below.1)
    (whole_laid own links c.args.window _ _ none (c.raise_present.ensures.laid d.after m.into_name table.heads table.buckets own d.known_now may whole size below.1))
    (λ other has. c.raise_present.ensures.aside d.after m.into_name table.heads table.buckets own other d.known_now may whole size below.1 (d.others_known other has) (d.aside other has))

pub raise_at-requires-clause-laid : goal.raise_at-requires-clause-laid
raise_at-requires-clause-laid g c =
    let C = g.C.Caller in
    let s = C.standing c.args.caller.now in
    let h = c.requires.tables in
    let y = h.8 in
    let d = y.merged in
    let table = d.into_table in
    let home = word_home h.0 h.1 c.args.bucket h.2 c.args.place c.args.window c.args.laid h.3 s.own (C.knows c.args.caller.now) y c.requires.bucket c.args.word.now c.args.n h.4 h.5 h.9 in
    let may = laid_may h.0 h.1 c.args.bucket h.2 c.args.place c.args.window c.args.laid h.3 s.own (C.knows c.args.caller.now) y c.requires.bucket c.args.word.now c.args.n h.4 h.5 h.9 s c.args.from c.args.into refl h.6 (omega (arith, c.ranges.place)) in
    let laid = subst (λ k. IsLaid h.3 (drop c.args.window (table.buckets k)) c.args.laid s.own) home y.laid in
    (d.after, (h.0).into_name, table.heads, table.buckets, h.3, d.known_now, may, laid, h.7, h.6.1)

pub raise_at-requires-clause-bucket : goal.raise_at-requires-clause-bucket
raise_at-requires-clause-bucket g c =
    let C = g.C.Caller in
    let s = C.standing c.args.caller.now in
    let h = c.requires.tables in
    word_home h.0 h.1 c.args.bucket h.2 c.args.place c.args.window c.args.laid h.3 s.own (C.knows c.args.caller.now) h.8 c.requires.bucket c.args.word.now c.args.n h.4 h.5 h.9

pub returns-in-Some-clause-merged : goal.returns-in-Some-clause-merged
returns-in-Some-clause-merged g c m is start own link rest below size y at =
    let C = g.C.Caller in
    let s = C.standing c.args.caller.now in
    let d = y.merged in
    let table = d.into_table in
    let links = table.buckets (bucket_of c.args.word.now) in
    let home = word_home m is c.args.bucket start c.args.place c.args.window c.args.laid own s.own (C.knows c.args.caller.now) y c.requires.bucket c.args.word.now c.args.n link rest at in
    let may = laid_may m is c.args.bucket start c.args.place c.args.window c.args.laid own s.own (C.knows c.args.caller.now) y c.requires.bucket c.args.word.now c.args.n link rest at s c.args.from c.args.into refl below (omega (arith, c.ranges.place)) in
    let laid = subst (λ k. IsLaid own (drop c.args.window (table.buckets k)) c.args.laid s.own) home y.laid in
    laid_merges m is c.args.bucket start c.args.place c.args.window c.args.laid own s.own (C.knows c.args.caller.now) y c.requires.bucket c.args.word.now c.args.n link rest at _ _ (C.standing c.raise_at.new.caller).own (C.knows c.raise_at.new.caller)
    (c.raise_at.ensures.raised d.after m.into_name table.heads table.buckets own d.known_now may laid size below.1)
    (c.raise_at.ensures.laid d.after m.into_name table.heads table.buckets own d.known_now may laid size below.1)
    (λ other has. c.raise_at.ensures.aside d.after m.into_name table.heads table.buckets own other d.known_now may laid size below.1 (d.others_known other has) (d.aside other has))

pub returns-in-None-clause-merged : goal.returns-in-None-clause-merged
returns-in-None-clause-merged g c m is start own link rest below size y at = y
