use Rattle.std.proofs.Common.{ℕ, ◌∙◌, ap, sym, arith, length, drop, take, List}
use Rattle.yak_model.specs.Graph.{Thread}
use Rattle.heap_tables.specs.Merges.{IsEntryAt}
use Rattle.heap_tables.proofs.Bytes.{length_front}
use Rattle.heap_tables.proofs.LaidMerges.{below_slots, laid_same}
use Rattle.heap_tables.proofs.RunOn.{ran_more}
use Rattle.heap_tables.proofs.Sought.{short_first}
use Rattle.heap_tables.proofs.Untouched.{from_chain, from_lacks, from_short}
use Rattle.heap_tables.proofs.Visits.{took_parts}
use Rattle.heap_tables.proofs.merging.merge_laid.Goals as goal

pub take_entry-requires-clause-chain : goal.take_entry-requires-clause-chain
take_entry-requires-clause-chain g c =
    let C = g.C.Caller in
    let s = C.standing c.args.caller.now in
    let h = c.requires.tables in
    let m = h.0 in
    let is = h.1 in
    let start = h.2 in
    let base = h.3 in
    let below = h.4 in
    let y = h.6 in
    let b = c.args.bucket in
    let p = c.args.place in
    let d = y.merged in
    let slots = below_slots s base (drop c.args.window ((d.into_table).buckets b)) c.args.laid c.args.from c.args.into m y.laid below in
    let at = from_chain m is b p c.requires.bucket (C.knows c.args.caller.now) d s c.args.from slots.0 in
    let few = is.from_few b c.requires.bucket in
    (d.after, m.from_name, m.heads, m.buckets b, d.known_now, at.0, at.1, omega (arith, few), from_short m is b p c.requires.bucket (C.knows c.args.caller.now) d s.limits (g.met.C.Caller.standard c.args.caller.now) (g.met.C.Caller.fit c.args.caller.now d.after d.known_now))

pub take_entry-requires-clause-room : goal.take_entry-requires-clause-room
take_entry-requires-clause-room g c =
    omega (arith, c.requires.top, c.requires.few, c.requires.room)

pub slice_bounds-merge_word-end : goal.slice_bounds-merge_word-end
slice_bounds-merge_word-end g c =
    let C = g.C.Caller in
    let s = C.standing c.args.caller.now in
    let h = c.requires.tables in
    let m = h.0 in
    let is = h.1 in
    let start = h.2 in
    let base = h.3 in
    let below = h.4 in
    let y = h.6 in
    let b = c.args.bucket in
    let p = c.args.place in
    let d = y.merged in
    let slots = below_slots s base (drop c.args.window ((d.into_table).buckets b)) c.args.laid c.args.from c.args.into m y.laid below in
    let at = from_chain m is b p c.requires.bucket (C.knows c.args.caller.now) d s c.args.from slots.0 in
    let took = c.in-Some.ensures.took d.after m.from_name m.heads (m.buckets b) d.known_now at.0 at.1 in
    let r = took_parts (drop p (m.buckets b)) c.in-Some.size c.in-Some.count c.take_entry.new.buffer took.0 in
    let long = short_first p (m.buckets b) r.1 r.0 (from_short m is b p c.requires.bucket (C.knows c.args.caller.now) d s.limits (g.met.C.Caller.standard c.args.caller.now) (g.met.C.Caller.fit c.args.caller.now d.after d.known_now)) r.2 in
    let size = r.3.0 in
    let kept = c.take_entry.ensures.buffer in
    omega (arith, size, long, kept, c.requires.buffer)

pub slice_bounds-merge_word-end-in-Some : goal.slice_bounds-merge_word-end-in-Some
slice_bounds-merge_word-end-in-Some g c =
    let C = g.C.Caller in
    let s = C.standing c.args.caller.now in
    let h = c.requires.tables in
    let m = h.0 in
    let is = h.1 in
    let start = h.2 in
    let base = h.3 in
    let below = h.4 in
    let y = h.6 in
    let b = c.args.bucket in
    let p = c.args.place in
    let d = y.merged in
    let slots = below_slots s base (drop c.args.window ((d.into_table).buckets b)) c.args.laid c.args.from c.args.into m y.laid below in
    let at = from_chain m is b p c.requires.bucket (C.knows c.args.caller.now) d s c.args.from slots.0 in
    let took = c.in-Some.ensures.took d.after m.from_name m.heads (m.buckets b) d.known_now at.0 at.1 in
    let r = took_parts (drop p (m.buckets b)) c.in-Some.size c.in-Some.count c.take_entry.new.buffer took.0 in
    let long = short_first p (m.buckets b) r.1 r.0 (from_short m is b p c.requires.bucket (C.knows c.args.caller.now) d s.limits (g.met.C.Caller.standard c.args.caller.now) (g.met.C.Caller.fit c.args.caller.now d.after d.known_now)) r.2 in
    let size = r.3.0 in
    let kept = c.take_entry.ensures.buffer in
    sym (length_front c.in-Some.size c.take_entry.new.buffer (omega (arith, size, long, kept, c.requires.buffer)))

pub merge_word-requires-clause-tables : goal.merge_word-requires-clause-tables
merge_word-requires-clause-tables g c =
    let C = g.C.Caller in
    let s = C.standing c.args.caller.now in
    let h = c.requires.tables in
    let m = h.0 in
    let is = h.1 in
    let start = h.2 in
    let base = h.3 in
    let below = h.4 in
    let y = h.6 in
    let b = c.args.bucket in
    let p = c.args.place in
    let d = y.merged in
    let slots = below_slots s base (drop c.args.window ((d.into_table).buckets b)) c.args.laid c.args.from c.args.into m y.laid below in
    let at = from_chain m is b p c.requires.bucket (C.knows c.args.caller.now) d s c.args.from slots.0 in
    let took = c.in-Some.ensures.took d.after m.from_name m.heads (m.buckets b) d.known_now at.0 at.1 in
    let r = took_parts (drop p (m.buckets b)) c.in-Some.size c.in-Some.count c.take_entry.new.buffer took.0 in
    let now = C.standing c.take_entry.new.caller in
    let laid = y.laid in
    let same = laid_same m is b start p c.args.window c.args.laid base s.own (C.knows c.args.caller.now) y c.args.laid now.own (C.knows c.take_entry.new.caller) (laid.0, c.take_entry.ensures.own ∙ laid.1) took.1 (λ other has. c.take_entry.ensures.aside d.after m.from_name m.heads (m.buckets b) other d.known_now at.0 at.1 (d.others_known other has) (from_lacks m is b c.requires.bucket other has)) in
    let entry : IsEntryAt m b p (take c.in-Some.size c.take_entry.new.buffer) c.in-Some.count r.0 r.1 = (r.2, r.3.1, r.4) in
    (m, is, start, base, r.0, r.1, below, h.5, same, entry)

pub merge_word-requires-clause-word : goal.merge_word-requires-clause-word
merge_word-requires-clause-word g c =
    let C = g.C.Caller in
    let s = C.standing c.args.caller.now in
    let h = c.requires.tables in
    let m = h.0 in
    let is = h.1 in
    let start = h.2 in
    let base = h.3 in
    let below = h.4 in
    let y = h.6 in
    let b = c.args.bucket in
    let p = c.args.place in
    let d = y.merged in
    let slots = below_slots s base (drop c.args.window ((d.into_table).buckets b)) c.args.laid c.args.from c.args.into m y.laid below in
    let at = from_chain m is b p c.requires.bucket (C.knows c.args.caller.now) d s c.args.from slots.0 in
    let took = c.in-Some.ensures.took d.after m.from_name m.heads (m.buckets b) d.known_now at.0 at.1 in
    let r = took_parts (drop p (m.buckets b)) c.in-Some.size c.in-Some.count c.take_entry.new.buffer took.0 in
    let long = short_first p (m.buckets b) r.1 r.0 (from_short m is b p c.requires.bucket (C.knows c.args.caller.now) d s.limits (g.met.C.Caller.standard c.args.caller.now) (g.met.C.Caller.fit c.args.caller.now d.after d.known_now)) r.2 in
    let e = ap (λ (ls : List ℕ). length ls) r.3.1 in
    omega (arith, e, long)

pub merge_word-requires-clause-top : goal.merge_word-requires-clause-top
merge_word-requires-clause-top g c =
    omega (arith, c.requires.top, ap (λ (o : Thread). length o.stack) c.take_entry.ensures.own)

pub returns-in-Some-clause-ran : goal.returns-in-Some-clause-ran
returns-in-Some-clause-ran g c =
    let C = g.C.Caller in
    ran_more C.base C.tells C.tells_known C.standing _ _ _ c.take_entry.ensures.ran c.merge_word.ensures.ran

pub returns-in-Some-clause-merged : goal.returns-in-Some-clause-merged
returns-in-Some-clause-merged g c m is start base below size y =
    let C = g.C.Caller in
    let s = C.standing c.args.caller.now in
    let b = c.args.bucket in
    let p = c.args.place in
    let d = y.merged in
    let slots = below_slots s base (drop c.args.window ((d.into_table).buckets b)) c.args.laid c.args.from c.args.into m y.laid below in
    let at = from_chain m is b p c.requires.bucket (C.knows c.args.caller.now) d s c.args.from slots.0 in
    let took = c.in-Some.ensures.took d.after m.from_name m.heads (m.buckets b) d.known_now at.0 at.1 in
    let r = took_parts (drop p (m.buckets b)) c.in-Some.size c.in-Some.count c.take_entry.new.buffer took.0 in
    let now = C.standing c.take_entry.new.caller in
    let laid = y.laid in
    let same = laid_same m is b start p c.args.window c.args.laid base s.own (C.knows c.args.caller.now) y c.args.laid now.own (C.knows c.take_entry.new.caller) (laid.0, c.take_entry.ensures.own ∙ laid.1) took.1 (λ other has. c.take_entry.ensures.aside d.after m.from_name m.heads (m.buckets b) other d.known_now at.0 at.1 (d.others_known other has) (from_lacks m is b c.requires.bucket other has)) in
    let entry : IsEntryAt m b p (take c.in-Some.size c.take_entry.new.buffer) c.in-Some.count r.0 r.1 = (r.2, r.3.1, r.4) in
    c.merge_word.ensures.merged m is start base r.0 r.1 below size same entry

pub returns-in-None-clause-merged : goal.returns-in-None-clause-merged
returns-in-None-clause-merged g c m is start base below size y =
    let C = g.C.Caller in
    let s = C.standing c.args.caller.now in
    let b = c.args.bucket in
    let p = c.args.place in
    let d = y.merged in
    let slots = below_slots s base (drop c.args.window ((d.into_table).buckets b)) c.args.laid c.args.from c.args.into m y.laid below in
    let at = from_chain m is b p c.requires.bucket (C.knows c.args.caller.now) d s c.args.from slots.0 in
    let took = c.in-None.ensures.took d.after m.from_name m.heads (m.buckets b) d.known_now at.0 at.1 in
    let now = C.standing c.take_entry.new.caller in
    let laid = y.laid in
    let same = laid_same m is b start p c.args.window c.args.laid base s.own (C.knows c.args.caller.now) y c.args.laid now.own (C.knows c.take_entry.new.caller) (laid.0, c.take_entry.ensures.own ∙ laid.1) took.1 (λ other has. c.take_entry.ensures.aside d.after m.from_name m.heads (m.buckets b) other d.known_now at.0 at.1 (d.others_known other has) (from_lacks m is b c.requires.bucket other has)) in
    same
