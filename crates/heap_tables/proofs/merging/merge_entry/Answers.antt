use Rattle.std.proofs.Common.{ℕ, ◌∙◌, ap, sym, arith, length, drop, take, List, true≢false}
use Rattle.yak_model.specs.Graph.{Thread}
use Rattle.heap_tables.specs.Merges.{AreSlots, IsEntryAt, done_at}
use Rattle.heap_tables.proofs.Bytes.{length_front}
use Rattle.heap_tables.proofs.Effects.{value_same}
use Rattle.heap_tables.proofs.OnResult.{on_err}
use Rattle.heap_tables.proofs.Sought.{short_first}
use Rattle.heap_tables.proofs.Untouched.{from_chain, from_short, goes_nowhere, goes_stops, goes_then, merged_as, from_lacks}
use Rattle.heap_tables.proofs.Visits.{drop_below, took_nothing, took_parts}
use Rattle.heap_tables.proofs.merging.merge_entry.Goals as goal

pub take_entry-requires-clause-chain : goal.take_entry-requires-clause-chain
take_entry-requires-clause-chain g c =
    let C = g.C.Caller in
    let s = C.standing c.args.caller.now in
    let h = c.requires.tables in
    let m = h.0 in
    let is = h.1 in
    let slots = h.2 in
    let d = h.3 in
    let b = c.args.bucket in
    let p = c.args.place in
    let at = from_chain m is b p c.requires.bucket (C.knows c.args.caller.now) d s c.args.from slots.0 in
    let few = is.from_few b c.requires.bucket in
    (d.after, m.from_name, m.heads, m.buckets b, d.known_now, at.0, at.1, omega (arith, few), from_short m is b p c.requires.bucket (C.knows c.args.caller.now) d s.limits (g.met.C.Caller.standard c.args.caller.now) (g.met.C.Caller.fit c.args.caller.now d.after d.known_now))

pub slice_bounds-add_entry-end : goal.slice_bounds-add_entry-end
slice_bounds-add_entry-end g c =
    let C = g.C.Caller in
    let s = C.standing c.args.caller.now in
    let h = c.requires.tables in
    let m = h.0 in
    let is = h.1 in
    let slots = h.2 in
    let d = h.3 in
    let b = c.args.bucket in
    let p = c.args.place in
    let at = from_chain m is b p c.requires.bucket (C.knows c.args.caller.now) d s c.args.from slots.0 in
    let took = c.in-Some.ensures.took d.after m.from_name m.heads (m.buckets b) d.known_now at.0 at.1 in
    let r = took_parts (drop p (m.buckets b)) c.in-Some.size c.in-Some.count c.take_entry.new.buffer took.0 in
    let long = short_first p (m.buckets b) r.1 r.0 (from_short m is b p c.requires.bucket (C.knows c.args.caller.now) d s.limits (g.met.C.Caller.standard c.args.caller.now) (g.met.C.Caller.fit c.args.caller.now d.after d.known_now)) r.2 in
    let size = r.3.0 in
    let own = c.take_entry.ensures.own in
    let now_slots : AreSlots (C.standing c.take_entry.new.caller) c.args.from c.args.into m = (value_same s.own _ c.args.from own ∙ slots.0, value_same s.own _ c.args.into own ∙ slots.1) in
    let merged = merged_as m is (done_at m.buckets b p) (C.knows c.args.caller.now) (C.knows c.take_entry.new.caller) d took.1 (λ other has. c.take_entry.ensures.aside d.after m.from_name m.heads (m.buckets b) other d.known_now at.0 at.1 (d.others_known other has) (from_lacks m is b c.requires.bucket other has)) in
    let entry : IsEntryAt m b p (take c.in-Some.size c.take_entry.new.buffer) c.in-Some.count r.0 r.1 = (r.2, r.3.1, r.4) in
    let kept = c.take_entry.ensures.buffer in omega (arith, size, long, kept, c.requires.buffer)

pub slice_bounds-add_entry-end-in-Some : goal.slice_bounds-add_entry-end-in-Some
slice_bounds-add_entry-end-in-Some g c =
    let C = g.C.Caller in
    let s = C.standing c.args.caller.now in
    let h = c.requires.tables in
    let m = h.0 in
    let is = h.1 in
    let slots = h.2 in
    let d = h.3 in
    let b = c.args.bucket in
    let p = c.args.place in
    let at = from_chain m is b p c.requires.bucket (C.knows c.args.caller.now) d s c.args.from slots.0 in
    let took = c.in-Some.ensures.took d.after m.from_name m.heads (m.buckets b) d.known_now at.0 at.1 in
    let r = took_parts (drop p (m.buckets b)) c.in-Some.size c.in-Some.count c.take_entry.new.buffer took.0 in
    let long = short_first p (m.buckets b) r.1 r.0 (from_short m is b p c.requires.bucket (C.knows c.args.caller.now) d s.limits (g.met.C.Caller.standard c.args.caller.now) (g.met.C.Caller.fit c.args.caller.now d.after d.known_now)) r.2 in
    let size = r.3.0 in
    let own = c.take_entry.ensures.own in
    let now_slots : AreSlots (C.standing c.take_entry.new.caller) c.args.from c.args.into m = (value_same s.own _ c.args.from own ∙ slots.0, value_same s.own _ c.args.into own ∙ slots.1) in
    let merged = merged_as m is (done_at m.buckets b p) (C.knows c.args.caller.now) (C.knows c.take_entry.new.caller) d took.1 (λ other has. c.take_entry.ensures.aside d.after m.from_name m.heads (m.buckets b) other d.known_now at.0 at.1 (d.others_known other has) (from_lacks m is b c.requires.bucket other has)) in
    let entry : IsEntryAt m b p (take c.in-Some.size c.take_entry.new.buffer) c.in-Some.count r.0 r.1 = (r.2, r.3.1, r.4) in
    let kept = c.take_entry.ensures.buffer in sym (length_front c.in-Some.size c.take_entry.new.buffer (omega (arith, size, long, kept, c.requires.buffer)))

pub add_entry-requires-clause-tables : goal.add_entry-requires-clause-tables
add_entry-requires-clause-tables g c =
    let C = g.C.Caller in
    let s = C.standing c.args.caller.now in
    let h = c.requires.tables in
    let m = h.0 in
    let is = h.1 in
    let slots = h.2 in
    let d = h.3 in
    let b = c.args.bucket in
    let p = c.args.place in
    let at = from_chain m is b p c.requires.bucket (C.knows c.args.caller.now) d s c.args.from slots.0 in
    let took = c.in-Some.ensures.took d.after m.from_name m.heads (m.buckets b) d.known_now at.0 at.1 in
    let r = took_parts (drop p (m.buckets b)) c.in-Some.size c.in-Some.count c.take_entry.new.buffer took.0 in
    let long = short_first p (m.buckets b) r.1 r.0 (from_short m is b p c.requires.bucket (C.knows c.args.caller.now) d s.limits (g.met.C.Caller.standard c.args.caller.now) (g.met.C.Caller.fit c.args.caller.now d.after d.known_now)) r.2 in
    let size = r.3.0 in
    let own = c.take_entry.ensures.own in
    let now_slots : AreSlots (C.standing c.take_entry.new.caller) c.args.from c.args.into m = (value_same s.own _ c.args.from own ∙ slots.0, value_same s.own _ c.args.into own ∙ slots.1) in
    let merged = merged_as m is (done_at m.buckets b p) (C.knows c.args.caller.now) (C.knows c.take_entry.new.caller) d took.1 (λ other has. c.take_entry.ensures.aside d.after m.from_name m.heads (m.buckets b) other d.known_now at.0 at.1 (d.others_known other has) (from_lacks m is b c.requires.bucket other has)) in
    let entry : IsEntryAt m b p (take c.in-Some.size c.take_entry.new.buffer) c.in-Some.count r.0 r.1 = (r.2, r.3.1, r.4) in
    (m, is, r.0, r.1, now_slots, merged, entry)

pub add_entry-requires-clause-word : goal.add_entry-requires-clause-word
add_entry-requires-clause-word g c =
    let C = g.C.Caller in
    let s = C.standing c.args.caller.now in
    let h = c.requires.tables in
    let m = h.0 in
    let is = h.1 in
    let slots = h.2 in
    let d = h.3 in
    let b = c.args.bucket in
    let p = c.args.place in
    let at = from_chain m is b p c.requires.bucket (C.knows c.args.caller.now) d s c.args.from slots.0 in
    let took = c.in-Some.ensures.took d.after m.from_name m.heads (m.buckets b) d.known_now at.0 at.1 in
    let r = took_parts (drop p (m.buckets b)) c.in-Some.size c.in-Some.count c.take_entry.new.buffer took.0 in
    let long = short_first p (m.buckets b) r.1 r.0 (from_short m is b p c.requires.bucket (C.knows c.args.caller.now) d s.limits (g.met.C.Caller.standard c.args.caller.now) (g.met.C.Caller.fit c.args.caller.now d.after d.known_now)) r.2 in
    let size = r.3.0 in
    let own = c.take_entry.ensures.own in
    let now_slots : AreSlots (C.standing c.take_entry.new.caller) c.args.from c.args.into m = (value_same s.own _ c.args.from own ∙ slots.0, value_same s.own _ c.args.into own ∙ slots.1) in
    let merged = merged_as m is (done_at m.buckets b p) (C.knows c.args.caller.now) (C.knows c.take_entry.new.caller) d took.1 (λ other has. c.take_entry.ensures.aside d.after m.from_name m.heads (m.buckets b) other d.known_now at.0 at.1 (d.others_known other has) (from_lacks m is b c.requires.bucket other has)) in
    let entry : IsEntryAt m b p (take c.in-Some.size c.take_entry.new.buffer) c.in-Some.count r.0 r.1 = (r.2, r.3.1, r.4) in
    let e = ap (λ (ls : List ℕ). length ls) r.3.1 in omega (arith, e, long)

pub add_entry-requires-clause-names : goal.add_entry-requires-clause-names
add_entry-requires-clause-names g c =
    omega (arith, c.requires.names, ap (λ (o : Thread). o.made) c.take_entry.ensures.own)

pub add_entry-requires-clause-room : goal.add_entry-requires-clause-room
add_entry-requires-clause-room g c =
    omega (arith, c.requires.room, ap (λ (o : Thread). length o.stack) c.take_entry.ensures.own)

pub add_entry-requires-clause-top : goal.add_entry-requires-clause-top
add_entry-requires-clause-top g c =
    omega (arith, c.requires.top, ap (λ (o : Thread). length o.stack) c.take_entry.ensures.own)

pub returns-in-None-clause-merged : goal.returns-in-None-clause-merged
returns-in-None-clause-merged g c m is slots d =
    let C = g.C.Caller in
    let s = C.standing c.args.caller.now in
    let b = c.args.bucket in
    let p = c.args.place in
    let at = from_chain m is b p c.requires.bucket (C.knows c.args.caller.now) d s c.args.from slots.0 in
    let took = c.in-None.ensures.took d.after m.from_name m.heads (m.buckets b) d.known_now at.0 at.1 in
    let done = done_at m.buckets b p in (
      took_nothing (drop p (m.buckets b)) c.take_entry.new.buffer took.0,
      goes_nowhere C.base C.tells C.tells_known C.standing m is done c.args.caller.now c.take_entry.new.caller (C.knows c.take_entry.new.caller) (merged_as m is done (C.knows c.args.caller.now) (C.knows c.take_entry.new.caller) d took.1 (λ other has. c.take_entry.ensures.aside d.after m.from_name m.heads (m.buckets b) other d.known_now at.0 at.1 (d.others_known other has) (from_lacks m is b c.requires.bucket other has))) c.take_entry.ensures.ran c.take_entry.ensures.own,
    )

pub returns-in_ok-add_entry-in-Some-clause-merged : goal.returns-in_ok-add_entry-in-Some-clause-merged
returns-in_ok-add_entry-in-Some-clause-merged g c m is slots d =
    let C = g.C.Caller in
    let s = C.standing c.args.caller.now in
    let b = c.args.bucket in
    let p = c.args.place in
    let at = from_chain m is b p c.requires.bucket (C.knows c.args.caller.now) d s c.args.from slots.0 in
    let took = c.in-Some.ensures.took d.after m.from_name m.heads (m.buckets b) d.known_now at.0 at.1 in
    let r = took_parts (drop p (m.buckets b)) c.in-Some.size c.in-Some.count c.take_entry.new.buffer took.0 in
    let long = short_first p (m.buckets b) r.1 r.0 (from_short m is b p c.requires.bucket (C.knows c.args.caller.now) d s.limits (g.met.C.Caller.standard c.args.caller.now) (g.met.C.Caller.fit c.args.caller.now d.after d.known_now)) r.2 in
    let size = r.3.0 in
    let own = c.take_entry.ensures.own in
    let now_slots : AreSlots (C.standing c.take_entry.new.caller) c.args.from c.args.into m = (value_same s.own _ c.args.from own ∙ slots.0, value_same s.own _ c.args.into own ∙ slots.1) in
    let merged = merged_as m is (done_at m.buckets b p) (C.knows c.args.caller.now) (C.knows c.take_entry.new.caller) d took.1 (λ other has. c.take_entry.ensures.aside d.after m.from_name m.heads (m.buckets b) other d.known_now at.0 at.1 (d.others_known other has) (from_lacks m is b c.requires.bucket other has)) in
    let entry : IsEntryAt m b p (take c.in-Some.size c.take_entry.new.buffer) c.in-Some.count r.0 r.1 = (r.2, r.3.1, r.4) in
    let done = done_at m.buckets b p in
    let first = goes_nowhere C.base C.tells C.tells_known C.standing m is done c.args.caller.now c.take_entry.new.caller (C.knows c.take_entry.new.caller) merged c.take_entry.ensures.ran c.take_entry.ensures.own in
    goes_then C.base C.tells C.tells_known C.standing m is done done _ c.args.caller.now c.take_entry.new.caller c.add_entry.new.caller (C.knows c.take_entry.new.caller) (C.knows c.add_entry.new.caller) first
    (c.in_ok-add_entry-in-Some.ensures.added m is r.0 r.1 now_slots merged entry)

pub returns-in-None-clause-few : goal.returns-in-None-clause-few
returns-in-None-clause-few g c = λ e. absurd (true≢false (sym e))

pub returns-in_ok-add_entry-in-Some-clause-few : goal.returns-in_ok-add_entry-in-Some-clause-few
returns-in_ok-add_entry-in-Some-clause-few g c =
    let C = g.C.Caller in
    let s = C.standing c.args.caller.now in
    let h = c.requires.tables in
    let m = h.0 in
    let is = h.1 in
    let slots = h.2 in
    let d = h.3 in
    let b = c.args.bucket in
    let p = c.args.place in
    let at = from_chain m is b p c.requires.bucket (C.knows c.args.caller.now) d s c.args.from slots.0 in
    let took = c.in-Some.ensures.took d.after m.from_name m.heads (m.buckets b) d.known_now at.0 at.1 in
    let r = took_parts (drop p (m.buckets b)) c.in-Some.size c.in-Some.count c.take_entry.new.buffer took.0 in
    let below = drop_below p (m.buckets b) r.1 r.0 r.2 in
    let few = is.from_few b c.requires.bucket in
    λ _. omega (arith, below, few)

pub returns-in_err-add_entry-in-Some-clause-stopped : goal.returns-in_err-add_entry-in-Some-clause-stopped
returns-in_err-add_entry-in-Some-clause-stopped g c =
    let C = g.C.Caller in
    let s = C.standing c.args.caller.now in
    on_err c.from_residual.result _ (λ m is slots d.
    let b = c.args.bucket in
    let p = c.args.place in
    let at = from_chain m is b p c.requires.bucket (C.knows c.args.caller.now) d s c.args.from slots.0 in
    let took = c.in-Some.ensures.took d.after m.from_name m.heads (m.buckets b) d.known_now at.0 at.1 in
    let r = took_parts (drop p (m.buckets b)) c.in-Some.size c.in-Some.count c.take_entry.new.buffer took.0 in
    let long = short_first p (m.buckets b) r.1 r.0 (from_short m is b p c.requires.bucket (C.knows c.args.caller.now) d s.limits (g.met.C.Caller.standard c.args.caller.now) (g.met.C.Caller.fit c.args.caller.now d.after d.known_now)) r.2 in
    let size = r.3.0 in
    let own = c.take_entry.ensures.own in
    let now_slots : AreSlots (C.standing c.take_entry.new.caller) c.args.from c.args.into m = (value_same s.own _ c.args.from own ∙ slots.0, value_same s.own _ c.args.into own ∙ slots.1) in
    let merged = merged_as m is (done_at m.buckets b p) (C.knows c.args.caller.now) (C.knows c.take_entry.new.caller) d took.1 (λ other has. c.take_entry.ensures.aside d.after m.from_name m.heads (m.buckets b) other d.known_now at.0 at.1 (d.others_known other has) (from_lacks m is b c.requires.bucket other has)) in
    let entry : IsEntryAt m b p (take c.in-Some.size c.take_entry.new.buffer) c.in-Some.count r.0 r.1 = (r.2, r.3.1, r.4) in
    let done = done_at m.buckets b p in
    let first = goes_nowhere C.base C.tells C.tells_known C.standing m is done c.args.caller.now c.take_entry.new.caller (C.knows c.take_entry.new.caller) merged c.take_entry.ensures.ran c.take_entry.ensures.own in
    goes_stops C.base C.tells C.tells_known C.standing m is done done c.args.caller.now c.take_entry.new.caller c.add_entry.new.caller (C.knows c.take_entry.new.caller) (C.knows c.add_entry.new.caller) first
    (c.in_err-add_entry-in-Some.ensures.stopped m is r.0 r.1 now_slots merged entry))
