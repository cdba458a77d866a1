use Rattle.std.proofs.Common.{◌≡◌, ◌+◌, ◌∙◌, ap, drop, get_or, length, subst, refl, arith}
use Rattle.yak_model.specs.declared.datum.Datum.TheVariants as datum
use Rattle.heap_tables.specs.Merges.{Goes, done_at}
use Rattle.heap_tables.specs.Runs.{pushed}
use Rattle.heap_tables.proofs.Effects.{length_push}
use Rattle.heap_tables.proofs.Laid.{laid_size, window_dropped}
use Rattle.heap_tables.proofs.LaidMerges.{below_front, into_chain, laid_end, laid_start}
use Rattle.heap_tables.proofs.RunOn.{ran_more, ran_none}
use Rattle.heap_tables.proofs.Untouched.{goes_nowhere}
use Rattle.heap_tables.proofs.merging.merge_present.Goals as goal

pub returns-then-not-has_room-clause-merged : goal.returns-then-not-has_room-clause-merged
returns-then-not-has_room-clause-merged g c m is slots d =
    let C = g.C.Caller in
    let done = done_at m.buckets c.args.bucket c.args.place in
    let e : c.args.place ≡ c.args.place + 0 = omega arith in
    subst (λ p. Goes C.base C.tells C.tells_known C.standing m is done (done_at m.buckets c.args.bucket p) c.args.caller.now c.args.caller.now (C.knows c.args.caller.now)) e
    (goes_nowhere C.base C.tells C.tells_known C.standing m is done c.args.caller.now c.args.caller.now (C.knows c.args.caller.now) d (ran_none C.base C.tells C.tells_known C.standing c.args.caller.now) refl)

pub open_window-requires-clause-chain : goal.open_window-requires-clause-chain
open_window-requires-clause-chain g c =
    let C = g.C.Caller in
    let s = C.standing c.args.caller.now in
    let h = c.requires.tables in
    let m = h.0 in
    let is = h.1 in
    let slots = h.2 in
    let d = h.3 in
    let b = c.args.bucket in
    let table = d.into_table in
    let front = get_or table.heads b datum.Null in
    let own = pushed s.own front in
    let at = into_chain m is b c.args.place (C.knows c.args.caller.now) d c.requires.bucket (omega (arith, c.ranges.place)) s c.args.into slots.1 in
    (d.after, m.into_name, table.heads, table.buckets b, d.known_now, at.0, at.1, at.2)

pub merge_on-merged-requires-clause-tables : goal.merge_on-merged-requires-clause-tables
merge_on-merged-requires-clause-tables g c =
    let C = g.C.Caller in
    let s = C.standing c.args.caller.now in
    let h = c.requires.tables in
    let m = h.0 in
    let is = h.1 in
    let slots = h.2 in
    let d = h.3 in
    let b = c.args.bucket in
    let table = d.into_table in
    let front = get_or table.heads b datum.Null in
    let own = pushed s.own front in
    let at = into_chain m is b c.args.place (C.knows c.args.caller.now) d c.requires.bucket (omega (arith, c.ranges.place)) s c.args.into slots.1 in
    let opened = c.open_window.ensures.opened d.after m.into_name table.heads (table.buckets b) d.known_now at.0 at.1 in
    let below = below_front s.own front c.args.from c.args.into m slots in
    let size : length own.stack ≡ c.args.top + 1 = length_push s.own.stack front ∙ ap (λ n. n + 1) c.requires.top in
    let first = laid_start m is b c.args.place c.window_of-window.result own (C.standing c.open_window.new.caller).own (C.knows c.args.caller.now) (C.knows c.open_window.new.caller) d opened.1
    (λ other has. let lacks = d.aside other has in c.open_window.ensures.aside d.after m.into_name table.heads (table.buckets b) other d.known_now at.0 at.1 (d.others_known other has) (lacks.head, lacks.links b c.requires.bucket)) opened.0 in
    (m, is, c.args.place, own, below, size, first)

pub merge_on-merged-requires-clause-window : goal.merge_on-merged-requires-clause-window
merge_on-merged-requires-clause-window g c =
    c.window_of-window.ensures.none

pub pop_all-requires-clause-some : goal.pop_all-requires-clause-some
pop_all-requires-clause-some g c =
    let C = g.C.Caller in
    let s = C.standing c.args.caller.now in
    let h = c.requires.tables in
    let m = h.0 in
    let is = h.1 in
    let slots = h.2 in
    let d = h.3 in
    let b = c.args.bucket in
    let table = d.into_table in
    let front = get_or table.heads b datum.Null in
    let own = pushed s.own front in
    let at = into_chain m is b c.args.place (C.knows c.args.caller.now) d c.requires.bucket (omega (arith, c.ranges.place)) s c.args.into slots.1 in
    let opened = c.open_window.ensures.opened d.after m.into_name table.heads (table.buckets b) d.known_now at.0 at.1 in
    let below = below_front s.own front c.args.from c.args.into m slots in
    let size : length own.stack ≡ c.args.top + 1 = length_push s.own.stack front ∙ ap (λ n. n + 1) c.requires.top in
    let first = laid_start m is b c.args.place c.window_of-window.result own (C.standing c.open_window.new.caller).own (C.knows c.args.caller.now) (C.knows c.open_window.new.caller) d opened.1
    (λ other has. let lacks = d.aside other has in c.open_window.ensures.aside d.after m.into_name table.heads (table.buckets b) other d.known_now at.0 at.1 (d.others_known other has) (lacks.head, lacks.links b c.requires.bucket)) opened.0 in
    let y = c.merge_on-merged.ensures.merged m is c.args.place own below size first in
    let laid = y.laid in
    let long = laid_size own (drop c.window_of-window.result (((y.merged).into_table).buckets b)) c.merge_on-merged.result.1 (C.standing c.merge_on-merged.new.caller).own laid.1 in
    ((y.merged).after, (y.merged).known_now)

pub pop_all-requires-clause-slots : goal.pop_all-requires-clause-slots
pop_all-requires-clause-slots g c =
    let C = g.C.Caller in
    let s = C.standing c.args.caller.now in
    let h = c.requires.tables in
    let m = h.0 in
    let is = h.1 in
    let slots = h.2 in
    let d = h.3 in
    let b = c.args.bucket in
    let table = d.into_table in
    let front = get_or table.heads b datum.Null in
    let own = pushed s.own front in
    let at = into_chain m is b c.args.place (C.knows c.args.caller.now) d c.requires.bucket (omega (arith, c.ranges.place)) s c.args.into slots.1 in
    let opened = c.open_window.ensures.opened d.after m.into_name table.heads (table.buckets b) d.known_now at.0 at.1 in
    let below = below_front s.own front c.args.from c.args.into m slots in
    let size : length own.stack ≡ c.args.top + 1 = length_push s.own.stack front ∙ ap (λ n. n + 1) c.requires.top in
    let first = laid_start m is b c.args.place c.window_of-window.result own (C.standing c.open_window.new.caller).own (C.knows c.args.caller.now) (C.knows c.open_window.new.caller) d opened.1
    (λ other has. let lacks = d.aside other has in c.open_window.ensures.aside d.after m.into_name table.heads (table.buckets b) other d.known_now at.0 at.1 (d.others_known other has) (lacks.head, lacks.links b c.requires.bucket)) opened.0 in
    let y = c.merge_on-merged.ensures.merged m is c.args.place own below size first in
    let laid = y.laid in
    let long = laid_size own (drop c.window_of-window.result (((y.merged).into_table).buckets b)) c.merge_on-merged.result.1 (C.standing c.merge_on-merged.new.caller).own laid.1 in
    omega (arith, long, size)

pub returns-clause-merged : goal.returns-clause-merged
returns-clause-merged g c m is slots d =
    let C = g.C.Caller in
    let s = C.standing c.args.caller.now in
    let b = c.args.bucket in
    let table = d.into_table in
    let front = get_or table.heads b datum.Null in
    let own = pushed s.own front in
    let at = into_chain m is b c.args.place (C.knows c.args.caller.now) d c.requires.bucket (omega (arith, c.ranges.place)) s c.args.into slots.1 in
    let opened = c.open_window.ensures.opened d.after m.into_name table.heads (table.buckets b) d.known_now at.0 at.1 in
    let below = below_front s.own front c.args.from c.args.into m slots in
    let size : length own.stack ≡ c.args.top + 1 = length_push s.own.stack front ∙ ap (λ n. n + 1) c.requires.top in
    let first = laid_start m is b c.args.place c.window_of-window.result own (C.standing c.open_window.new.caller).own (C.knows c.args.caller.now) (C.knows c.open_window.new.caller) d opened.1
    (λ other has. let lacks = d.aside other has in c.open_window.ensures.aside d.after m.into_name table.heads (table.buckets b) other d.known_now at.0 at.1 (d.others_known other has) (lacks.head, lacks.links b c.requires.bucket)) opened.0 in
    let y = c.merge_on-merged.ensures.merged m is c.args.place own below size first in
    let laid = y.laid in
    let long = laid_size own (drop c.window_of-window.result (((y.merged).into_table).buckets b)) c.merge_on-merged.result.1 (C.standing c.merge_on-merged.new.caller).own laid.1 in
    let same = c.pop_all.ensures.popped ∙ window_dropped s.own front (drop c.window_of-window.result (((y.merged).into_table).buckets b)) c.merge_on-merged.result.1 (C.standing c.merge_on-merged.new.caller).own laid.1 in
    laid_end C.base C.tells C.tells_known C.standing m is b c.args.place (c.args.place + c.merge_on-merged.result.0) c.window_of-window.result c.merge_on-merged.result.1 c.args.caller.now c.pop_all.new.caller own (C.standing c.merge_on-merged.new.caller).own (C.knows c.merge_on-merged.new.caller) (C.knows c.pop_all.new.caller) y c.pop_all.ensures.keeps
    (ran_more C.base C.tells C.tells_known C.standing _ _ _ (ran_more C.base C.tells C.tells_known C.standing _ _ _ c.open_window.ensures.ran c.merge_on-merged.ensures.ran) c.pop_all.ensures.ran) same
