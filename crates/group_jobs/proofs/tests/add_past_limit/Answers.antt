use Rattle.std.proofs.Common.{◌∙◌, arith}
use Rattle.std.specs.FinMap.{empty}
use Rattle.object_layout.specs.declared.TheConstants.{MAX_INT}
use Rattle.yak_model.specs.declared.TheConstants.{BUCKETS}
use Rattle.heap_tables.specs.Counted.{raised}
use Rattle.heap_tables.specs.Runs.{next_of, with_new}
use Rattle.group_jobs.proofs.OneWord.{counts_one, look_first, look_next, may_first}
use Rattle.group_jobs.proofs.tests.add_past_limit.Goals as goal

pub add_checked-requires-clause-table : goal.add_checked-requires-clause-table
add_checked-requires-clause-table g c =
    let C = g.C.Caller in
    let s = C.standing c.args.caller.now in
    let h = c.requires.some in
    let m = c.in_ok-make.ensures.made h.0 h.1 in
    (with_new s h.0 BUCKETS, next_of s, empty, m.0, look_first s (C.standing c.make.new.caller) h.0 c.args.word.now c.in_ok-make.ensures.pushed c.requires.slots m.1.0)

pub add_checked-more-requires-clause-table : goal.add_checked-more-requires-clause-table
add_checked-more-requires-clause-table g c =
    let C = g.C.Caller in
    let s = C.standing c.args.caller.now in
    let h = c.requires.some in
    let word = c.args.word.now in
    let m = c.in_ok-make.ensures.made h.0 h.1 in
    let may = may_first s (C.standing c.make.new.caller) h.0 word MAX_INT (omega arith) c.in_ok-make.ensures.pushed c.requires.slots m.1.0 in
    let r = c.in_ok-add_checked.ensures.counted (with_new s h.0 BUCKETS) (next_of s) empty may m.0 in
    (r.1.0, next_of s, raised empty word MAX_INT, r.1.1, look_next (C.standing c.make.new.caller) (C.standing c.add_checked.new.caller) r.1.0 word MAX_INT (next_of s) may.slot c.in_ok-add_checked.ensures.stack r.1.2)

pub count_of-count-requires-clause-table : goal.count_of-count-requires-clause-table
count_of-count-requires-clause-table g c =
    let C = g.C.Caller in
    let s = C.standing c.args.caller.now in
    let h = c.requires.some in
    let word = c.args.word.now in
    let m = c.in_ok-make.ensures.made h.0 h.1 in
    let may = may_first s (C.standing c.make.new.caller) h.0 word MAX_INT (omega arith) c.in_ok-make.ensures.pushed c.requires.slots m.1.0 in
    let r = c.in_ok-add_checked.ensures.counted (with_new s h.0 BUCKETS) (next_of s) empty may m.0 in
    let look = look_next (C.standing c.make.new.caller) (C.standing c.add_checked.new.caller) r.1.0 word MAX_INT (next_of s) may.slot c.in_ok-add_checked.ensures.stack r.1.2 in
    let large = (c.add_checked-more.ensures.too_large r.1.0 (next_of s) (raised empty word MAX_INT) r.1.1 look).1 (let one = counts_one word MAX_INT in omega (arith, one)) in
    (r.1.0, next_of s, raised empty word MAX_INT, c.add_checked-more.ensures.keeps large r.1.0 (next_of s) (raised empty word MAX_INT) r.1.1 look, look_next (C.standing c.make.new.caller) (C.standing c.add_checked-more.new.caller) r.1.0 word MAX_INT (next_of s) may.slot (c.add_checked-more.ensures.stack ∙ c.in_ok-add_checked.ensures.stack) r.1.2)
