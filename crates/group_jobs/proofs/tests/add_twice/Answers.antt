use Rattle.std.proofs.Common.{◌≡◌, ◌+◌, ℕ, List, ap, ◌∙◌, arith, get_or, length}
use Rattle.std.specs.FinMap.{empty}
use Rattle.object_layout.specs.declared.names.Name.{Name}
use Rattle.yak_model.specs.declared.TheConstants.{BUCKETS}
use Rattle.yak_model.specs.declared.datum.Datum.{Datum}
use Rattle.yak_model.specs.declared.datum.Datum.TheVariants as datum
use Rattle.yak_model.specs.Graph.{Thread}
use Rattle.yak_model.specs.Private.{KnownObjects}
use Rattle.yak_model.specs.Standing.{Standing}
use Rattle.yak_model.specs.Tables.{IsCountTable}
use Rattle.heap_tables.specs.Counted.{raised}
use Rattle.heap_tables.specs.Cursors.{MayWalk}
use Rattle.heap_tables.specs.Runs.{next_of, with_new}
use Rattle.heap_tables.proofs.Effects.{length_push}
use Rattle.heap_tables.proofs.OnResult.{ok_map}
use Rattle.heap_tables.proofs.Wholes.{bucket_few}
use Rattle.group_jobs.specs.declared.TheConstants.{TOTAL_SLOT}
use Rattle.group_jobs.proofs.OneWord.{may_first, may_next, no_words, one_more}
use Rattle.group_jobs.proofs.tests.add_twice.Goals as goal

abbrev may_walk : (s now : Standing) (known : KnownObjects) (word : List ℕ) (name : Name) → get_or s.own.stack TOTAL_SLOT datum.Null ≡ datum.Object name → now.own.stack ≡ s.own.stack → (table : IsCountTable known name (raised (raised empty word 1) word 1)) → MayWalk now known TOTAL_SLOT name (raised (raised empty word 1) word 1)
may_walk s now known word name slot same table = record {
  slot = ap (λ (st : List Datum). get_or st TOTAL_SLOT datum.Null) same ∙ slot;
  is_table = table;
  few = λ b h. let few = bucket_few known name (raised (raised empty word 1) word 1) table b h in let first = one_more empty word 1 in let second = one_more (raised empty word 1) word 1 in omega (arith, few, first, second, no_words);
}

pub add-requires-clause-table : goal.add-requires-clause-table
add-requires-clause-table g c =
    let C = g.C.Caller in
    let s = C.standing c.args.caller.now in
    let h = c.requires.some in
    let m = c.in_ok-make.ensures.made h.0 h.1 in
    (with_new s h.0 BUCKETS, next_of s, empty, m.0, may_first s (C.standing c.make.new.caller) h.0 c.args.word.now 1 (omega arith) c.in_ok-make.ensures.pushed c.requires.slots m.1.0)

pub add-requires-2-clause-table : goal.add-requires-2-clause-table
add-requires-2-clause-table g c =
    let C = g.C.Caller in
    let s = C.standing c.args.caller.now in
    let h = c.requires.some in
    let word = c.args.word.now in
    let m = c.in_ok-make.ensures.made h.0 h.1 in
    let may = may_first s (C.standing c.make.new.caller) h.0 word 1 (omega arith) c.in_ok-make.ensures.pushed c.requires.slots m.1.0 in
    let r = c.in_ok-add.ensures.counted (with_new s h.0 BUCKETS) (next_of s) empty may m.0 in
    (r.1.0, next_of s, raised empty word 1, r.1.1, may_next (C.standing c.make.new.caller) (C.standing c.add.new.caller) r.1.0 word 1 1 (next_of s) (omega arith) may.slot c.in_ok-add.ensures.stack r.1.2)

pub returns-clause-table : goal.returns-clause-table
returns-clause-table g c = ok_map c.add-2.result _ _
    (λ counted.
    let C = g.C.Caller in
    let s = C.standing c.args.caller.now in
    let h = c.requires.some in
    let word = c.args.word.now in
    let m = c.in_ok-make.ensures.made h.0 h.1 in
    let may = may_first s (C.standing c.make.new.caller) h.0 word 1 (omega arith) c.in_ok-make.ensures.pushed c.requires.slots m.1.0 in
    let r = c.in_ok-add.ensures.counted (with_new s h.0 BUCKETS) (next_of s) empty may m.0 in
    let next = may_next (C.standing c.make.new.caller) (C.standing c.add.new.caller) r.1.0 word 1 1 (next_of s) (omega arith) may.slot c.in_ok-add.ensures.stack r.1.2 in
    let q = counted r.1.0 (next_of s) (raised empty word 1) next r.1.1 in
    (q.1.0, next_of s, raised (raised empty word 1) word 1, q.1.1, may_walk (C.standing c.add.new.caller) (C.standing c.add-2.new.caller) q.1.0 word (next_of s) next.slot c.add-2.ensures.stack q.1.2))
    c.add-2.ensures.counted

pub returns-clause-slots : goal.returns-clause-slots
returns-clause-slots g c = ok_map c.add-2.result _ _
    (λ _. ap (λ (st : List Datum). length st) (c.add-2.ensures.stack ∙ c.in_ok-add.ensures.stack) ∙ ap (λ (o : Thread). length o.stack) c.in_ok-make.ensures.pushed ∙ length_push (g.C.Caller.standing c.args.caller.now).own.stack (datum.Object (next_of (g.C.Caller.standing c.args.caller.now))) ∙ ap (λ n. n + 1) c.requires.slots)
    c.add-2.ensures.counted
