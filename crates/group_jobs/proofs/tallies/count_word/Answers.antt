use Rattle.std.proofs.Common.{ℕ, ◌+◌, ◌≤◌, List, length, get_or, ap, arith}
use Rattle.yak_model.specs.Private.{KnownObjects}
use Rattle.yak_model.specs.Standing.{Standing}
use Rattle.yak_model.specs.Tables.{bucket_of}
use Rattle.yak_model.specs.declared.datum.Datum.{Datum}
use Rattle.yak_model.specs.declared.datum.Datum.TheVariants as datum
use Rattle.heap_tables.specs.Counted.{MayCount}
use Rattle.heap_tables.proofs.RaisedCounts.{bucket_small}
use Rattle.heap_tables.proofs.OnResult.{either, err_map, ok_both, ok_map}
use Rattle.yak_model.specs.Texts.{word_counts}
use Rattle.object_layout.specs.declared.names.Name.{Name}
use Rattle.group_jobs.specs.Tallies.{Tallies}
use Rattle.group_jobs.proofs.Grown.{add_thread, within_add, within_add_out}
use Rattle.group_jobs.specs.declared.TheConstants.{MOST_WORDS, PART_SLOT}
use Rattle.group_jobs.proofs.Tallying.{count_is, few_in_bucket, few_places, tallies_more}
use Rattle.group_jobs.proofs.tallies.count_word.Goals as goal

may_count : (s : Standing) (known : KnownObjects) (name : Name) (done doing : List (List ℕ)) (word : List ℕ) (t : Tallies s known name done doing) → length done + (length doing + 1) ≤ MOST_WORDS → MayCount s known PART_SLOT word 1 name (word_counts doing)
may_count s known name done doing word t few = record {
  slot = t.slot;
  is_table = t.table;
  short = let h = few_in_bucket doing known name t.table (bucket_of word) (bucket_small word) in omega (arith, few, h);
  sum = omega (arith, few, few_places doing word, count_is doing word);
}

pub add-requires-clause-table : goal.add-requires-clause-table
add-requires-clause-table g c =
    let h = c.requires.tables in
    (h.0, h.1, word_counts h.3, h.4, may_count (g.C.Caller.standing c.args.caller.now) h.0 h.1 h.2 h.3 c.args.word.now h.5 h.6)

pub returns-clause-counted : goal.returns-clause-counted
unfolding may_count
returns-clause-counted g c = ok_map c.add.result _ _
    (λ both known name done doing k t few.
    let C = g.C.Caller in
    let s = C.standing c.args.caller.now in
    let word = c.args.word.now in
    let may : MayCount s known PART_SLOT word 1 name (word_counts doing) = may_count s known name done doing word t few in
    let r = both.0 known name (word_counts doing) may k in
    let ran = add_thread C.base C.tells C.tells_known C.standing c.args.caller.now c.add.new.caller word both.1 in
    tallies_more s (C.standing c.add.new.caller) known r.1.0 (C.knows c.add.new.caller) name done doing word (bucket_of word) (bucket_small word)
    (λ i. ap (λ (st : List Datum). get_or st i datum.Null) c.add.ensures.stack) t r.1.1 r.1.2 r.1.3 r.1.4 r.1.6 ran.0 ran.1)
    (ok_both c.add.result _ _ c.add.ensures.counted c.add.ensures.ran)

pub returns-clause-list : goal.returns-clause-list
returns-clause-list g c =
    let C = g.C.Caller in
    let s = c.args.caller.now in
    let w = c.add.new.caller in
    either c.add.result _
    (ok_map c.add.result _ _ (within_add C.base C.tells C.tells_known C.standing s w c.args.word.now) c.add.ensures.ran)
    (err_map c.add.result _ _ (within_add_out C.base C.tells C.tells_known C.standing s w c.args.word.now) c.add.ensures.ran_out)
