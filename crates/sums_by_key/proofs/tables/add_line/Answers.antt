use Rattle.std.proofs.Common.{◌++◌, ◌∷◌, [], List, get_or, ap, ◌∙◌, arith, length-append}
use Rattle.yak_model.specs.Private.{KnownObjects}
use Rattle.yak_model.specs.Standing.{Standing}
use Rattle.yak_model.specs.Tables.{bucket_of}
use Rattle.yak_model.specs.declared.datum.Datum.{Datum}
use Rattle.yak_model.specs.declared.datum.Datum.TheVariants as datum
use Rattle.heap_tables.specs.Counted.{MayCount}
use Rattle.heap_tables.proofs.RaisedCounts.{bucket_small}
use Rattle.heap_tables.proofs.OnResult.{ok_map}
use Rattle.sums_by_key.specs.Held.{AreSummable, Holds}
use Rattle.sums_by_key.specs.declared.lines.Line.{Line}
use Rattle.sums_by_key.specs.declared.TheConstants.{TABLE_SLOT}
use Rattle.sums_by_key.proofs.Adding.{count_is, sum_small, sums_push, total_push}
use Rattle.sums_by_key.proofs.Bounds.{few_in_bucket}
use Rattle.sums_by_key.proofs.tables.add_line.Goals as goal

may_count : (s : Standing) (known : KnownObjects) (done : List Line) (line : Line) (h : Holds s known done) → AreSummable (done ++ line ∷ []) → MayCount s known TABLE_SLOT line.key.now line.number h.name h.sums
may_count s known done line h may = record {
  slot = h.slot;
  is_table = h.table;
  short = let n = few_in_bucket done h.sums h.are_sums known h.name h.table (bucket_of line.key.now) (bucket_small line.key.now) in let m = length-append done (line ∷ []) in omega (arith, n, m, may.few);
  sum = omega (arith, may.small, total_push done line, count_is done h.sums line.key.now h.are_sums, sum_small done line.key.now);
}

pub add-requires-clause-table : goal.add-requires-clause-table
add-requires-clause-table g c =
    let r = c.requires.held in
    let h = r.1.2 in
    (r.1.0, h.name, h.sums, r.1.1, may_count (g.C.Caller.standing c.args.caller.now) r.1.0 r.0 c.args.line h r.2)

pub returns-clause-added : goal.returns-clause-added
unfolding may_count
returns-clause-added g c = ok_map c.add.result _ _
    (λ counted done held may.
    let C = g.C.Caller in
    let s = C.standing c.args.caller.now in
    let line = c.args.line in
    let h = held.2 in
    let m = may_count s held.0 done line h may in
    let r = counted held.0 h.name h.sums m held.1 in (
      r.1.0,
      r.1.1,
      record {
        name = h.name;
        slot = ap (λ (st : List Datum). get_or st TABLE_SLOT datum.Null) c.add.ensures.stack ∙ h.slot;
        sums = _;
        are_sums = sums_push done line h.sums h.are_sums;
        table = r.1.2;
      },
    ))
    c.add.ensures.counted
