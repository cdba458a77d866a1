use Rattle.std.proofs.Common.{replicate, refl}
use Rattle.yak_model.specs.declared.TheConstants.{BUCKETS}
use Rattle.yak_model.specs.declared.datum.Datum.TheVariants as datum
use Rattle.heap_tables.specs.Runs.{next_of, with_new}
use Rattle.heap_tables.proofs.RaisedCounts.{empty_counts}
use Rattle.heap_tables.proofs.OnResult.{ok_map}
use Rattle.heap_tables.proofs.Raised.{empty_table}
use Rattle.heap_tables.proofs.tables.make.Goals as goal

pub returns-clause-made : goal.returns-clause-made
returns-clause-made g c = ok_map c.push_new.result _ _
    (λ made known k.
    let m = made known k in
    let s = g.C.Caller.standing c.args.caller.now in
    (m.0, (empty_counts (with_new s known BUCKETS) (next_of s) (replicate BUCKETS datum.Null) (empty_table known (next_of s) BUCKETS refl), λ b. refl), m.1))
    c.push_new.ensures.made
