use Rattle.std.proofs.Common.{◌+◌, [], ◌∷◌, ◌++◌, length, get_or, ◌∙◌, ap}
use Rattle.std.specs.FinMap.{empty, get-empty}
use Rattle.yak_model.specs.Graph.{Thread}
use Rattle.yak_model.specs.Texts.{word_cmp}
use Rattle.yak_model.specs.declared.TheConstants.{BUCKETS}
use Rattle.yak_model.specs.declared.datum.Datum.TheVariants as datum
use Rattle.heap_tables.specs.Runs.{next_of, with_new}
use Rattle.heap_tables.proofs.OnResult.{ok_both, ok_map}
use Rattle.sums_by_key.specs.declared.TheConstants.{TABLE_SLOT}
use Rattle.sums_by_key.proofs.sums.open_table.Goals as goal

pub returns-clause-own : goal.returns-clause-own
returns-clause-own g c = ok_map c.make.result _ _
    (λ e.
    let s = g.C.Caller.standing c.args.caller.now in
    let own = c.requires.own in
    record {
      slots = ap (λ (o : Thread). length o.stack) e ∙ ap (λ (o : Thread). length (o.stack ++ datum.Object (next_of s) ∷ [])) own;
      depth = ap (λ (o : Thread). o.depth) e ∙ ap (λ (o : Thread). o.depth) own;
      made = ap (λ (o : Thread). o.made) e ∙ ap (λ (o : Thread). o.made + 1) own;
    })
    c.make.ensures.pushed

pub returns-clause-held : goal.returns-clause-held
returns-clause-held g c = ok_map c.make.result _ _
    (λ both.
    let C = g.C.Caller in
    let s = C.standing c.args.caller.now in
    let k = c.requires.some in
    let m = both.1 k.0 k.1 in (
      with_new s k.0 BUCKETS,
      m.0,
      record {
        name = next_of s;
        slot = ap (λ (o : Thread). get_or o.stack TABLE_SLOT datum.Null) both.0 ∙ ap (λ (o : Thread). get_or (o.stack ++ datum.Object (next_of s) ∷ []) TABLE_SLOT datum.Null) c.requires.own;
        sums = empty;
        are_sums = λ key. get-empty word_cmp key;
        table = m.1.0;
      },
    ))
    (ok_both c.make.result _ _ c.make.ensures.pushed c.make.ensures.made)
