use Rattle.std.proofs.Common.{◌≡◌, inl, inr, ⊎_elim, ℕ, ◌+◌, ◌∙◌, ap, arith, List, refl, subst}
use Rattle.object_layout.specs.declared.names.Name.{Name}
use Rattle.yak_model.specs.Graph.{Thread}
use Rattle.yak_model.specs.Private.{KnownObjects}
use Rattle.yak_model.specs.Standing.{Standing}
use Rattle.yak_model.specs.Texts.{WordCounts}
use Rattle.heap_tables.specs.Adds.{MayAdd, having_made}
use Rattle.heap_tables.specs.Counted.{MayCount, count_of}
use Rattle.heap_tables.proofs.RaisedCounts.{added_counts, bucket_small, count_found, grown_counts, lacks_none, makes_uncounted, stay_after, stay_nowhere}
use Rattle.yak_model.specs.Tables.{bucket_of}
use Rattle.heap_tables.proofs.Effects.{value_same}
use Rattle.heap_tables.proofs.Linked.{after_moved}
use Rattle.heap_tables.proofs.OnResult.{ok_both, ok_map, err_map}
use Rattle.heap_tables.proofs.RunOn.{ran_more, then_ran, then_out, next_same}
use Rattle.std.specs.FinMap.{insert}
use Rattle.heap_tables.proofs.Effects.{in_bounds}
use Rattle.heap_tables.proofs.tables.add.Goals as goal

may_add : (s now : Standing) → now.own ≡ s.own → (known : KnownObjects) (table : ℕ) (word : List ℕ) (n : ℕ) (name : Name) (counts : WordCounts) (may : MayCount s known table word n name counts) → MayAdd now known table word n name (may.is_table).heads (may.is_table).buckets
may_add s now own known table word n name counts may = record {
  slot = value_same s.own now.own table own ∙ may.slot;
  is_table = (may.is_table).table;
  short = let h = may.short in omega (arith, h);
  number = let h = may.sum in omega (arith, h);
  sum = λ count h. let e : count_of counts word ≡ count = count_found known name counts may.is_table word n (bucket_small word) count h in omega (arith, e, may.sum);
}

pub add_links-requires-clause-table : goal.add_links-requires-clause-table
add_links-requires-clause-table g c =
    let h = c.requires.table in
    (h.0, h.1, ((h.4).is_table).heads, ((h.4).is_table).buckets, c.stack_size-top.ensures.keeps h.0 h.3, may_add (g.C.Caller.standing c.args.caller.now) _ c.stack_size-top.ensures.own h.0 c.args.table c.args.word.now c.args.n h.1 h.2 h.4)

pub add_links-requires-clause-names : goal.add_links-requires-clause-names
add_links-requires-clause-names g c = omega (arith, c.requires.names, ap (λ (o : Thread). o.made) c.stack_size-top.ensures.own)

pub returns-clause-ran : goal.returns-clause-ran
returns-clause-ran g c =
    let C = g.C.Caller in
    let own = c.stack_size-top.ensures.own in
    let first = c.stack_size-top.ensures.ran in
    ok_map c.add_links.result _ _
    (⊎_elim (λ x. inl (ran_more C.base C.tells C.tells_known C.standing _ _ _ first x.0, x.1 ∙ own))
    (λ x. inr (then_ran C.base C.tells C.tells_known C.standing _ _ _ _ first x.0, x.1 ∙ ap (λ o. having_made o 2) own)))
    c.add_links.ensures.ran

pub returns-clause-ran_out : goal.returns-clause-ran_out
returns-clause-ran_out g c =
    let C = g.C.Caller in
    let own = c.stack_size-top.ensures.own in
    let first = c.stack_size-top.ensures.ran in
    err_map c.add_links.result _ _
    (⊎_elim (λ x. inl (then_out C.base C.tells C.tells_known C.standing _ _ _ 0 _ first x.0, x.1 ∙ own))
    (λ x. inr (then_out C.base C.tells C.tells_known C.standing _ _ _ _ _ first x.0, x.1 ∙ ap (λ o. having_made o 1) own)))
    c.add_links.ensures.ran_out

pub returns-clause-counted : goal.returns-clause-counted
returns-clause-counted g c = ok_map c.add_links.result _ _
    (λ both known name counts may k.
    let C = g.C.Caller in
    let s = C.standing c.args.caller.now in
    let table = may.is_table in
    let word = c.args.word.now in
    let may_too = may_add s _ c.stack_size-top.ensures.own known c.args.table word c.args.n name counts may in
    let told = both.0 known name table.heads table.buckets (c.stack_size-top.ensures.keeps known k) may_too in
    let added = told.0 in
    let stay = after_moved (C.standing c.stack_size-top.new.caller) s (table.buckets (bucket_of word)) added.links c.stack_size-top.ensures.ran.since.thread (ap (λ (o : Thread). o.made) c.stack_size-top.ensures.own) told.1 in
    let made = both.1 known name table.heads table.buckets (c.stack_size-top.ensures.keeps known k) may_too in
    let same = ap (λ (o : Thread). o.made) c.stack_size-top.ensures.own in
    let makes = makes_uncounted (C.standing c.stack_size-top.new.caller) (C.standing c.add_links.new.caller) known name counts table word made in (
      (λ some. makes.0 some ∙ same, λ none. makes.1 none ∙ ap (λ m. m + 2) same),
      (added.after, added.known_now, added_counts known name counts table word c.args.n (bucket_small word) (C.knows c.add_links.new.caller) added, added.others, stay_nowhere known table.buckets word c.args.n name (C.knows c.add_links.new.caller) added, (added.links, refl, added.adds), stay_after s table.buckets word added.links stay),
    ))
    (ok_both c.add_links.result _ _ c.add_links.ensures.added c.add_links.ensures.made)

pub returns-clause-kept : goal.returns-clause-kept
returns-clause-kept g c = err_map c.add_links.result _ _
    (λ kept known name counts may k.
    let table = may.is_table in
    let r = kept known name table.heads table.buckets (c.stack_size-top.ensures.keeps known k) (may_add (g.C.Caller.standing c.args.caller.now) _ c.stack_size-top.ensures.own known c.args.table c.args.word.now c.args.n name counts may) in
    (lacks_none known name counts table c.args.word.now r.3, (r.0, r.1, grown_counts known r.0 r.2 name counts table, r.2, refl)))
    c.add_links.ensures.kept

pub returns-clause-aside : goal.returns-clause-aside
returns-clause-aside g c = ok_map c.add_links.result _ _
    (λ aside known name counts may other k ko lacks.
    aside known name (may.is_table).heads (may.is_table).buckets other (c.stack_size-top.ensures.keeps known k) (may_add (g.C.Caller.standing c.args.caller.now) _ c.stack_size-top.ensures.own known c.args.table c.args.word.now c.args.n name counts may) (c.stack_size-top.ensures.keeps other ko) lacks)
    c.add_links.ensures.aside

pub returns-clause-left : goal.returns-clause-left
returns-clause-left g c = err_map c.add_links.result _ _
    (λ left known name counts may other k ko lacks.
    let s = g.C.Caller.standing c.args.caller.now in
    let next = next_same s (g.C.Caller.standing c.stack_size-top.new.caller) c.stack_size-top.ensures.ran.since.thread (ap (λ (o : Thread). o.made) c.stack_size-top.ensures.own) in
    elim (left known name (may.is_table).heads (may.is_table).buckets other (c.stack_size-top.ensures.keeps known k) (may_add s _ c.stack_size-top.ensures.own known c.args.table c.args.word.now c.args.n name counts may) (c.stack_size-top.ensures.keeps other ko) lacks) [
      | inl h ↦ inl h
      | inr h ↦ inr (h.0, subst (λ n. g.C.Caller.knows c.add_links.new.caller (insert other n h.0)) next h.1)
    ])
    c.add_links.ensures.left

pub stack_size-top-requires-clause-slot : goal.stack_size-top-requires-clause-slot
stack_size-top-requires-clause-slot g c = let h = c.requires.table in in_bounds _ _ h.1 (h.4).slot
