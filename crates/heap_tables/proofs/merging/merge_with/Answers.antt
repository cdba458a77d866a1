use Rattle.std.proofs.Common.{◌∙◌, ap, arith, length, [], subst, ◌∷◌}
use Rattle.yak_model.specs.declared.TheConstants.{BUCKETS}
use Rattle.yak_model.specs.Graph.{Thread}
use Rattle.heap_tables.specs.Merges.{AreSlots, walk}
use Rattle.heap_tables.proofs.Effects.{value_same}
use Rattle.heap_tables.proofs.OnResult.{err_map, ok_map, either}
use Rattle.heap_tables.proofs.Untouched.{goes_nowhere, goes_stops, goes_then, merged_none}
use Rattle.heap_tables.proofs.Wholes.{is_merge, merge_of, merged_part, merged_whole}
use Rattle.heap_tables.proofs.Asides.{no_others, one_other}
use Rattle.std.specs.List.{Contains}
use Rattle.std.proofs.lemmas.List.Elements.{Contains-get_or}
use Rattle.heap_tables.specs.Asides.{LacksTable}
use Rattle.yak_model.specs.Private.{KnownObjects}
use Rattle.heap_tables.proofs.Effects.{in_bounds}
use Rattle.heap_tables.proofs.merging.merge_with.Goals as goal

pub merge_buckets-requires-clause-tables : goal.merge_buckets-requires-clause-tables
merge_buckets-requires-clause-tables g c =
    let C = g.C.Caller in
    let s = C.standing c.args.caller.now in
    let h = c.requires.tables in
    let may = h.6 in
    let own = c.stack_size-top.ensures.own in
    let m = merge_of s h.0 c.args.from c.args.into h.1 h.2 h.3 h.4 may [] (λ other has. absurd (no_others other has)) in
    let is = is_merge s h.0 c.args.from c.args.into h.1 h.2 h.3 h.4 may [] (λ other has. absurd (no_others other has)) in
    let slots : AreSlots (C.standing c.stack_size-top.new.caller) c.args.from c.args.into m = (value_same s.own _ c.args.from own ∙ may.from_slot, value_same s.own _ c.args.into own ∙ may.into_slot) in
    (m, is, slots, merged_none m is (C.knows c.stack_size-top.new.caller) (c.stack_size-top.ensures.keeps h.0 h.5) (λ other has. absurd (no_others other has)))

pub merge_buckets-requires-clause-names : goal.merge_buckets-requires-clause-names
merge_buckets-requires-clause-names g c = omega (arith, c.requires.names, ap (λ (o : Thread). o.made) c.stack_size-top.ensures.own)

pub merge_buckets-requires-clause-room : goal.merge_buckets-requires-clause-room
merge_buckets-requires-clause-room g c = omega (arith, c.requires.room, ap (λ (o : Thread). length o.stack) c.stack_size-top.ensures.own)

pub returns-clause-merged : goal.returns-clause-merged
returns-clause-merged g c = ok_map c.merge_buckets.result _ _
    (λ merged known from_name into_name from_counts into_counts may k.
    let C = g.C.Caller in
    let s = C.standing c.args.caller.now in
    let own = c.stack_size-top.ensures.own in
    let m = merge_of s known c.args.from c.args.into from_name into_name from_counts into_counts may [] (λ other has. absurd (no_others other has)) in
    let is = is_merge s known c.args.from c.args.into from_name into_name from_counts into_counts may [] (λ other has. absurd (no_others other has)) in
    let slots : AreSlots (C.standing c.stack_size-top.new.caller) c.args.from c.args.into m = (value_same s.own _ c.args.from own ∙ may.from_slot, value_same s.own _ c.args.into own ∙ may.into_slot) in
    let none = merged_none m is (C.knows c.stack_size-top.new.caller) (c.stack_size-top.ensures.keeps known k) (λ other has. absurd (no_others other has)) in
    let first = goes_nowhere C.base C.tells C.tells_known C.standing m is [] c.args.caller.now c.stack_size-top.new.caller (C.knows c.stack_size-top.new.caller) none c.stack_size-top.ensures.ran own in
    let goes = goes_then C.base C.tells C.tells_known C.standing m is [] [] (walk (may.from_table).buckets BUCKETS) c.args.caller.now c.stack_size-top.new.caller c.merge_buckets.new.caller (C.knows c.stack_size-top.new.caller) (C.knows c.merge_buckets.new.caller) first (merged m is slots none) in
    merged_whole s known c.args.from c.args.into from_name into_name from_counts into_counts may [] (λ other has. absurd (no_others other has)) C.base C.tells C.tells_known C.standing c.args.caller.now c.merge_buckets.new.caller (C.knows c.merge_buckets.new.caller) goes)
    c.merge_buckets.ensures.merged

pub returns-clause-stopped : goal.returns-clause-stopped
returns-clause-stopped g c = err_map c.merge_buckets.result _ _
    (λ stopped known from_name into_name from_counts into_counts may k.
    let C = g.C.Caller in
    let s = C.standing c.args.caller.now in
    let own = c.stack_size-top.ensures.own in
    let m = merge_of s known c.args.from c.args.into from_name into_name from_counts into_counts may [] (λ other has. absurd (no_others other has)) in
    let is = is_merge s known c.args.from c.args.into from_name into_name from_counts into_counts may [] (λ other has. absurd (no_others other has)) in
    let slots : AreSlots (C.standing c.stack_size-top.new.caller) c.args.from c.args.into m = (value_same s.own _ c.args.from own ∙ may.from_slot, value_same s.own _ c.args.into own ∙ may.into_slot) in
    let none = merged_none m is (C.knows c.stack_size-top.new.caller) (c.stack_size-top.ensures.keeps known k) (λ other has. absurd (no_others other has)) in
    let first = goes_nowhere C.base C.tells C.tells_known C.standing m is [] c.args.caller.now c.stack_size-top.new.caller (C.knows c.stack_size-top.new.caller) none c.stack_size-top.ensures.ran own in
    let stops = goes_stops C.base C.tells C.tells_known C.standing m is [] [] c.args.caller.now c.stack_size-top.new.caller c.merge_buckets.new.caller (C.knows c.stack_size-top.new.caller) (C.knows c.merge_buckets.new.caller) first (stopped m is slots none) in
    merged_part s known c.args.from c.args.into from_name into_name from_counts into_counts may [] (λ other has. absurd (no_others other has)) C.base C.tells C.tells_known C.standing c.args.caller.now c.merge_buckets.new.caller (C.knows c.merge_buckets.new.caller) stops)
    c.merge_buckets.ensures.stopped

pub returns-clause-aside : goal.returns-clause-aside
returns-clause-aside g c known from_name into_name from_counts into_counts may other k ko from_lacks into_lacks =
    let C = g.C.Caller in
    let s = C.standing c.args.caller.now in
    let own = c.stack_size-top.ensures.own in
    let keeps = c.stack_size-top.ensures.keeps in
    let asides : (o : KnownObjects) → Contains (other ∷ []) o → LacksTable o from_name (may.from_table).buckets × LacksTable o into_name (may.into_table).buckets =
    λ o has. (subst (λ x. LacksTable x from_name (may.from_table).buckets) (one_other other o has) from_lacks, subst (λ x. LacksTable x into_name (may.into_table).buckets) (one_other other o has) into_lacks) in
    let m = merge_of s known c.args.from c.args.into from_name into_name from_counts into_counts may (other ∷ []) asides in
    let is = is_merge s known c.args.from c.args.into from_name into_name from_counts into_counts may (other ∷ []) asides in
    let slots : AreSlots (C.standing c.stack_size-top.new.caller) c.args.from c.args.into m = (value_same s.own _ c.args.from own ∙ may.from_slot, value_same s.own _ c.args.into own ∙ may.into_slot) in
    let none = merged_none m is (C.knows c.stack_size-top.new.caller) (keeps known k) (λ o has. subst (C.knows c.stack_size-top.new.caller) (one_other other o has) (keeps other ko)) in
    let only : Contains (other ∷ []) other = Contains-get_or (other ∷ []) 0 other (omega arith) in
    either c.merge_buckets.result _ (ok_map c.merge_buckets.result _ _ (λ merged. ((merged m is slots none).merged).others_known other only) c.merge_buckets.ensures.merged)
    (err_map c.merge_buckets.result _ _ (λ stopped. ((stopped m is slots none).merged).others_known other only) c.merge_buckets.ensures.stopped)

pub stack_size-top-requires-clause-slot : goal.stack_size-top-requires-clause-slot
stack_size-top-requires-clause-slot g c = let h = c.requires.tables in in_bounds _ _ h.2 (h.6).into_slot
