use Rattle.std.proofs.Common.{◌-◌, ◌≡◌, ◌+◌, ◌*◌, ◌^◌, ◌≤◌, ◌∙◌, ap, subst, refl, arith, length, []}
use Rattle.yak_model.specs.declared.TheConstants.{BUCKETS}
use Rattle.yak_model.specs.Graph.{Thread}
use Rattle.heap_tables.specs.Merges.{AreSlots, Goes, walk}
use Rattle.heap_tables.proofs.OnResult.{on_err}
use Rattle.heap_tables.proofs.RunOn.{ran_none}
use Rattle.heap_tables.proofs.Untouched.{goes_nowhere, goes_stops, goes_then, length_walk, made_slot}
use Rattle.heap_tables.proofs.merging.merge_buckets.Goals as goal

pub loop-bucket-init : goal.loop-bucket-init
loop-bucket-init g c =
    let C = g.C.Caller in
    let s = C.standing c.args.caller.now in
    record {
      buffer = refl;
      groups = refl;
      goes = λ m is slots d. goes_nowhere C.base C.tells C.tells_known C.standing m is [] c.args.caller.now c.args.caller.now (C.knows c.args.caller.now) d (ran_none C.base C.tells C.tells_known C.standing c.args.caller.now) refl;
    }

pub merge_bucket-requires-clause-tables : goal.merge_bucket-requires-clause-tables
merge_bucket-requires-clause-tables g c =
    let C = g.C.Caller in
    let s = C.standing c.args.caller.now in
    let h = c.requires.tables in
    let m = h.0 in
    let is = h.1 in
    let slots = h.2 in
    let d = h.3 in
    let G = c.loop-bucket.invariant.goes m is slots d in
    let own = G.own in
    let now_slots : AreSlots (C.standing c.loop-bucket.caller) c.args.from c.args.into m = (made_slot s (C.standing c.loop-bucket.caller) G.made c.args.from own ∙ slots.0, made_slot s (C.standing c.loop-bucket.caller) G.made c.args.into own ∙ slots.1) in
    (m, is, now_slots, G.merged)

pub merge_bucket-requires-clause-buffer : goal.merge_bucket-requires-clause-buffer
merge_bucket-requires-clause-buffer g c =
    let e = c.loop-bucket.invariant.buffer in omega (arith, c.requires.buffer, e)

pub merge_bucket-requires-clause-groups : goal.merge_bucket-requires-clause-groups
merge_bucket-requires-clause-groups g c =
    let e = c.loop-bucket.invariant.groups in omega (arith, c.requires.groups, e)

pub merge_bucket-requires-clause-names : goal.merge_bucket-requires-clause-names
merge_bucket-requires-clause-names g c =
    let C = g.C.Caller in
    let s = C.standing c.args.caller.now in
    let h = c.requires.tables in
    let m = h.0 in
    let is = h.1 in
    let slots = h.2 in
    let d = h.3 in
    let G = c.loop-bucket.invariant.goes m is slots d in
    let own = G.own in
    let now_slots : AreSlots (C.standing c.loop-bucket.caller) c.args.from c.args.into m = (made_slot s (C.standing c.loop-bucket.caller) G.made c.args.from own ∙ slots.0, made_slot s (C.standing c.loop-bucket.caller) G.made c.args.into own ∙ slots.1) in
    let few = G.few in
    let long = length_walk m.buckets is.from_few c.loop-bucket.bucket (omega (arith, c.loop-bucket-test.true)) in
    let most : c.loop-bucket.bucket * 2 ^ 32 ≤ (BUCKETS - 1) * 2 ^ 32 = omega (arith, c.loop-bucket-test.true) in
    omega (arith, c.requires.names, few, long, most, ap (λ (o : Thread). o.made) own)

pub merge_bucket-requires-clause-room : goal.merge_bucket-requires-clause-room
merge_bucket-requires-clause-room g c =
    let C = g.C.Caller in
    let s = C.standing c.args.caller.now in
    let h = c.requires.tables in
    let m = h.0 in
    let is = h.1 in
    let slots = h.2 in
    let d = h.3 in
    let G = c.loop-bucket.invariant.goes m is slots d in
    let own = G.own in
    let now_slots : AreSlots (C.standing c.loop-bucket.caller) c.args.from c.args.into m = (made_slot s (C.standing c.loop-bucket.caller) G.made c.args.from own ∙ slots.0, made_slot s (C.standing c.loop-bucket.caller) G.made c.args.into own ∙ slots.1) in
    omega (arith, c.requires.room, ap (λ (o : Thread). length o.stack) own)

pub merge_bucket-requires-clause-top : goal.merge_bucket-requires-clause-top
merge_bucket-requires-clause-top g c =
    let C = g.C.Caller in
    let s = C.standing c.args.caller.now in
    let h = c.requires.tables in
    let m = h.0 in
    let is = h.1 in
    let slots = h.2 in
    let d = h.3 in
    let G = c.loop-bucket.invariant.goes m is slots d in
    let own = G.own in
    let now_slots : AreSlots (C.standing c.loop-bucket.caller) c.args.from c.args.into m = (made_slot s (C.standing c.loop-bucket.caller) G.made c.args.from own ∙ slots.0, made_slot s (C.standing c.loop-bucket.caller) G.made c.args.into own ∙ slots.1) in
    omega (arith, c.requires.top, ap (λ (o : Thread). length o.stack) own)

pub returns-in_err-merge_bucket-clause-stopped : goal.returns-in_err-merge_bucket-clause-stopped
returns-in_err-merge_bucket-clause-stopped g c =
    let C = g.C.Caller in
    let s = C.standing c.args.caller.now in
    on_err c.from_residual.result _ (λ m is slots d.
    let G = c.loop-bucket.invariant.goes m is slots d in
    let own = G.own in
    let now_slots : AreSlots (C.standing c.loop-bucket.caller) c.args.from c.args.into m = (made_slot s (C.standing c.loop-bucket.caller) G.made c.args.from own ∙ slots.0, made_slot s (C.standing c.loop-bucket.caller) G.made c.args.into own ∙ slots.1) in
    goes_stops C.base C.tells C.tells_known C.standing m is [] (walk m.buckets c.loop-bucket.bucket) c.args.caller.now c.loop-bucket.caller c.merge_bucket.new.caller (C.knows c.loop-bucket.caller) (C.knows c.merge_bucket.new.caller) G (c.in_err-merge_bucket.ensures.stopped m is now_slots G.merged))

pub loop-bucket-preserved : goal.loop-bucket-preserved
loop-bucket-preserved g c =
    let C = g.C.Caller in
    let s = C.standing c.args.caller.now in
    record {
      buffer = c.merge_bucket.ensures.buffer ∙ c.loop-bucket.invariant.buffer;
      groups = c.merge_bucket.ensures.groups ∙ c.loop-bucket.invariant.groups;
      goes = λ m is slots d.
          let G = c.loop-bucket.invariant.goes m is slots d in
          let own = G.own in
          let now_slots : AreSlots (C.standing c.loop-bucket.caller) c.args.from c.args.into m = (made_slot s (C.standing c.loop-bucket.caller) G.made c.args.from own ∙ slots.0, made_slot s (C.standing c.loop-bucket.caller) G.made c.args.into own ∙ slots.1) in
          goes_then C.base C.tells C.tells_known C.standing m is [] (walk m.buckets c.loop-bucket.bucket) (walk m.buckets (c.loop-bucket.bucket + 1)) c.args.caller.now c.loop-bucket.caller c.merge_bucket.new.caller (C.knows c.loop-bucket.caller) (C.knows c.merge_bucket.new.caller) G (c.in_ok-merge_bucket.ensures.merged m is now_slots G.merged);
    }

pub returns-clause-merged : goal.returns-clause-merged
returns-clause-merged g c m is slots d =
    let C = g.C.Caller in
    let s = C.standing c.args.caller.now in
    let end : c.loop-bucket.bucket ≡ BUCKETS = omega (arith, c.loop-bucket-test.false, c.loop-bucket.auto.bucket-end) in
    subst (λ n. Goes C.base C.tells C.tells_known C.standing m is [] (walk m.buckets n) c.args.caller.now c.loop-bucket.caller (C.knows c.loop-bucket.caller)) end (c.loop-bucket.invariant.goes m is slots d)
