use Rattle.std.proofs.Common.{◌+◌, ◌≤◌, ◌∙◌, ap, sym, subst, refl, arith, length}
use Rattle.std.proofs.lemmas.List.{drop_all}
use Rattle.yak_model.specs.Graph.{Thread}
use Rattle.heap_tables.specs.Merges.{AreSlots, Goes, done_at, walk}
use Rattle.heap_tables.proofs.OnResult.{on_err}
use Rattle.heap_tables.proofs.RunOn.{ran_none}
use Rattle.heap_tables.proofs.Untouched.{done_full, done_length, done_start, goes_nowhere, goes_stops, goes_then, made_slot, merges_end, merges_on}
use Rattle.heap_tables.proofs.merging.merge_bucket.Goals as goal

pub loop-turn-init : goal.loop-turn-init
loop-turn-init g c =
    let C = g.C.Caller in
    record {
      buffer = refl;
      groups = refl;
      turns = omega arith;
      goes = λ m is slots d. subst (λ later. Goes C.base C.tells C.tells_known C.standing m is (walk m.buckets c.args.bucket) later c.args.caller.now c.args.caller.now (C.knows c.args.caller.now)) (sym (done_start m.buckets c.args.bucket)) (goes_nowhere C.base C.tells C.tells_known C.standing m is (walk m.buckets c.args.bucket) c.args.caller.now c.args.caller.now (C.knows c.args.caller.now) d (ran_none C.base C.tells C.tells_known C.standing c.args.caller.now) refl);
    }

pub merge_present-requires-clause-tables : goal.merge_present-requires-clause-tables
merge_present-requires-clause-tables g c =
    let C = g.C.Caller in
    let s = C.standing c.args.caller.now in
    let h = c.requires.tables in
    let m = h.0 in
    let is = h.1 in
    let slots = h.2 in
    let d = h.3 in
    let G = c.loop-turn.invariant.goes m is slots d in
    let first_slots : AreSlots (C.standing c.loop-turn.caller) c.args.from c.args.into m = (made_slot s (C.standing c.loop-turn.caller) G.made c.args.from G.own ∙ slots.0, made_slot s (C.standing c.loop-turn.caller) G.made c.args.into G.own ∙ slots.1) in
    (m, is, first_slots, G.merged)

pub merge_present-requires-clause-buffer : goal.merge_present-requires-clause-buffer
merge_present-requires-clause-buffer g c =
    let e = c.loop-turn.invariant.buffer in omega (arith, c.requires.buffer, e)

pub merge_present-requires-clause-groups : goal.merge_present-requires-clause-groups
merge_present-requires-clause-groups g c =
    let e = c.loop-turn.invariant.groups in omega (arith, c.requires.groups, e)

pub merge_present-requires-clause-room : goal.merge_present-requires-clause-room
merge_present-requires-clause-room g c =
    let C = g.C.Caller in
    let s = C.standing c.args.caller.now in
    let h = c.requires.tables in
    let m = h.0 in
    let is = h.1 in
    let slots = h.2 in
    let d = h.3 in
    let G = c.loop-turn.invariant.goes m is slots d in
    let first_slots : AreSlots (C.standing c.loop-turn.caller) c.args.from c.args.into m = (made_slot s (C.standing c.loop-turn.caller) G.made c.args.from G.own ∙ slots.0, made_slot s (C.standing c.loop-turn.caller) G.made c.args.into G.own ∙ slots.1) in
    omega (arith, c.requires.room, ap (λ (o : Thread). length o.stack) G.own)

pub merge_present-requires-clause-top : goal.merge_present-requires-clause-top
merge_present-requires-clause-top g c =
    let C = g.C.Caller in
    let s = C.standing c.args.caller.now in
    let h = c.requires.tables in
    let m = h.0 in
    let is = h.1 in
    let slots = h.2 in
    let d = h.3 in
    let G = c.loop-turn.invariant.goes m is slots d in
    let first_slots : AreSlots (C.standing c.loop-turn.caller) c.args.from c.args.into m = (made_slot s (C.standing c.loop-turn.caller) G.made c.args.from G.own ∙ slots.0, made_slot s (C.standing c.loop-turn.caller) G.made c.args.into G.own ∙ slots.1) in
    omega (arith, c.requires.top, ap (λ (o : Thread). length o.stack) G.own)

pub merge_entry-requires-clause-tables : goal.merge_entry-requires-clause-tables
merge_entry-requires-clause-tables g c =
    let C = g.C.Caller in
    let s = C.standing c.args.caller.now in
    let h = c.requires.tables in
    let m = h.0 in
    let is = h.1 in
    let slots = h.2 in
    let d = h.3 in
    let G = c.loop-turn.invariant.goes m is slots d in
    let first_slots : AreSlots (C.standing c.loop-turn.caller) c.args.from c.args.into m = (made_slot s (C.standing c.loop-turn.caller) G.made c.args.from G.own ∙ slots.0, made_slot s (C.standing c.loop-turn.caller) G.made c.args.into G.own ∙ slots.1) in
    let place = c.loop-turn.place + c.merge_present.result in
    let H = goes_then C.base C.tells C.tells_known C.standing m is (walk m.buckets c.args.bucket) (done_at m.buckets c.args.bucket c.loop-turn.place) (done_at m.buckets c.args.bucket place) c.args.caller.now c.loop-turn.caller c.merge_present.new.caller (C.knows c.loop-turn.caller) (C.knows c.merge_present.new.caller) G (c.merge_present.ensures.merged m is first_slots G.merged) in
    let own = H.own in
    let now_slots : AreSlots (C.standing c.merge_present.new.caller) c.args.from c.args.into m = (made_slot s (C.standing c.merge_present.new.caller) H.made c.args.from own ∙ slots.0, made_slot s (C.standing c.merge_present.new.caller) H.made c.args.into own ∙ slots.1) in
    (m, is, now_slots, H.merged)

pub merge_entry-requires-clause-buffer : goal.merge_entry-requires-clause-buffer
merge_entry-requires-clause-buffer g c =
    let e = c.loop-turn.invariant.buffer in
    let f = c.merge_present.ensures.buffer in
    omega (arith, c.requires.buffer, e, f)

pub merge_entry-requires-clause-names : goal.merge_entry-requires-clause-names
merge_entry-requires-clause-names g c =
    let C = g.C.Caller in
    let s = C.standing c.args.caller.now in
    let h = c.requires.tables in
    let m = h.0 in
    let is = h.1 in
    let slots = h.2 in
    let d = h.3 in
    let G = c.loop-turn.invariant.goes m is slots d in
    let first_slots : AreSlots (C.standing c.loop-turn.caller) c.args.from c.args.into m = (made_slot s (C.standing c.loop-turn.caller) G.made c.args.from G.own ∙ slots.0, made_slot s (C.standing c.loop-turn.caller) G.made c.args.into G.own ∙ slots.1) in
    let place = c.loop-turn.place + c.merge_present.result in
    let H = goes_then C.base C.tells C.tells_known C.standing m is (walk m.buckets c.args.bucket) (done_at m.buckets c.args.bucket c.loop-turn.place) (done_at m.buckets c.args.bucket place) c.args.caller.now c.loop-turn.caller c.merge_present.new.caller (C.knows c.loop-turn.caller) (C.knows c.merge_present.new.caller) G (c.merge_present.ensures.merged m is first_slots G.merged) in
    let own = H.own in
    let now_slots : AreSlots (C.standing c.merge_present.new.caller) c.args.from c.args.into m = (made_slot s (C.standing c.merge_present.new.caller) H.made c.args.from own ∙ slots.0, made_slot s (C.standing c.merge_present.new.caller) H.made c.args.into own ∙ slots.1) in
    let few = H.few in
    let long = done_length m.buckets c.args.bucket place in
    omega (arith, c.requires.names, few, long, c.merge_present.ensures.few, ap (λ (o : Thread). o.made) own)

pub merge_entry-requires-clause-room : goal.merge_entry-requires-clause-room
merge_entry-requires-clause-room g c =
    let C = g.C.Caller in
    let s = C.standing c.args.caller.now in
    let h = c.requires.tables in
    let m = h.0 in
    let is = h.1 in
    let slots = h.2 in
    let d = h.3 in
    let G = c.loop-turn.invariant.goes m is slots d in
    let first_slots : AreSlots (C.standing c.loop-turn.caller) c.args.from c.args.into m = (made_slot s (C.standing c.loop-turn.caller) G.made c.args.from G.own ∙ slots.0, made_slot s (C.standing c.loop-turn.caller) G.made c.args.into G.own ∙ slots.1) in
    let place = c.loop-turn.place + c.merge_present.result in
    let H = goes_then C.base C.tells C.tells_known C.standing m is (walk m.buckets c.args.bucket) (done_at m.buckets c.args.bucket c.loop-turn.place) (done_at m.buckets c.args.bucket place) c.args.caller.now c.loop-turn.caller c.merge_present.new.caller (C.knows c.loop-turn.caller) (C.knows c.merge_present.new.caller) G (c.merge_present.ensures.merged m is first_slots G.merged) in
    let own = H.own in
    let now_slots : AreSlots (C.standing c.merge_present.new.caller) c.args.from c.args.into m = (made_slot s (C.standing c.merge_present.new.caller) H.made c.args.from own ∙ slots.0, made_slot s (C.standing c.merge_present.new.caller) H.made c.args.into own ∙ slots.1) in
    omega (arith, c.requires.room, ap (λ (o : Thread). length o.stack) own)

pub merge_entry-requires-clause-top : goal.merge_entry-requires-clause-top
merge_entry-requires-clause-top g c =
    let C = g.C.Caller in
    let s = C.standing c.args.caller.now in
    let h = c.requires.tables in
    let m = h.0 in
    let is = h.1 in
    let slots = h.2 in
    let d = h.3 in
    let G = c.loop-turn.invariant.goes m is slots d in
    let first_slots : AreSlots (C.standing c.loop-turn.caller) c.args.from c.args.into m = (made_slot s (C.standing c.loop-turn.caller) G.made c.args.from G.own ∙ slots.0, made_slot s (C.standing c.loop-turn.caller) G.made c.args.into G.own ∙ slots.1) in
    let place = c.loop-turn.place + c.merge_present.result in
    let H = goes_then C.base C.tells C.tells_known C.standing m is (walk m.buckets c.args.bucket) (done_at m.buckets c.args.bucket c.loop-turn.place) (done_at m.buckets c.args.bucket place) c.args.caller.now c.loop-turn.caller c.merge_present.new.caller (C.knows c.loop-turn.caller) (C.knows c.merge_present.new.caller) G (c.merge_present.ensures.merged m is first_slots G.merged) in
    let own = H.own in
    let now_slots : AreSlots (C.standing c.merge_present.new.caller) c.args.from c.args.into m = (made_slot s (C.standing c.merge_present.new.caller) H.made c.args.from own ∙ slots.0, made_slot s (C.standing c.merge_present.new.caller) H.made c.args.into own ∙ slots.1) in
    omega (arith, c.requires.top, ap (λ (o : Thread). length o.stack) own)

pub returns-in_err-merge_entry-clause-stopped : goal.returns-in_err-merge_entry-clause-stopped
returns-in_err-merge_entry-clause-stopped g c =
    let C = g.C.Caller in
    let s = C.standing c.args.caller.now in
    on_err c.from_residual.result _ (λ m is slots d.
    let G = c.loop-turn.invariant.goes m is slots d in
    let first_slots : AreSlots (C.standing c.loop-turn.caller) c.args.from c.args.into m = (made_slot s (C.standing c.loop-turn.caller) G.made c.args.from G.own ∙ slots.0, made_slot s (C.standing c.loop-turn.caller) G.made c.args.into G.own ∙ slots.1) in
    let place = c.loop-turn.place + c.merge_present.result in
    let H = goes_then C.base C.tells C.tells_known C.standing m is (walk m.buckets c.args.bucket) (done_at m.buckets c.args.bucket c.loop-turn.place) (done_at m.buckets c.args.bucket place) c.args.caller.now c.loop-turn.caller c.merge_present.new.caller (C.knows c.loop-turn.caller) (C.knows c.merge_present.new.caller) G (c.merge_present.ensures.merged m is first_slots G.merged) in
    let own = H.own in
    let now_slots : AreSlots (C.standing c.merge_present.new.caller) c.args.from c.args.into m = (made_slot s (C.standing c.merge_present.new.caller) H.made c.args.from own ∙ slots.0, made_slot s (C.standing c.merge_present.new.caller) H.made c.args.into own ∙ slots.1) in
    goes_stops C.base C.tells C.tells_known C.standing m is (walk m.buckets c.args.bucket) (done_at m.buckets c.args.bucket place) c.args.caller.now c.merge_present.new.caller c.merge_entry.new.caller (C.knows c.merge_present.new.caller) (C.knows c.merge_entry.new.caller) H (c.in_err-merge_entry.ensures.stopped m is now_slots H.merged))

pub returns-then-not-branch-clause-merged : goal.returns-then-not-branch-clause-merged
returns-then-not-branch-clause-merged g c m is slots d =
    let C = g.C.Caller in
    let s = C.standing c.args.caller.now in
    let G = c.loop-turn.invariant.goes m is slots d in
    let first_slots : AreSlots (C.standing c.loop-turn.caller) c.args.from c.args.into m = (made_slot s (C.standing c.loop-turn.caller) G.made c.args.from G.own ∙ slots.0, made_slot s (C.standing c.loop-turn.caller) G.made c.args.into G.own ∙ slots.1) in
    let place = c.loop-turn.place + c.merge_present.result in
    let H = goes_then C.base C.tells C.tells_known C.standing m is (walk m.buckets c.args.bucket) (done_at m.buckets c.args.bucket c.loop-turn.place) (done_at m.buckets c.args.bucket place) c.args.caller.now c.loop-turn.caller c.merge_present.new.caller (C.knows c.loop-turn.caller) (C.knows c.merge_present.new.caller) G (c.merge_present.ensures.merged m is first_slots G.merged) in
    let own = H.own in
    let now_slots : AreSlots (C.standing c.merge_present.new.caller) c.args.from c.args.into m = (made_slot s (C.standing c.merge_present.new.caller) H.made c.args.from own ∙ slots.0, made_slot s (C.standing c.merge_present.new.caller) H.made c.args.into own ∙ slots.1) in
    let last = merges_end C.base C.tells C.tells_known C.standing m is c.args.bucket place c.merge_present.new.caller c.merge_entry.new.caller (C.knows c.merge_entry.new.caller) c.in_ok-merge_entry.field-0 c.if-not-branch.true (c.in_ok-merge_entry.ensures.merged m is now_slots H.merged) in
    subst (λ later. Goes C.base C.tells C.tells_known C.standing m is (walk m.buckets c.args.bucket) later c.args.caller.now c.merge_entry.new.caller (C.knows c.merge_entry.new.caller)) (done_full m.buckets c.args.bucket place last.0)
    (goes_then C.base C.tells C.tells_known C.standing m is (walk m.buckets c.args.bucket) (done_at m.buckets c.args.bucket place) (done_at m.buckets c.args.bucket place) c.args.caller.now c.merge_present.new.caller c.merge_entry.new.caller (C.knows c.merge_present.new.caller) (C.knows c.merge_entry.new.caller) H last.1)

pub loop-turn-preserved : goal.loop-turn-preserved
loop-turn-preserved g c =
    let C = g.C.Caller in
    let s = C.standing c.args.caller.now in
    record {
      buffer = c.merge_entry.ensures.buffer ∙ c.merge_present.ensures.buffer ∙ c.loop-turn.invariant.buffer;
      groups = c.merge_present.ensures.groups ∙ c.loop-turn.invariant.groups;
      turns = let e = c.loop-turn.invariant.turns in omega (arith, e);
      goes = λ m is slots d.
          let G = c.loop-turn.invariant.goes m is slots d in
          let first_slots : AreSlots (C.standing c.loop-turn.caller) c.args.from c.args.into m = (made_slot s (C.standing c.loop-turn.caller) G.made c.args.from G.own ∙ slots.0, made_slot s (C.standing c.loop-turn.caller) G.made c.args.into G.own ∙ slots.1) in
          let place = c.loop-turn.place + c.merge_present.result in
          let H = goes_then C.base C.tells C.tells_known C.standing m is (walk m.buckets c.args.bucket) (done_at m.buckets c.args.bucket c.loop-turn.place) (done_at m.buckets c.args.bucket place) c.args.caller.now c.loop-turn.caller c.merge_present.new.caller (C.knows c.loop-turn.caller) (C.knows c.merge_present.new.caller) G (c.merge_present.ensures.merged m is first_slots G.merged) in
          let own = H.own in
          let now_slots : AreSlots (C.standing c.merge_present.new.caller) c.args.from c.args.into m = (made_slot s (C.standing c.merge_present.new.caller) H.made c.args.from own ∙ slots.0, made_slot s (C.standing c.merge_present.new.caller) H.made c.args.into own ∙ slots.1) in
          let next = merges_on C.base C.tells C.tells_known C.standing m is c.args.bucket place c.merge_present.new.caller c.merge_entry.new.caller (C.knows c.merge_entry.new.caller) c.in_ok-merge_entry.field-0 c.if-not-branch.false (c.in_ok-merge_entry.ensures.merged m is now_slots H.merged) in
          goes_then C.base C.tells C.tells_known C.standing m is (walk m.buckets c.args.bucket) (done_at m.buckets c.args.bucket place) (done_at m.buckets c.args.bucket (place + 1)) c.args.caller.now c.merge_present.new.caller c.merge_entry.new.caller (C.knows c.merge_present.new.caller) (C.knows c.merge_entry.new.caller) H next;
    }

pub returns-clause-merged : goal.returns-clause-merged
returns-clause-merged g c m is slots d =
    let C = g.C.Caller in
    let s = C.standing c.args.caller.now in
    let G = c.loop-turn.invariant.goes m is slots d in
    let few = is.from_few c.args.bucket c.requires.bucket in
    let turns = c.loop-turn.invariant.turns in
    let past : length (m.buckets c.args.bucket) ≤ c.loop-turn.place = omega (arith, few, turns, c.loop-turn-test.false) in
    subst (λ later. Goes C.base C.tells C.tells_known C.standing m is (walk m.buckets c.args.bucket) later c.args.caller.now c.loop-turn.caller (C.knows c.loop-turn.caller)) (done_full m.buckets c.args.bucket c.loop-turn.place (drop_all c.loop-turn.place (m.buckets c.args.bucket) past)) G
