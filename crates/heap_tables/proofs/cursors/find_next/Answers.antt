use Rattle.std.proofs.Common.{inl, inr, ◌<◌, ◌∙◌, ap, refl, arith, length}
use Rattle.yak_model.specs.declared.TheConstants.{BUCKETS}
use Rattle.yak_model.specs.Graph.{Thread}
use Rattle.heap_tables.proofs.RunOn.{ran_none, ran_more}
use Rattle.heap_tables.proofs.Visits.{is_next, none_past, walk_apart, walk_at, walk_short}
use Rattle.heap_tables.proofs.cursors.find_next.Goals as goal

pub loop-bucket-init : goal.loop-bucket-init
loop-bucket-init g c = let C = g.C.Caller in record {
  ran = ran_none C.base C.tells C.tells_known C.standing c.args.caller.now;
  own = refl;
  buffer = refl;
  low = omega arith;
  gone = λ known name counts may k. (k, λ b p past. elim past.2 [ inl lt ↦ omega (arith, lt) | inr same ↦ (let e = same.0 in omega (arith, e)) ]);
  aside = λ known name counts may other k ko lacks. ko;
}

pub visit-requires-clause-chain : goal.visit-requires-clause-chain
visit-requires-clause-chain g c =
    let C = g.C.Caller in
    let h = c.requires.table in
    let s = C.standing c.args.caller.now in
    let b = c.loop-bucket.bucket in
    let bound : b < BUCKETS = omega (arith, c.loop-bucket-test.true) in
    let few = (h.4).few b bound in (
      h.0,
      h.1,
      ((h.4).is_table).heads,
      ((h.4).is_table).buckets b,
      (c.loop-bucket.invariant.gone h.0 h.1 h.2 h.4 h.3).0,
      walk_at s h.0 c.args.table h.1 h.2 h.4 b bound (C.standing c.loop-bucket.caller) c.loop-bucket.invariant.own,
      walk_apart s h.0 c.args.table h.1 h.2 h.4 b bound,
      omega (arith, few),
      walk_short s h.0 c.args.table h.1 h.2 h.4 b bound (g.met.C.Caller.standard c.args.caller.now) (g.met.C.Caller.fit c.args.caller.now h.0 h.3),
    )

pub visit-requires-clause-few : goal.visit-requires-clause-few
visit-requires-clause-few g c =
    let C = g.C.Caller in
    let h = c.requires.table in
    let s = C.standing c.args.caller.now in
    let b = c.loop-bucket.bucket in
    let bound : b < BUCKETS = omega (arith, c.loop-bucket-test.true) in (
      h.0,
      h.1,
      ((h.4).is_table).heads,
      ((h.4).is_table).buckets b,
      (c.loop-bucket.invariant.gone h.0 h.1 h.2 h.4 h.3).0,
      walk_at s h.0 c.args.table h.1 h.2 h.4 b bound (C.standing c.loop-bucket.caller) c.loop-bucket.invariant.own,
      walk_apart s h.0 c.args.table h.1 h.2 h.4 b bound,
      (h.4).few b bound,
    )

pub visit-requires-clause-room : goal.visit-requires-clause-room
visit-requires-clause-room g c = omega (arith, c.requires.room, ap (λ (o : Thread). length o.stack) c.loop-bucket.invariant.own)

pub visit-requires-clause-top : goal.visit-requires-clause-top
visit-requires-clause-top g c = omega (arith, c.requires.top, ap (λ (o : Thread). length o.stack) c.loop-bucket.invariant.own)

pub visit-requires-clause-buffer : goal.visit-requires-clause-buffer
visit-requires-clause-buffer g c = let e = c.loop-bucket.invariant.buffer in omega (arith, c.requires.buffer, e)

pub returns-in-Some-clause-ran : goal.returns-in-Some-clause-ran
returns-in-Some-clause-ran g c = let C = g.C.Caller in ran_more C.base C.tells C.tells_known C.standing _ _ _ c.loop-bucket.invariant.ran c.visit.ensures.ran

pub returns-in-Some-clause-found : goal.returns-in-Some-clause-found
returns-in-Some-clause-found g c known name counts may k =
    let C = g.C.Caller in
    let s = C.standing c.args.caller.now in
    let b = c.loop-bucket.bucket in
    let bound : b < BUCKETS = omega (arith, c.loop-bucket-test.true) in
    let r = c.loop-bucket.invariant.gone known name counts may k in
    let v = c.in-Some.ensures.visited known name (may.is_table).heads ((may.is_table).buckets b) r.0 (walk_at s known c.args.table name counts may b bound (C.standing c.loop-bucket.caller) c.loop-bucket.invariant.own) (walk_apart s known c.args.table name counts may b bound) in
    (is_next (may.is_table).buckets c.args.at b bound c.loop-bucket.invariant.low r.1 c.in-Some.found c.visit.new.buffer (walk_short s known c.args.table name counts may b bound (g.met.C.Caller.standard c.args.caller.now) (g.met.C.Caller.fit c.args.caller.now known k)) v.0, v.1)

pub loop-bucket-preserved : goal.loop-bucket-preserved
loop-bucket-preserved g c =
    let C = g.C.Caller in
    let s = C.standing c.args.caller.now in
    let inv = c.loop-bucket.invariant in
    let b = c.loop-bucket.bucket in
    let bound : b < BUCKETS = omega (arith, c.loop-bucket-test.true) in
    record {
      ran = ran_more C.base C.tells C.tells_known C.standing _ _ _ inv.ran c.visit.ensures.ran;
      own = c.visit.ensures.own ∙ inv.own;
      buffer = c.visit.ensures.buffer ∙ inv.buffer;
      low = let h = inv.low in omega (arith, h);
      gone = λ known name counts may k.
          let r = inv.gone known name counts may k in
          let v = c.in-None.ensures.visited known name (may.is_table).heads ((may.is_table).buckets b) r.0 (walk_at s known c.args.table name counts may b bound (C.standing c.loop-bucket.caller) inv.own) (walk_apart s known c.args.table name counts may b bound) in
          (v.1, none_past (may.is_table).buckets c.args.at b v.0 r.1);
      aside = λ known name counts may other k ko lacks. c.visit.ensures.aside known name (may.is_table).heads ((may.is_table).buckets b) other (inv.gone known name counts may k).0 (walk_at s known c.args.table name counts may b bound (C.standing c.loop-bucket.caller) inv.own) (walk_apart s known c.args.table name counts may b bound) (inv.aside known name counts may other k ko lacks) (lacks.head, lacks.links b bound);
    }

pub returns-clause-found : goal.returns-clause-found
returns-clause-found g c known name counts may k =
    let r = c.loop-bucket.invariant.gone known name counts may k in
    let test = c.loop-bucket-test.false in
    ((λ b p past. let low = r.1 b p past in let bound = past.0 in absurd (omega (arith, low, bound, test))), r.0)

pub returns-in-Some-clause-aside : goal.returns-in-Some-clause-aside
returns-in-Some-clause-aside g c known name counts may other k ko lacks =
    let C = g.C.Caller in
    let s = C.standing c.args.caller.now in
    let inv = c.loop-bucket.invariant in
    let b = c.loop-bucket.bucket in
    let bound : b < BUCKETS = omega (arith, c.loop-bucket-test.true) in
    c.visit.ensures.aside known name (may.is_table).heads ((may.is_table).buckets b) other (inv.gone known name counts may k).0 (walk_at s known c.args.table name counts may b bound (C.standing c.loop-bucket.caller) inv.own) (walk_apart s known c.args.table name counts may b bound) (inv.aside known name counts may other k ko lacks) (lacks.head, lacks.links b bound)
