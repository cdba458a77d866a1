use Rattle.std.proofs.Common.{◌∙◌, ap, sym, refl, arith, length, length-append, set, true≢false, [], ◌∷◌, ◌++◌}
use Rattle.yak_model.specs.Graph.{Thread}
use Rattle.yak_model.specs.declared.datum.Datum.TheVariants as datum
use Rattle.heap_tables.specs.Runs.{pushed}
use Rattle.heap_tables.specs.Walks.{with_place}
use Rattle.heap_tables.proofs.RunOn.{ran_none, ran_more}
use Rattle.heap_tables.proofs.Places.{apart_place, at_place, end_place, found_there, kept_place, on_place, rest_place, start_place}
use Rattle.heap_tables.proofs.Asides.{lacks_rest}
use Rattle.heap_tables.proofs.chains.walk.Goals as goal

pub loop-i-init : goal.loop-i-init
loop-i-init g c = let C = g.C.Caller in record {
  ran = ran_none C.base C.tells C.tells_known C.standing c.args.caller.now;
  own = refl;
  place = λ known name values links k at apart. ([], links, omega arith, start_place (C.standing c.args.caller.now) known c.args.table name values c.args.bucket c.args.word.now links at apart (C.knows c.args.caller.now) k);
  aside = λ known name values links other k at apart ko lacks. ko;
}

pub look_on-requires-clause-chain : goal.look_on-requires-clause-chain
look_on-requires-clause-chain g c =
    let C = g.C.Caller in
    let h = c.requires.chain in
    let p = c.loop-i.invariant.place h.0 h.1 h.2 h.3 h.4 h.5 h.6 in
    let rest = rest_place (C.standing c.args.caller.now) h.0 c.args.table h.1 h.2 c.args.bucket c.args.word.now h.3 h.5 h.6 (C.knows c.loop-i.caller) p.0 p.1 p.3 in (
      with_place h.0 h.1 h.2 c.args.bucket (p.3).place,
      h.1,
      set h.2 c.args.bucket (p.3).place,
      p.1,
      (p.3).known_now,
      at_place (C.standing c.args.caller.now) h.0 c.args.table h.1 h.2 c.args.bucket c.args.word.now h.3 h.5 h.6 (C.knows c.loop-i.caller) p.0 p.1 p.3 (C.standing c.loop-i.caller) c.loop-i.invariant.own,
      apart_place (C.standing c.args.caller.now) h.0 c.args.table h.1 h.2 c.args.bucket c.args.word.now h.3 h.5 h.6 (C.knows c.loop-i.caller) p.0 p.1 p.3,
      omega (arith, rest, h.7),
    )

pub look_on-requires-clause-room : goal.look_on-requires-clause-room
look_on-requires-clause-room g c = omega (arith, c.requires.room, ap (λ (o : Thread). length o.stack) c.loop-i.invariant.own)

pub look_on-requires-clause-top : goal.look_on-requires-clause-top
look_on-requires-clause-top g c = omega (arith, c.requires.top, ap (λ (o : Thread). length o.stack) c.loop-i.invariant.own)

pub returns-in-End-clause-ran : goal.returns-in-End-clause-ran
returns-in-End-clause-ran g c = let C = g.C.Caller in ran_more C.base C.tells C.tells_known C.standing _ _ _ c.loop-i.invariant.ran c.look_on.ensures.ran

pub returns-in-End-clause-walked : goal.returns-in-End-clause-walked
returns-in-End-clause-walked g c known name values links k at apart bound =
    let C = g.C.Caller in
    let p = c.loop-i.invariant.place known name values links k at apart in
    let there = at_place (C.standing c.args.caller.now) known c.args.table name values c.args.bucket c.args.word.now links at apart (C.knows c.loop-i.caller) p.0 p.1 p.3 (C.standing c.loop-i.caller) c.loop-i.invariant.own in
    let q = c.in-End.ensures.passed _ name (set values c.args.bucket (p.3).place) p.1 (p.3).known_now there (apart_place (C.standing c.args.caller.now) known c.args.table name values c.args.bucket c.args.word.now links at apart (C.knows c.loop-i.caller) p.0 p.1 p.3) in
    let on = on_place (C.standing c.args.caller.now) known c.args.table name values c.args.bucket c.args.word.now links at apart (C.knows c.loop-i.caller) p.0 p.1 p.3 (C.knows c.look_on.new.caller) q.passed q.rest q.place in
    (λ e. absurd (true≢false (sym e)), λ _. (c.look_on.ensures.own ∙ c.loop-i.invariant.own, end_place (C.standing c.args.caller.now) known c.args.table name values c.args.bucket c.args.word.now links at apart (C.knows c.look_on.new.caller) (p.0 ++ q.passed) q.rest q.stops on))

pub load-requires-clause-field : goal.load-requires-clause-field
load-requires-clause-field g c =
    let C = g.C.Caller in
    let h = c.requires.chain in
    let p = c.loop-i.invariant.place h.0 h.1 h.2 h.3 h.4 h.5 h.6 in
    let there = at_place (C.standing c.args.caller.now) h.0 c.args.table h.1 h.2 c.args.bucket c.args.word.now h.3 h.5 h.6 (C.knows c.loop-i.caller) p.0 p.1 p.3 (C.standing c.loop-i.caller) c.loop-i.invariant.own in
    let q = c.in-Found.ensures.passed _ h.1 (set h.2 c.args.bucket (p.3).place) p.1 (p.3).known_now there (apart_place (C.standing c.args.caller.now) h.0 c.args.table h.1 h.2 c.args.bucket c.args.word.now h.3 h.5 h.6 (C.knows c.loop-i.caller) p.0 p.1 p.3) in
    let on = on_place (C.standing c.args.caller.now) h.0 c.args.table h.1 h.2 c.args.bucket c.args.word.now h.3 h.5 h.6 (C.knows c.loop-i.caller) p.0 p.1 p.3 (C.knows c.look_on.new.caller) q.passed q.rest q.place in
    let here = at_place (C.standing c.args.caller.now) h.0 c.args.table h.1 h.2 c.args.bucket c.args.word.now h.3 h.5 h.6 (C.knows c.look_on.new.caller) (p.0 ++ q.passed) q.rest on (C.standing c.look_on.new.caller) (c.look_on.ensures.own ∙ c.loop-i.invariant.own) in
    (_, h.1, set h.2 c.args.bucket on.place, on.known_now, here.0, here.1)

pub load-requires-clause-room : goal.load-requires-clause-room
load-requires-clause-room g c = omega (arith, c.requires.room, ap (λ (o : Thread). length o.stack) (c.look_on.ensures.own ∙ c.loop-i.invariant.own))

pub returns-in-Found-clause-ran : goal.returns-in-Found-clause-ran
returns-in-Found-clause-ran g c = let C = g.C.Caller in ran_more C.base C.tells C.tells_known C.standing _ _ _ (ran_more C.base C.tells C.tells_known C.standing _ _ _ c.loop-i.invariant.ran c.look_on.ensures.ran) c.load.ensures.ran

pub returns-in-Found-clause-walked : goal.returns-in-Found-clause-walked
returns-in-Found-clause-walked g c known name values links k at apart bound =
    let C = g.C.Caller in
    let p = c.loop-i.invariant.place known name values links k at apart in
    let there = at_place (C.standing c.args.caller.now) known c.args.table name values c.args.bucket c.args.word.now links at apart (C.knows c.loop-i.caller) p.0 p.1 p.3 (C.standing c.loop-i.caller) c.loop-i.invariant.own in
    let q = c.in-Found.ensures.passed _ name (set values c.args.bucket (p.3).place) p.1 (p.3).known_now there (apart_place (C.standing c.args.caller.now) known c.args.table name values c.args.bucket c.args.word.now links at apart (C.knows c.loop-i.caller) p.0 p.1 p.3) in
    let on = on_place (C.standing c.args.caller.now) known c.args.table name values c.args.bucket c.args.word.now links at apart (C.knows c.loop-i.caller) p.0 p.1 p.3 (C.knows c.look_on.new.caller) q.passed q.rest q.place in
    let same = c.look_on.ensures.own ∙ c.loop-i.invariant.own in
    let here = at_place (C.standing c.args.caller.now) known c.args.table name values c.args.bucket c.args.word.now links at apart (C.knows c.look_on.new.caller) (p.0 ++ q.passed) q.rest on (C.standing c.look_on.new.caller) same in
    let e = c.load.ensures.pushed _ name (set values c.args.bucket on.place) on.known_now here.0 here.1 in
    let f = found_there _ _ q.rest c.args.word.now here.2 q.stops in
    (λ _. (p.0 ++ q.passed, f.0, f.1, f.3, e ∙ ap (pushed (C.standing c.look_on.new.caller).own) f.4 ∙ ap (λ o. pushed o (datum.Object (f.0).entry)) same, kept_place (C.standing c.args.caller.now) known c.args.table name values c.args.bucket c.args.word.now links at apart (C.knows c.look_on.new.caller) (C.knows c.load.new.caller) (p.0 ++ q.passed) q.rest (f.0 ∷ f.1) f.2 on c.load.ensures.keeps), λ e. absurd (true≢false e))

pub loop-i-preserved : goal.loop-i-preserved
loop-i-preserved g c =
    let C = g.C.Caller in
    record {
      ran = ran_more C.base C.tells C.tells_known C.standing _ _ _ c.loop-i.invariant.ran c.look_on.ensures.ran;
      own = c.look_on.ensures.own ∙ c.loop-i.invariant.own;
      place = λ known name values links k at apart.
          let p = c.loop-i.invariant.place known name values links k at apart in
          let there = at_place (C.standing c.args.caller.now) known c.args.table name values c.args.bucket c.args.word.now links at apart (C.knows c.loop-i.caller) p.0 p.1 p.3 (C.standing c.loop-i.caller) c.loop-i.invariant.own in
          let q = c.in-Further.ensures.passed _ name (set values c.args.bucket (p.3).place) p.1 (p.3).known_now there (apart_place (C.standing c.args.caller.now) known c.args.table name values c.args.bucket c.args.word.now links at apart (C.knows c.loop-i.caller) p.0 p.1 p.3) in
          let more = q.some refl in
          (p.0 ++ q.passed, q.rest, omega (arith, p.2, more, length-append p.0 q.passed), on_place (C.standing c.args.caller.now) known c.args.table name values c.args.bucket c.args.word.now links at apart (C.knows c.loop-i.caller) p.0 p.1 p.3 (C.knows c.look_on.new.caller) q.passed q.rest q.place);
      aside = λ known name values links other k at apart ko lacks.
          let p = c.loop-i.invariant.place known name values links k at apart in
          let there = at_place (C.standing c.args.caller.now) known c.args.table name values c.args.bucket c.args.word.now links at apart (C.knows c.loop-i.caller) p.0 p.1 p.3 (C.standing c.loop-i.caller) c.loop-i.invariant.own in
          let still = c.loop-i.invariant.aside known name values links other k at apart ko lacks in
          c.look_on.ensures.aside _ name (set values c.args.bucket (p.3).place) p.1 other (p.3).known_now there (apart_place (C.standing c.args.caller.now) known c.args.table name values c.args.bucket c.args.word.now links at apart (C.knows c.loop-i.caller) p.0 p.1 p.3) still (lacks.0, lacks_rest other p.0 p.1 links (p.3).parts lacks.1);
    }

pub returns-in-End-clause-aside : goal.returns-in-End-clause-aside
returns-in-End-clause-aside g c known name values links other k at apart ko lacks =
    let C = g.C.Caller in
    let p = c.loop-i.invariant.place known name values links k at apart in
    let there = at_place (C.standing c.args.caller.now) known c.args.table name values c.args.bucket c.args.word.now links at apart (C.knows c.loop-i.caller) p.0 p.1 p.3 (C.standing c.loop-i.caller) c.loop-i.invariant.own in
    let still = c.loop-i.invariant.aside known name values links other k at apart ko lacks in
    let on = c.look_on.ensures.aside _ name (set values c.args.bucket (p.3).place) p.1 other (p.3).known_now there (apart_place (C.standing c.args.caller.now) known c.args.table name values c.args.bucket c.args.word.now links at apart (C.knows c.loop-i.caller) p.0 p.1 p.3) still (lacks.0, lacks_rest other p.0 p.1 links (p.3).parts lacks.1) in
    on

pub returns-in-Found-clause-aside : goal.returns-in-Found-clause-aside
returns-in-Found-clause-aside g c known name values links other k at apart ko lacks =
    let C = g.C.Caller in
    let p = c.loop-i.invariant.place known name values links k at apart in
    let there = at_place (C.standing c.args.caller.now) known c.args.table name values c.args.bucket c.args.word.now links at apart (C.knows c.loop-i.caller) p.0 p.1 p.3 (C.standing c.loop-i.caller) c.loop-i.invariant.own in
    let still = c.loop-i.invariant.aside known name values links other k at apart ko lacks in
    let on = c.look_on.ensures.aside _ name (set values c.args.bucket (p.3).place) p.1 other (p.3).known_now there (apart_place (C.standing c.args.caller.now) known c.args.table name values c.args.bucket c.args.word.now links at apart (C.knows c.loop-i.caller) p.0 p.1 p.3) still (lacks.0, lacks_rest other p.0 p.1 links (p.3).parts lacks.1) in
    c.load.ensures.keeps other on
