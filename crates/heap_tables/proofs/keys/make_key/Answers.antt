use Rattle.std.proofs.Common.{◌≡◌, ◌+◌, ◌∙◌, ap, subst, arith, length, replicate}
use Rattle.std.proofs.lemmas.List.{length-replicate}
use Rattle.std.specs.FinMap.{insert}
use Rattle.yak_model.specs.Graph.{Fields}
use Rattle.yak_model.specs.declared.datum.Datum.TheVariants as datum
use Rattle.heap_tables.specs.Runs.{next_of, with_field}
use Rattle.heap_tables.proofs.RunOn.{ran_then, ran_words}
use Rattle.yak_model.specs.Tables.{groups}
use Rattle.heap_tables.specs.Keys.{IsKeyBegun}
use Rattle.heap_tables.proofs.KeyGrowth.{made_at, made_size, key_first, key_more}
use Rattle.heap_tables.proofs.keys.make_key.Goals as goal

pub put_int-requires-clause-field : goal.put_int-requires-clause-field
put_int-requires-clause-field g c =
    let h = c.requires.some in
    let nulls = replicate (c.groups-count.result + 1) datum.Null in
    (insert h.0 (next_of (g.C.Caller.standing c.args.caller.now)) (Fields nulls), next_of (g.C.Caller.standing c.args.caller.now), nulls, (c.in_ok-push_new.ensures.made h.0 h.1).0, made_at (g.C.Caller.standing c.args.caller.now) _ h.0 c.args.top nulls c.in_ok-push_new.ensures.pushed c.requires.top, omega (arith, length-replicate (c.groups-count.result + 1) datum.Null))

pub put_int-requires-clause-room : goal.put_int-requires-clause-room
put_int-requires-clause-room g c = omega (arith, c.requires.room, made_size (g.C.Caller.standing c.args.caller.now) _ c.in_ok-push_new.ensures.pushed)

pub put_int-requires-clause-top : goal.put_int-requires-clause-top
put_int-requires-clause-top g c = omega (arith, c.requires.top, made_size (g.C.Caller.standing c.args.caller.now) _ c.in_ok-push_new.ensures.pushed)

pub loop-i-init : goal.loop-i-init
loop-i-init g c = let C = g.C.Caller in record {
  ran = ran_words C.base C.tells C.tells_known C.standing _ _ _ _ (let e : c.groups-count.result + 1 + 3 + 0 ≡ c.groups-count.result + 1 + 3 = omega arith in e) (ran_then C.base C.tells C.tells_known C.standing _ _ _ _ 0 c.in_ok-push_new.ensures.ran c.put_int.ensures.ran);
  own = c.put_int.ensures.own ∙ c.in_ok-push_new.ensures.pushed;
  begun = λ known k.
      let nulls = replicate (c.groups-count.result + 1) datum.Null in
      let made = c.in_ok-push_new.ensures.made known k in (
        key_first known (next_of (g.C.Caller.standing c.args.caller.now)) c.args.word.now (C.knows c.put_int.new.caller) (c.groups-count.result + 1) (ap (λ n. n + 1) c.groups-count.ensures.groups)
            (c.put_int.ensures.stored _ (next_of (g.C.Caller.standing c.args.caller.now)) nulls made.0 (made_at (g.C.Caller.standing c.args.caller.now) _ known c.args.top nulls c.in_ok-push_new.ensures.pushed c.requires.top) (omega (arith, length-replicate (c.groups-count.result + 1) datum.Null))),
        made.1,
      );
}

pub put_int-requires-in-loop-i-clause-field : goal.put_int-requires-in-loop-i-clause-field
put_int-requires-in-loop-i-clause-field g c =
    let h = c.requires.some in
    let p = (c.loop-i.invariant.begun h.0 h.1).0 in
    (insert h.0 (next_of (g.C.Caller.standing c.args.caller.now)) (Fields p.values), next_of (g.C.Caller.standing c.args.caller.now), p.values, p.known_now, made_at (g.C.Caller.standing c.args.caller.now) _ h.0 c.args.top p.values c.loop-i.invariant.own c.requires.top, omega (arith, p.size, c.loop-i-test.true, c.groups-count.ensures.groups))

pub put_int-requires-in-loop-i-clause-room : goal.put_int-requires-in-loop-i-clause-room
put_int-requires-in-loop-i-clause-room g c = omega (arith, c.requires.room, made_size (g.C.Caller.standing c.args.caller.now) _ c.loop-i.invariant.own)

pub put_int-requires-in-loop-i-clause-top : goal.put_int-requires-in-loop-i-clause-top
put_int-requires-in-loop-i-clause-top g c = omega (arith, c.requires.top, made_size (g.C.Caller.standing c.args.caller.now) _ c.loop-i.invariant.own)

pub loop-i-preserved : goal.loop-i-preserved
loop-i-preserved g c = let C = g.C.Caller in record {
  ran = ran_words C.base C.tells C.tells_known C.standing _ _ _ _ (let e : c.groups-count.result + 1 + 3 + 0 ≡ c.groups-count.result + 1 + 3 = omega arith in e) (ran_then C.base C.tells C.tells_known C.standing _ _ _ _ 0 c.loop-i.invariant.ran c.put_int-in-loop-i.ensures.ran);
  own = c.put_int-in-loop-i.ensures.own ∙ c.loop-i.invariant.own;
  begun = λ known k.
      let b = c.loop-i.invariant.begun known k in
      let p = b.0 in (
        key_more known (next_of (g.C.Caller.standing c.args.caller.now)) c.args.word.now c.loop-i.i (C.knows c.loop-i.caller) (C.knows c.put_int-in-loop-i.new.caller) p (omega (arith, c.loop-i-test.true, c.groups-count.ensures.groups))
            (subst (λ n. C.knows c.put_int-in-loop-i.new.caller (with_field (insert known (next_of (g.C.Caller.standing c.args.caller.now)) (Fields p.values)) (next_of (g.C.Caller.standing c.args.caller.now)) p.values (c.loop-i.i + 1) (datum.Int n))) c.group.ensures.same
            (c.put_int-in-loop-i.ensures.stored _ (next_of (g.C.Caller.standing c.args.caller.now)) p.values p.known_now (made_at (g.C.Caller.standing c.args.caller.now) _ known c.args.top p.values c.loop-i.invariant.own c.requires.top) (omega (arith, p.size, c.loop-i-test.true, c.groups-count.ensures.groups)))),
        b.1,
      );
}

pub returns-clause-made : goal.returns-clause-made
returns-clause-made g c known k =
    let b = c.loop-i.invariant.begun known k in
    let same : c.loop-i.i ≡ groups (length c.args.word.now) = omega (arith, c.loop-i-test.false, c.loop-i.auto.i-end, c.groups-count.ensures.groups) in
    (subst (λ n. IsKeyBegun known (next_of (g.C.Caller.standing c.args.caller.now)) c.args.word.now n (g.C.Caller.knows c.loop-i.caller)) same b.0, b.1)
