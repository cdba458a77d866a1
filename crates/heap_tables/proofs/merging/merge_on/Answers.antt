use Rattle.std.proofs.Common.{◌≡◌, ◌+◌, ◌-◌, ◌^◌, ◌∙◌, drop, subst, refl, arith}
use Rattle.heap_tables.specs.Layouts.{GoesLaid}
use Rattle.heap_tables.proofs.Laid.{laid_size}
use Rattle.heap_tables.proofs.LaidMerges.{merges_found, merges_lost}
use Rattle.heap_tables.proofs.RunOn.{ran_more, ran_none}
use Rattle.heap_tables.proofs.merging.merge_on.Goals as goal

pub loop-turn-init : goal.loop-turn-init
loop-turn-init g c = let C = g.C.Caller in record {
  buffer = refl;
  groups = refl;
  few = omega arith;
  ran = ran_none C.base C.tells C.tells_known C.standing c.args.caller.now;
  merged = λ m is start own below size y. let e : c.args.place ≡ c.args.place + 0 = omega arith in subst (λ p. GoesLaid m is c.args.bucket start p c.args.window 0 own (C.standing c.args.caller.now).own (C.knows c.args.caller.now)) e y;
}

pub merge_laid-found-requires-clause-tables : goal.merge_laid-found-requires-clause-tables
merge_laid-found-requires-clause-tables g c =
    let h = c.requires.tables in
    (h.0, h.1, h.2, h.3, h.4, h.5, c.loop-turn.invariant.merged h.0 h.1 h.2 h.3 h.4 h.5 h.6)

pub merge_laid-found-requires-clause-buffer : goal.merge_laid-found-requires-clause-buffer
merge_laid-found-requires-clause-buffer g c = let e = c.loop-turn.invariant.buffer in omega (arith, c.requires.buffer, e)

pub merge_laid-found-requires-clause-groups : goal.merge_laid-found-requires-clause-groups
merge_laid-found-requires-clause-groups g c = let e = c.loop-turn.invariant.groups in omega (arith, c.requires.groups, e)

pub merge_laid-found-requires-clause-top : goal.merge_laid-found-requires-clause-top
merge_laid-found-requires-clause-top g c =
    let C = g.C.Caller in
    let h = c.requires.tables in
    let y = c.loop-turn.invariant.merged h.0 h.1 h.2 h.3 h.4 h.5 h.6 in
    let laid = y.laid in
    let size = laid_size h.3 (drop c.args.window (((y.merged).into_table).buckets c.args.bucket)) c.loop-turn.laid (C.standing c.loop-turn.caller).own laid.1 in
    omega (arith, size, h.5)

pub merge_laid-found-requires-clause-few : goal.merge_laid-found-requires-clause-few
merge_laid-found-requires-clause-few g c = c.loop-turn.invariant.few

pub returns-then-not-found-clause-buffer : goal.returns-then-not-found-clause-buffer
returns-then-not-found-clause-buffer g c = c.merge_laid-found.ensures.buffer ∙ c.loop-turn.invariant.buffer

pub returns-then-not-found-clause-groups : goal.returns-then-not-found-clause-groups
returns-then-not-found-clause-groups g c = c.merge_laid-found.ensures.groups ∙ c.loop-turn.invariant.groups

pub returns-then-not-found-clause-ran : goal.returns-then-not-found-clause-ran
returns-then-not-found-clause-ran g c = let C = g.C.Caller in ran_more C.base C.tells C.tells_known C.standing _ _ _ c.loop-turn.invariant.ran c.merge_laid-found.ensures.ran

pub returns-then-not-found-clause-merged : goal.returns-then-not-found-clause-merged
returns-then-not-found-clause-merged g c m is start own below size y =
    let C = g.C.Caller in
    let at = c.loop-turn.invariant.merged m is start own below size y in
    merges_lost m is c.args.bucket start (c.args.place + c.loop-turn.turn) c.args.window _ own (C.standing c.merge_laid-found.new.caller).own (C.knows c.merge_laid-found.new.caller) _ c.if-not-found.true (c.merge_laid-found.ensures.merged m is start own below size at)

pub loop-turn-preserved : goal.loop-turn-preserved
loop-turn-preserved g c = let C = g.C.Caller in record {
  buffer = c.merge_laid-found.ensures.buffer ∙ c.loop-turn.invariant.buffer;
  groups = c.merge_laid-found.ensures.groups ∙ c.loop-turn.invariant.groups;
  few = c.merge_laid-found.ensures.few;
  ran = ran_more C.base C.tells C.tells_known C.standing _ _ _ c.loop-turn.invariant.ran c.merge_laid-found.ensures.ran;
  merged = λ m is start own below size y.
      let at = c.loop-turn.invariant.merged m is start own below size y in
      let e : c.args.place + c.loop-turn.turn + 1 ≡ c.args.place + (c.loop-turn.turn + 1) = omega arith in
      subst (λ p. GoesLaid m is c.args.bucket start p c.args.window c.merge_laid-found.result.1 own (C.standing c.merge_laid-found.new.caller).own (C.knows c.merge_laid-found.new.caller)) e
      (merges_found m is c.args.bucket start (c.args.place + c.loop-turn.turn) c.args.window _ own (C.standing c.merge_laid-found.new.caller).own (C.knows c.merge_laid-found.new.caller) _ c.if-not-found.false (c.merge_laid-found.ensures.merged m is start own below size at));
}

pub returns-clause-merged : goal.returns-clause-merged
returns-clause-merged g c m is start own below size y =
    let C = g.C.Caller in
    let end : c.loop-turn.turn ≡ (2 ^ 32 - 1) - c.args.place = omega (arith, c.loop-turn-test.false, c.loop-turn.auto.turn-end) in
    subst (λ n. GoesLaid m is c.args.bucket start (c.args.place + n) c.args.window c.loop-turn.laid own (C.standing c.loop-turn.caller).own (C.knows c.loop-turn.caller)) end (c.loop-turn.invariant.merged m is start own below size y)

pub merge_laid-found-requires-clause-window : goal.merge_laid-found-requires-clause-window
merge_laid-found-requires-clause-window g c = c.requires.window
