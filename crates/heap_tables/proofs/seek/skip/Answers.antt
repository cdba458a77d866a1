use Rattle.std.proofs.Common.{◌≡◌, ◌+◌, ◌-◌, ◌∙◌, ℕ, zero, suc, List, [], ◌∷◌, ap, sym, subst, refl, arith, length, set, drop, drop-drop}
use Rattle.yak_model.specs.Graph.{Thread}
use Rattle.yak_model.specs.Tables.{Link}
use Rattle.heap_tables.specs.Seeks.{IsSkipped}
use Rattle.heap_tables.specs.Walks.{with_place}
use Rattle.heap_tables.proofs.Effects.{value_same}
use Rattle.heap_tables.proofs.Laid.{skipped_again}
use Rattle.heap_tables.proofs.RunOn.{ran_none, ran_more}
use Rattle.heap_tables.proofs.Sought.{apart_drop, at_skip, drop_past, start_skip}
use Rattle.heap_tables.proofs.Asides.{lacks_drop}
use Rattle.heap_tables.proofs.LaidTables.{drop_length}
use Rattle.heap_tables.proofs.seek.skip.Goals as goal

drop_none : (links : List Link) → links ≡ drop 0 links
drop_none [] = refl
drop_none (link ∷ links) = refl

drop_nothing : (n : ℕ) → drop {A = Link} n [] ≡ []
drop_nothing zero = refl
drop_nothing (suc n) = refl

pub loop-turn-init : goal.loop-turn-init
loop-turn-init g c = let C = g.C.Caller in record {
  few = omega arith;
  ran = ran_none C.base C.tells C.tells_known C.standing c.args.caller.now;
  own = refl;
  place = λ known name values links k at apart.
      let none : 0 ≡ c.args.n - c.args.n = omega arith in
      let start = start_skip (C.standing c.args.caller.now) known c.args.table name values c.args.bucket links at (C.knows c.args.caller.now) k in
      subst (λ ls. IsSkipped known name values c.args.bucket ls (C.knows c.args.caller.now)) (drop_none links ∙ ap (λ m. drop m links) none) start;
  aside = λ known name values links other k at apart ko lacks. ko;
}

pub leap-passed-requires-clause-chain : goal.leap-passed-requires-clause-chain
leap-passed-requires-clause-chain g c =
    let C = g.C.Caller in
    let h = c.requires.chain in
    let p = c.loop-turn.invariant.place h.0 h.1 h.2 h.3 h.4 h.5 h.6 in
    let own = c.loop-turn.invariant.own in
    let rest = drop (c.args.n - c.loop-turn.left) h.3 in
    let short = drop_length (c.args.n - c.loop-turn.left) h.3 in (
      with_place h.0 h.1 h.2 c.args.bucket p.place,
      h.1,
      set h.2 c.args.bucket p.place,
      rest,
      p.known_now,
      at_skip (C.standing c.args.caller.now) h.0 c.args.table h.1 h.2 c.args.bucket h.3 h.5 (C.knows c.loop-turn.caller) rest p (C.standing c.loop-turn.caller) (value_same _ _ c.args.table own ∙ h.5.0.0),
      apart_drop h.1 (c.args.n - c.loop-turn.left) h.3 h.6,
      omega (arith, short, h.7),
    )

pub leap-passed-requires-clause-room : goal.leap-passed-requires-clause-room
leap-passed-requires-clause-room g c = omega (arith, c.requires.room, ap (λ (o : Thread). length o.stack) c.loop-turn.invariant.own)

pub leap-passed-requires-clause-top : goal.leap-passed-requires-clause-top
leap-passed-requires-clause-top g c = omega (arith, c.requires.top, ap (λ (o : Thread). length o.stack) c.loop-turn.invariant.own)

pub loop-turn-preserved : goal.loop-turn-preserved
loop-turn-preserved g c =
    let C = g.C.Caller in
    let s = C.standing c.args.caller.now in
    let inv = c.loop-turn.invariant in
    record {
      few = omega (arith, inv.few, c.leap-passed.ensures.few);
      ran = ran_more C.base C.tells C.tells_known C.standing _ _ _ inv.ran c.leap-passed.ensures.ran;
      own = c.leap-passed.ensures.own ∙ inv.own;
      place = λ known name values links k at apart.
          let p = inv.place known name values links k at apart in
          let rest = drop (c.args.n - c.loop-turn.left) links in
          let there = at_skip s known c.args.table name values c.args.bucket links at (C.knows c.loop-turn.caller) rest p (C.standing c.loop-turn.caller) (value_same _ _ c.args.table inv.own ∙ at.0.0) in
          let apart_rest = apart_drop name (c.args.n - c.loop-turn.left) links apart in
          let on = c.leap-passed.ensures.passed _ name (set values c.args.bucket p.place) rest p.known_now there apart_rest in
          let next = skipped_again known name values c.args.bucket p.place _ (C.knows c.leap-passed.new.caller) on.0 in
          let further : (c.args.n - c.loop-turn.left) + c.leap-passed.result ≡ c.args.n - (c.loop-turn.left - c.leap-passed.result) = omega (arith, inv.few, c.leap-passed.ensures.few) in
          subst (λ ls. IsSkipped known name values c.args.bucket ls (C.knows c.leap-passed.new.caller)) (drop-drop c.leap-passed.result (c.args.n - c.loop-turn.left) links ∙ ap (λ m. drop m links) further) next;
      aside = λ known name values links other k at apart ko lacks.
          let p = inv.place known name values links k at apart in
          let rest = drop (c.args.n - c.loop-turn.left) links in
          let there = at_skip s known c.args.table name values c.args.bucket links at (C.knows c.loop-turn.caller) rest p (C.standing c.loop-turn.caller) (value_same _ _ c.args.table inv.own ∙ at.0.0) in
          let apart_rest = apart_drop name (c.args.n - c.loop-turn.left) links apart in
          c.leap-passed.ensures.aside _ name (set values c.args.bucket p.place) rest other p.known_now there apart_rest (inv.aside known name values links other k at apart ko lacks) (lacks.0, lacks_drop other (c.args.n - c.loop-turn.left) links lacks.1);
    }

pub returns-then-left-eq0-clause-skipped : goal.returns-then-left-eq0-clause-skipped
returns-then-left-eq0-clause-skipped g c known name values links k at apart =
    let all : c.args.n - c.loop-turn.left ≡ c.args.n = omega arith in
    subst (λ m. IsSkipped known name values c.args.bucket (drop m links) (g.C.Caller.knows c.loop-turn.caller)) all (c.loop-turn.invariant.place known name values links k at apart)

pub returns-then-passed-eq0-clause-ran : goal.returns-then-passed-eq0-clause-ran
returns-then-passed-eq0-clause-ran g c = let C = g.C.Caller in ran_more C.base C.tells C.tells_known C.standing _ _ _ c.loop-turn.invariant.ran c.leap-passed.ensures.ran

pub returns-then-passed-eq0-clause-skipped : goal.returns-then-passed-eq0-clause-skipped
returns-then-passed-eq0-clause-skipped g c known name values links k at apart =
    let C = g.C.Caller in
    let s = C.standing c.args.caller.now in
    let inv = c.loop-turn.invariant in
    let p = inv.place known name values links k at apart in
    let rest = drop (c.args.n - c.loop-turn.left) links in
    let there = at_skip s known c.args.table name values c.args.bucket links at (C.knows c.loop-turn.caller) rest p (C.standing c.loop-turn.caller) (value_same _ _ c.args.table inv.own ∙ at.0.0) in
    let apart_rest = apart_drop name (c.args.n - c.loop-turn.left) links apart in
    let on = c.leap-passed.ensures.passed _ name (set values c.args.bucket p.place) rest p.known_now there apart_rest in
    let next = skipped_again known name values c.args.bucket p.place _ (C.knows c.leap-passed.new.caller) on.0 in
    let none = on.1 (omega arith) (omega arith) in
    let past = drop_past (c.args.n - c.loop-turn.left) c.args.n links none (omega arith) in
    subst (λ ls. IsSkipped known name values c.args.bucket ls (C.knows c.leap-passed.new.caller)) (ap (drop c.leap-passed.result) none ∙ drop_nothing c.leap-passed.result ∙ sym past) next

pub returns-then-passed-eq0-clause-aside : goal.returns-then-passed-eq0-clause-aside
returns-then-passed-eq0-clause-aside g c known name values links other k at apart ko lacks =
    let C = g.C.Caller in
    let s = C.standing c.args.caller.now in
    let inv = c.loop-turn.invariant in
    let p = inv.place known name values links k at apart in
    let rest = drop (c.args.n - c.loop-turn.left) links in
    let there = at_skip s known c.args.table name values c.args.bucket links at (C.knows c.loop-turn.caller) rest p (C.standing c.loop-turn.caller) (value_same _ _ c.args.table inv.own ∙ at.0.0) in
    let apart_rest = apart_drop name (c.args.n - c.loop-turn.left) links apart in
    c.leap-passed.ensures.aside _ name (set values c.args.bucket p.place) rest other p.known_now there apart_rest (inv.aside known name values links other k at apart ko lacks) (lacks.0, lacks_drop other (c.args.n - c.loop-turn.left) links lacks.1)

pub returns-clause-skipped : goal.returns-clause-skipped
returns-clause-skipped g c known name values links k at apart =
    let all : c.args.n - c.loop-turn.left ≡ c.args.n = omega (arith, c.loop-turn.invariant.few, c.loop-turn-test.false, c.loop-turn.auto.turn-end) in
    subst (λ m. IsSkipped known name values c.args.bucket (drop m links) (g.C.Caller.knows c.loop-turn.caller)) all (c.loop-turn.invariant.place known name values links k at apart)
