use Rattle.std.proofs.Common.{◌≡◌, ◌∙◌, sym, subst, arith, drop, true≢false}
use Rattle.yak_model.specs.Tables.{entry_fields}
use Rattle.heap_tables.specs.Layouts.{IsLaid}
use Rattle.heap_tables.proofs.Laid.{all_passed, laid_chain, laid_next, laid_size, lays_end, lays_more, lays_none}
use Rattle.heap_tables.proofs.RunOn.{ran_more}
use Rattle.heap_tables.proofs.layouts.lay_on.Goals as goal

pub try_load-requires-clause-some : goal.try_load-requires-clause-some
try_load-requires-clause-some g c = let h = c.requires.laid in (h.0, c.loop-n.invariant.keeps h.0 h.3)

pub try_load-requires-clause-room : goal.try_load-requires-clause-room
try_load-requires-clause-room g c =
    let C = g.C.Caller in
    let h = c.requires.laid in
    let n = c.loop-n.n in
    let laid = c.loop-n.invariant.laid h.0 h.1 h.2 h.3 h.4 h.5 h.6 in
    let size = laid_size h.1 h.2 n (C.standing c.loop-n.caller).own laid.1 in
    omega (arith, size, h.6, c.requires.room, c.loop-n-test.true)

pub returns-then-not-try_load-clause-ran : goal.returns-then-not-try_load-clause-ran
returns-then-not-try_load-clause-ran g c = let C = g.C.Caller in ran_more C.base C.tells C.tells_known C.standing _ _ _ c.loop-n.invariant.ran c.try_load.ensures.ran

pub returns-then-not-try_load-clause-laid : goal.returns-then-not-try_load-clause-laid
returns-then-not-try_load-clause-laid g c known own links k chain first size =
    let C = g.C.Caller in
    let inv = c.loop-n.invariant in
    let n = c.loop-n.n in
    let before = (C.standing c.loop-n.caller).own in
    let laid = inv.laid known own links k chain first size in
    let there = laid_chain known own links chain n c.args.at before laid size n (omega arith) in
    let end = lays_end before _ known _ (drop n links) there (λ null. (c.if-not-try_load.ensures.null null).1)
    (λ next link head entry. true≢false (sym (c.if-not-try_load.ensures.pushed known link.entry (entry_fields next link.key link.count) (inv.keeps known k) (head, entry.0) (omega arith)).0)) in
    let none = lays_none known _ (drop n links) there
    (λ next link head entry. true≢false (sym (c.if-not-try_load.ensures.pushed known link.entry (entry_fields next link.key link.count) (inv.keeps known k) (head, entry.0) (omega arith)).0)) in
    ((laid.0, end ∙ laid.1), λ fewer. all_passed n links laid.0 none)

pub loop-n-preserved : goal.loop-n-preserved
loop-n-preserved g c = let C = g.C.Caller in record {
  ran = ran_more C.base C.tells C.tells_known C.standing _ _ _ c.loop-n.invariant.ran c.try_load.ensures.ran;
  keeps = λ known k. c.try_load.ensures.keeps known (c.loop-n.invariant.keeps known k);
  laid = λ known own links k chain first size.
      let inv = c.loop-n.invariant in
      let n = c.loop-n.n in
      let before = (C.standing c.loop-n.caller).own in
      let laid = inv.laid known own links k chain first size in
      let there = laid_chain known own links chain n c.args.at before laid size n (omega arith) in
      let next = lays_more before (C.standing c.try_load.new.caller).own known _ (drop n links) there (λ null. true≢false (c.if-not-try_load.ensures.null null).0)
      (λ next link head entry. (c.if-not-try_load.ensures.pushed known link.entry (entry_fields next link.key link.count) (inv.keeps known k) (head, entry.0) (omega arith)).1) in
      laid_next own links n before (C.standing c.try_load.new.caller).own laid next;
}

pub returns-clause-laid : goal.returns-clause-laid
returns-clause-laid g c known own links k chain first size =
    let C = g.C.Caller in
    let end : c.loop-n.n ≡ c.args.most = omega (arith, c.loop-n-test.false, c.loop-n.auto.n-end, c.requires.few) in
    (subst (λ n. IsLaid own links n (C.standing c.loop-n.caller).own) end (c.loop-n.invariant.laid known own links k chain first size), λ fewer. absurd (omega (arith, fewer)))
