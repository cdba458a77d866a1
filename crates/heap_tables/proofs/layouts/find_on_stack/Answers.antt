use Rattle.std.proofs.Common.{◌≡◌, ◌+◌, ◌∙◌, subst, arith, drop}
use Rattle.heap_tables.specs.Layouts.{IsLaid}
use Rattle.heap_tables.proofs.Laid.{laid_chain, laid_entry, laid_next, laid_size}
use Rattle.heap_tables.proofs.RunOn.{ran_more}
use Rattle.heap_tables.proofs.layouts.find_on_stack.Goals as goal

pub lay_next-requires-clause-chain : goal.lay_next-requires-clause-chain
lay_next-requires-clause-chain g c =
    let C = g.C.Caller in
    let h = c.requires.laid in
    let inv = c.loop-n.invariant in
    let n = c.loop-n.n in
    let laid = inv.laid h.0 h.1 h.2 h.3 h.4 h.5 h.6 in
    (h.0, drop n h.2, inv.keeps h.0 h.3, laid_chain h.0 h.1 h.2 h.4 n c.args.at (C.standing c.loop-n.caller).own laid h.6 n (omega arith))

pub lay_next-requires-clause-room : goal.lay_next-requires-clause-room
lay_next-requires-clause-room g c =
    let C = g.C.Caller in
    let h = c.requires.laid in
    let n = c.loop-n.n in
    let laid = c.loop-n.invariant.laid h.0 h.1 h.2 h.3 h.4 h.5 h.6 in
    let size = laid_size h.1 h.2 n (C.standing c.loop-n.caller).own laid.1 in
    omega (arith, size, h.6, c.requires.room, c.loop-n-test.true)

pub lay_next-requires-clause-top : goal.lay_next-requires-clause-top
lay_next-requires-clause-top g c =
    let C = g.C.Caller in
    let h = c.requires.laid in
    let n = c.loop-n.n in
    let laid = c.loop-n.invariant.laid h.0 h.1 h.2 h.3 h.4 h.5 h.6 in
    let size = laid_size h.1 h.2 n (C.standing c.loop-n.caller).own laid.1 in
    omega (arith, size, h.6)

pub returns-then-not-lay_next-clause-ran : goal.returns-then-not-lay_next-clause-ran
returns-then-not-lay_next-clause-ran g c = let C = g.C.Caller in ran_more C.base C.tells C.tells_known C.standing _ _ _ c.loop-n.invariant.ran c.lay_next.ensures.ran

pub returns-then-not-lay_next-clause-found : goal.returns-then-not-lay_next-clause-found
returns-then-not-lay_next-clause-found g c known own links k chain first size =
    let C = g.C.Caller in
    let inv = c.loop-n.invariant in
    let n = c.loop-n.n in
    let laid = inv.laid known own links k chain first size in
    let next = c.if-not-lay_next.ensures.laid known (drop n links) (inv.keeps known k) (laid_chain known own links chain n c.args.at (C.standing c.loop-n.caller).own laid size n (omega arith)) in
    ((laid.0, next ∙ laid.1), tt)

pub is_entry_of-requires-clause-entry : goal.is_entry_of-requires-clause-entry
is_entry_of-requires-clause-entry g c =
    let C = g.C.Caller in
    let h = c.requires.laid in
    let inv = c.loop-n.invariant in
    let n = c.loop-n.n in
    let laid = inv.laid h.0 h.1 h.2 h.3 h.4 h.5 h.6 in
    let next = c.if-not-lay_next.ensures.laid h.0 (drop n h.2) (inv.keeps h.0 h.3) (laid_chain h.0 h.1 h.2 h.4 n c.args.at (C.standing c.loop-n.caller).own laid h.6 n (omega arith)) in
    let more = laid_next h.1 h.2 n (C.standing c.loop-n.caller).own (C.standing c.lay_next.new.caller).own laid next in
    let r = laid_entry h.0 h.1 h.2 h.4 (n + 1) c.args.at (C.standing c.lay_next.new.caller).own more h.6 n (omega arith) in
    (h.0, r.2, r.0, c.lay_next.ensures.keeps h.0 (inv.keeps h.0 h.3), (r.4, r.5))

pub is_entry_of-requires-clause-room : goal.is_entry_of-requires-clause-room
is_entry_of-requires-clause-room g c =
    let C = g.C.Caller in
    let h = c.requires.laid in
    let inv = c.loop-n.invariant in
    let n = c.loop-n.n in
    let laid = inv.laid h.0 h.1 h.2 h.3 h.4 h.5 h.6 in
    let next = c.if-not-lay_next.ensures.laid h.0 (drop n h.2) (inv.keeps h.0 h.3) (laid_chain h.0 h.1 h.2 h.4 n c.args.at (C.standing c.loop-n.caller).own laid h.6 n (omega arith)) in
    let more = laid_next h.1 h.2 n (C.standing c.loop-n.caller).own (C.standing c.lay_next.new.caller).own laid next in
    let size = laid_size h.1 h.2 (n + 1) (C.standing c.lay_next.new.caller).own more.1 in
    omega (arith, size, h.6, c.requires.room, c.loop-n-test.true)

pub is_entry_of-requires-clause-top : goal.is_entry_of-requires-clause-top
is_entry_of-requires-clause-top g c =
    let C = g.C.Caller in
    let h = c.requires.laid in
    let inv = c.loop-n.invariant in
    let n = c.loop-n.n in
    let laid = inv.laid h.0 h.1 h.2 h.3 h.4 h.5 h.6 in
    let next = c.if-not-lay_next.ensures.laid h.0 (drop n h.2) (inv.keeps h.0 h.3) (laid_chain h.0 h.1 h.2 h.4 n c.args.at (C.standing c.loop-n.caller).own laid h.6 n (omega arith)) in
    let more = laid_next h.1 h.2 n (C.standing c.loop-n.caller).own (C.standing c.lay_next.new.caller).own laid next in
    let size = laid_size h.1 h.2 (n + 1) (C.standing c.lay_next.new.caller).own more.1 in
    omega (arith, size, h.6)

pub returns-then-is_entry_of-clause-ran : goal.returns-then-is_entry_of-clause-ran
returns-then-is_entry_of-clause-ran g c = let C = g.C.Caller in ran_more C.base C.tells C.tells_known C.standing _ _ _ (ran_more C.base C.tells C.tells_known C.standing _ _ _ c.loop-n.invariant.ran c.lay_next.ensures.ran) c.is_entry_of.ensures.ran

pub returns-then-is_entry_of-clause-found : goal.returns-then-is_entry_of-clause-found
returns-then-is_entry_of-clause-found g c known own links k chain first size =
    let C = g.C.Caller in
    let inv = c.loop-n.invariant in
    let n = c.loop-n.n in
    let laid = inv.laid known own links k chain first size in
    let next = c.if-not-lay_next.ensures.laid known (drop n links) (inv.keeps known k) (laid_chain known own links chain n c.args.at (C.standing c.loop-n.caller).own laid size n (omega arith)) in
    let more = laid_next own links n (C.standing c.loop-n.caller).own (C.standing c.lay_next.new.caller).own laid next in
    let r = laid_entry known own links chain (n + 1) c.args.at (C.standing c.lay_next.new.caller).own more size n (omega arith) in
    ((more.0, c.is_entry_of.ensures.own ∙ more.1), (omega arith, (r.0, r.1, r.3, c.is_entry_of.ensures.answer known r.2 r.0 (c.lay_next.ensures.keeps known (inv.keeps known k)) (r.4, r.5) c.if-is_entry_of.true)))

pub loop-n-preserved : goal.loop-n-preserved
loop-n-preserved g c = let C = g.C.Caller in record {
  groups = c.lay_next.ensures.groups ∙ c.loop-n.invariant.groups;
  ran = ran_more C.base C.tells C.tells_known C.standing _ _ _ (ran_more C.base C.tells C.tells_known C.standing _ _ _ c.loop-n.invariant.ran c.lay_next.ensures.ran) c.is_entry_of.ensures.ran;
  keeps = λ known k. c.is_entry_of.ensures.keeps known (c.lay_next.ensures.keeps known (c.loop-n.invariant.keeps known k));
  laid = λ known own links k chain first size.
      let inv = c.loop-n.invariant in
      let n = c.loop-n.n in
      let laid = inv.laid known own links k chain first size in
      let next = c.if-not-lay_next.ensures.laid known (drop n links) (inv.keeps known k) (laid_chain known own links chain n c.args.at (C.standing c.loop-n.caller).own laid size n (omega arith)) in
      let more = laid_next own links n (C.standing c.loop-n.caller).own (C.standing c.lay_next.new.caller).own laid next in
      (more.0, c.is_entry_of.ensures.own ∙ more.1);
}

pub returns-clause-found : goal.returns-clause-found
returns-clause-found g c known own links k chain first size =
    let C = g.C.Caller in
    let end : c.loop-n.n ≡ c.args.most = omega (arith, c.loop-n-test.false, c.loop-n.auto.n-end, c.requires.few) in
    (subst (λ n. IsLaid own links n (C.standing c.loop-n.caller).own) end (c.loop-n.invariant.laid known own links k chain first size), tt)
