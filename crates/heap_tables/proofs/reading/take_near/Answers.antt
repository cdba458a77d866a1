use Rattle.std.proofs.Common.{◌+◌, ◌∙◌, ap, arith, drop, get_or, length, subst}
use Rattle.yak_model.specs.Graph.{Thread}
use Rattle.yak_model.specs.declared.datum.Datum.TheVariants as datum
use Rattle.heap_tables.specs.Layouts.{IsLaid}
use Rattle.heap_tables.specs.Reads.{Took}
use Rattle.heap_tables.specs.Runs.{pushed, without_top}
use Rattle.heap_tables.proofs.Effects.{size_after}
use Rattle.heap_tables.proofs.Laid.{chain_first, laid_chain, laid_dropped, laid_first, laid_size}
use Rattle.heap_tables.proofs.RunOn.{ran_more}
use Rattle.heap_tables.proofs.Sought.{chain_front, drop_reached, short_drop}
use Rattle.heap_tables.proofs.reading.take_near.Goals as goal

pub load-requires-clause-field : goal.load-requires-clause-field
load-requires-clause-field g c =
    let h = c.requires.chain in (h.0, h.1, h.2, h.4, h.5.0, h.5.1)

pub lay_on-passed-requires-clause-laid : goal.lay_on-passed-requires-clause-laid
lay_on-passed-requires-clause-laid g c =
    let C = g.C.Caller in
    let s = C.standing c.args.caller.now in
    let h = c.requires.chain in
    let known = h.0 in
    let name = h.1 in
    let values = h.2 in
    let links = h.3 in
    let k = h.4 in
    let at = h.5 in
    let apart = h.6 in
    let b = c.args.bucket in
    let head = get_or values b datum.Null in
    let e = c.load.ensures.pushed known name values k at.0 at.1 in
    let first = chain_first known head links at.2 in
    let zeroth : IsLaid s.own links 0 (C.standing c.load.new.caller).own = (omega arith, e ∙ ap (pushed s.own) (chain_front known head links at.2) ∙ laid_first s.own links) in
    (known, s.own, links, c.load.ensures.keeps known k, first, zeroth, c.requires.top)

pub lay_on-passed-requires-clause-top : goal.lay_on-passed-requires-clause-top
lay_on-passed-requires-clause-top g c =
    let C = g.C.Caller in
    let s = C.standing c.args.caller.now in
    let h = c.requires.chain in
    let known = h.0 in
    let name = h.1 in
    let values = h.2 in
    let links = h.3 in
    let k = h.4 in
    let at = h.5 in
    let apart = h.6 in
    let b = c.args.bucket in
    let head = get_or values b datum.Null in
    let e = c.load.ensures.pushed known name values k at.0 at.1 in
    let first = chain_first known head links at.2 in
    let zeroth : IsLaid s.own links 0 (C.standing c.load.new.caller).own = (omega arith, e ∙ ap (pushed s.own) (chain_front known head links at.2) ∙ laid_first s.own links) in
    let deep = size_after s.own _ head e in
    omega (arith, deep, c.requires.top)

pub read_entry-taken-requires-clause-chain : goal.read_entry-taken-requires-clause-chain
read_entry-taken-requires-clause-chain g c =
    let C = g.C.Caller in
    let s = C.standing c.args.caller.now in
    let h = c.requires.chain in
    let known = h.0 in
    let name = h.1 in
    let values = h.2 in
    let links = h.3 in
    let k = h.4 in
    let at = h.5 in
    let apart = h.6 in
    let b = c.args.bucket in
    let head = get_or values b datum.Null in
    let e = c.load.ensures.pushed known name values k at.0 at.1 in
    let first = chain_first known head links at.2 in
    let zeroth : IsLaid s.own links 0 (C.standing c.load.new.caller).own = (omega arith, e ∙ ap (pushed s.own) (chain_front known head links at.2) ∙ laid_first s.own links) in
    let on = c.lay_on-passed.ensures.laid known s.own links (c.load.ensures.keeps known k) first zeroth c.requires.top in
    let now = C.standing c.lay_on-passed.new.caller in
    let passed = c.lay_on-passed.result in
    let kept = c.lay_on-passed.ensures.keeps known (c.load.ensures.keeps known k) in
    let there = laid_chain known s.own links first passed c.args.top now.own on.0 c.requires.top passed (omega arith) in
    let size = laid_size s.own links passed now.own on.0.1 in
    (known, drop passed links, kept, there, short_drop passed links h.8)

pub read_entry-taken-requires-clause-slot : goal.read_entry-taken-requires-clause-slot
read_entry-taken-requires-clause-slot g c =
    let C = g.C.Caller in
    let s = C.standing c.args.caller.now in
    let h = c.requires.chain in
    let known = h.0 in
    let name = h.1 in
    let values = h.2 in
    let links = h.3 in
    let k = h.4 in
    let at = h.5 in
    let apart = h.6 in
    let b = c.args.bucket in
    let head = get_or values b datum.Null in
    let e = c.load.ensures.pushed known name values k at.0 at.1 in
    let first = chain_first known head links at.2 in
    let zeroth : IsLaid s.own links 0 (C.standing c.load.new.caller).own = (omega arith, e ∙ ap (pushed s.own) (chain_front known head links at.2) ∙ laid_first s.own links) in
    let on = c.lay_on-passed.ensures.laid known s.own links (c.load.ensures.keeps known k) first zeroth c.requires.top in
    let now = C.standing c.lay_on-passed.new.caller in
    let passed = c.lay_on-passed.result in
    let kept = c.lay_on-passed.ensures.keeps known (c.load.ensures.keeps known k) in
    let there = laid_chain known s.own links first passed c.args.top now.own on.0 c.requires.top passed (omega arith) in
    let size = laid_size s.own links passed now.own on.0.1 in
    omega (arith, size, c.requires.top)

pub read_entry-taken-requires-clause-room : goal.read_entry-taken-requires-clause-room
read_entry-taken-requires-clause-room g c =
    let C = g.C.Caller in
    let s = C.standing c.args.caller.now in
    let h = c.requires.chain in
    let known = h.0 in
    let name = h.1 in
    let values = h.2 in
    let links = h.3 in
    let k = h.4 in
    let at = h.5 in
    let apart = h.6 in
    let b = c.args.bucket in
    let head = get_or values b datum.Null in
    let e = c.load.ensures.pushed known name values k at.0 at.1 in
    let first = chain_first known head links at.2 in
    let zeroth : IsLaid s.own links 0 (C.standing c.load.new.caller).own = (omega arith, e ∙ ap (pushed s.own) (chain_front known head links at.2) ∙ laid_first s.own links) in
    let on = c.lay_on-passed.ensures.laid known s.own links (c.load.ensures.keeps known k) first zeroth c.requires.top in
    let now = C.standing c.lay_on-passed.new.caller in
    let passed = c.lay_on-passed.result in
    let kept = c.lay_on-passed.ensures.keeps known (c.load.ensures.keeps known k) in
    let there = laid_chain known s.own links first passed c.args.top now.own on.0 c.requires.top passed (omega arith) in
    let size = laid_size s.own links passed now.own on.0.1 in
    omega (arith, size, c.requires.top, c.requires.room, c.lay_on-passed.ensures.few)

pub read_entry-taken-requires-clause-top : goal.read_entry-taken-requires-clause-top
read_entry-taken-requires-clause-top g c =
    let C = g.C.Caller in
    let s = C.standing c.args.caller.now in
    let h = c.requires.chain in
    let known = h.0 in
    let name = h.1 in
    let values = h.2 in
    let links = h.3 in
    let k = h.4 in
    let at = h.5 in
    let apart = h.6 in
    let b = c.args.bucket in
    let head = get_or values b datum.Null in
    let e = c.load.ensures.pushed known name values k at.0 at.1 in
    let first = chain_first known head links at.2 in
    let zeroth : IsLaid s.own links 0 (C.standing c.load.new.caller).own = (omega arith, e ∙ ap (pushed s.own) (chain_front known head links at.2) ∙ laid_first s.own links) in
    let on = c.lay_on-passed.ensures.laid known s.own links (c.load.ensures.keeps known k) first zeroth c.requires.top in
    let now = C.standing c.lay_on-passed.new.caller in
    let passed = c.lay_on-passed.result in
    let kept = c.lay_on-passed.ensures.keeps known (c.load.ensures.keeps known k) in
    let there = laid_chain known s.own links first passed c.args.top now.own on.0 c.requires.top passed (omega arith) in
    let size = laid_size s.own links passed now.own on.0.1 in
    omega (arith, size, c.requires.top)

pub pop_all-requires-clause-some : goal.pop_all-requires-clause-some
pop_all-requires-clause-some g c =
    let C = g.C.Caller in
    let s = C.standing c.args.caller.now in
    let h = c.requires.chain in
    let known = h.0 in
    let name = h.1 in
    let values = h.2 in
    let links = h.3 in
    let k = h.4 in
    let at = h.5 in
    let apart = h.6 in
    let b = c.args.bucket in
    let head = get_or values b datum.Null in
    let e = c.load.ensures.pushed known name values k at.0 at.1 in
    let first = chain_first known head links at.2 in
    let zeroth : IsLaid s.own links 0 (C.standing c.load.new.caller).own = (omega arith, e ∙ ap (pushed s.own) (chain_front known head links at.2) ∙ laid_first s.own links) in
    let on = c.lay_on-passed.ensures.laid known s.own links (c.load.ensures.keeps known k) first zeroth c.requires.top in
    let now = C.standing c.lay_on-passed.new.caller in
    let passed = c.lay_on-passed.result in
    let kept = c.lay_on-passed.ensures.keeps known (c.load.ensures.keeps known k) in
    let there = laid_chain known s.own links first passed c.args.top now.own on.0 c.requires.top passed (omega arith) in
    let size = laid_size s.own links passed now.own on.0.1 in
    (known, c.read_entry-taken.ensures.keeps known kept)

pub pop_all-requires-clause-slots : goal.pop_all-requires-clause-slots
pop_all-requires-clause-slots g c =
    let C = g.C.Caller in
    let s = C.standing c.args.caller.now in
    let h = c.requires.chain in
    let known = h.0 in
    let name = h.1 in
    let values = h.2 in
    let links = h.3 in
    let k = h.4 in
    let at = h.5 in
    let apart = h.6 in
    let b = c.args.bucket in
    let head = get_or values b datum.Null in
    let e = c.load.ensures.pushed known name values k at.0 at.1 in
    let first = chain_first known head links at.2 in
    let zeroth : IsLaid s.own links 0 (C.standing c.load.new.caller).own = (omega arith, e ∙ ap (pushed s.own) (chain_front known head links at.2) ∙ laid_first s.own links) in
    let on = c.lay_on-passed.ensures.laid known s.own links (c.load.ensures.keeps known k) first zeroth c.requires.top in
    let now = C.standing c.lay_on-passed.new.caller in
    let passed = c.lay_on-passed.result in
    let kept = c.lay_on-passed.ensures.keeps known (c.load.ensures.keeps known k) in
    let there = laid_chain known s.own links first passed c.args.top now.own on.0 c.requires.top passed (omega arith) in
    let size = laid_size s.own links passed now.own on.0.1 in
    omega (arith, size, ap (λ (o : Thread). length o.stack) c.read_entry-taken.ensures.own)

pub returns-clause-ran : goal.returns-clause-ran
returns-clause-ran g c =
    let C = g.C.Caller in
    let up = ran_more C.base C.tells C.tells_known C.standing _ _ _ c.load.ensures.ran c.lay_on-passed.ensures.ran in
    ran_more C.base C.tells C.tells_known C.standing _ _ _ (ran_more C.base C.tells C.tells_known C.standing _ _ _ up c.read_entry-taken.ensures.ran) c.pop_all.ensures.ran

pub returns-clause-own : goal.returns-clause-own
returns-clause-own g c =
    let C = g.C.Caller in
    let s = C.standing c.args.caller.now in
    let h = c.requires.chain in
    let known = h.0 in
    let name = h.1 in
    let values = h.2 in
    let links = h.3 in
    let k = h.4 in
    let at = h.5 in
    let apart = h.6 in
    let b = c.args.bucket in
    let head = get_or values b datum.Null in
    let e = c.load.ensures.pushed known name values k at.0 at.1 in
    let first = chain_first known head links at.2 in
    let zeroth : IsLaid s.own links 0 (C.standing c.load.new.caller).own = (omega arith, e ∙ ap (pushed s.own) (chain_front known head links at.2) ∙ laid_first s.own links) in
    let on = c.lay_on-passed.ensures.laid known s.own links (c.load.ensures.keeps known k) first zeroth c.requires.top in
    let now = C.standing c.lay_on-passed.new.caller in
    let passed = c.lay_on-passed.result in
    let kept = c.lay_on-passed.ensures.keeps known (c.load.ensures.keeps known k) in
    let there = laid_chain known s.own links first passed c.args.top now.own on.0 c.requires.top passed (omega arith) in
    let size = laid_size s.own links passed now.own on.0.1 in
    c.pop_all.ensures.popped ∙ ap (λ o. without_top o (passed + 1)) c.read_entry-taken.ensures.own ∙ laid_dropped s.own links passed now.own on.0.1

pub returns-clause-took : goal.returns-clause-took
returns-clause-took g c known name values links k at apart =
    let C = g.C.Caller in
    let s = C.standing c.args.caller.now in
    let b = c.args.bucket in
    let head = get_or values b datum.Null in
    let e = c.load.ensures.pushed known name values k at.0 at.1 in
    let first = chain_first known head links at.2 in
    let zeroth : IsLaid s.own links 0 (C.standing c.load.new.caller).own = (omega arith, e ∙ ap (pushed s.own) (chain_front known head links at.2) ∙ laid_first s.own links) in
    let on = c.lay_on-passed.ensures.laid known s.own links (c.load.ensures.keeps known k) first zeroth c.requires.top in
    let now = C.standing c.lay_on-passed.new.caller in
    let passed = c.lay_on-passed.result in
    let kept = c.lay_on-passed.ensures.keeps known (c.load.ensures.keeps known k) in
    let there = laid_chain known s.own links first passed c.args.top now.own on.0 c.requires.top passed (omega arith) in
    let size = laid_size s.own links passed now.own on.0.1 in (
      subst (λ ls. Took ls c.read_entry-taken.result c.read_entry-taken.new.buffer) (drop_reached passed c.args.place links c.lay_on-passed.ensures.few.1 on.1) (c.read_entry-taken.ensures.took known (drop passed links) kept there),
      c.pop_all.ensures.keeps known (c.read_entry-taken.ensures.keeps known kept),
    )

pub returns-clause-aside : goal.returns-clause-aside
returns-clause-aside g c known name values links other k at apart ko lacks =
    c.pop_all.ensures.keeps other (c.read_entry-taken.ensures.keeps other (c.lay_on-passed.ensures.keeps other (c.load.ensures.keeps other ko)))
