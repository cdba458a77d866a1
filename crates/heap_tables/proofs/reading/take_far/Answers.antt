use Rattle.std.proofs.Common.{◌+◌, ◌∙◌, ap, sym, subst, arith, drop, get_or, length}
use Rattle.yak_model.specs.Graph.{Thread}
use Rattle.yak_model.specs.Tables.{IsChain}
use Rattle.yak_model.specs.declared.datum.Datum.TheVariants as datum
use Rattle.heap_tables.specs.Runs.{popped, pushed}
use Rattle.heap_tables.specs.Seeks.{first_of}
use Rattle.heap_tables.proofs.Effects.{length_push, popped_pushed, size_after, top_after}
use Rattle.heap_tables.proofs.Laid.{chain_at, chain_first}
use Rattle.heap_tables.proofs.RunOn.{ran_more}
use Rattle.heap_tables.proofs.Sought.{short_drop}
use Rattle.heap_tables.proofs.reading.take_far.Goals as goal

pub seek-requires-clause-chain : goal.seek-requires-clause-chain
seek-requires-clause-chain g c =
    let h = c.requires.chain in (h.0, h.1, h.2, h.3, h.4, h.5, h.6, h.7)

pub read_entry-taken-requires-clause-chain : goal.read_entry-taken-requires-clause-chain
read_entry-taken-requires-clause-chain g c =
    let C = g.C.Caller in
    let s = C.standing c.args.caller.now in
    let h = c.requires.chain in
    let known = h.0 in
    let name = h.1 in
    let values = h.2 in
    let links = h.3 in
    let k = h.4 in
    let at = h.5 in
    let apart = h.6 in
    let front = get_or values c.args.bucket datum.Null in
    let rest = drop c.args.place links in
    let q = c.seek.ensures.sought known name values links k at apart in
    let one = length_push s.own.stack front in
    let two = size_after (pushed s.own front) _ (first_of rest) q.0 in
    let top = top_after (pushed s.own front) _ (first_of rest) (c.args.top + 1) q.0 (omega (arith, one, c.requires.top)) in
    let chain = subst (λ v. IsChain known v rest) (sym top) (chain_at known links c.args.place (chain_first known front links at.2)) in
    (known, rest, q.1, chain, short_drop c.args.place links h.8)

pub read_entry-taken-requires-clause-slot : goal.read_entry-taken-requires-clause-slot
read_entry-taken-requires-clause-slot g c =
    let C = g.C.Caller in
    let s = C.standing c.args.caller.now in
    let h = c.requires.chain in
    let known = h.0 in
    let name = h.1 in
    let values = h.2 in
    let links = h.3 in
    let k = h.4 in
    let at = h.5 in
    let apart = h.6 in
    let front = get_or values c.args.bucket datum.Null in
    let rest = drop c.args.place links in
    let q = c.seek.ensures.sought known name values links k at apart in
    let one = length_push s.own.stack front in
    let two = size_after (pushed s.own front) _ (first_of rest) q.0 in
    let top = top_after (pushed s.own front) _ (first_of rest) (c.args.top + 1) q.0 (omega (arith, one, c.requires.top)) in
    let chain = subst (λ v. IsChain known v rest) (sym top) (chain_at known links c.args.place (chain_first known front links at.2)) in
    omega (arith, one, two, c.requires.top)

pub read_entry-taken-requires-clause-room : goal.read_entry-taken-requires-clause-room
read_entry-taken-requires-clause-room g c =
    let C = g.C.Caller in
    let s = C.standing c.args.caller.now in
    let h = c.requires.chain in
    let known = h.0 in
    let name = h.1 in
    let values = h.2 in
    let links = h.3 in
    let k = h.4 in
    let at = h.5 in
    let apart = h.6 in
    let front = get_or values c.args.bucket datum.Null in
    let rest = drop c.args.place links in
    let q = c.seek.ensures.sought known name values links k at apart in
    let one = length_push s.own.stack front in
    let two = size_after (pushed s.own front) _ (first_of rest) q.0 in
    let top = top_after (pushed s.own front) _ (first_of rest) (c.args.top + 1) q.0 (omega (arith, one, c.requires.top)) in
    let chain = subst (λ v. IsChain known v rest) (sym top) (chain_at known links c.args.place (chain_first known front links at.2)) in
    omega (arith, one, two, c.requires.room)

pub read_entry-taken-requires-clause-top : goal.read_entry-taken-requires-clause-top
read_entry-taken-requires-clause-top g c =
    let C = g.C.Caller in
    let s = C.standing c.args.caller.now in
    let h = c.requires.chain in
    let known = h.0 in
    let name = h.1 in
    let values = h.2 in
    let links = h.3 in
    let k = h.4 in
    let at = h.5 in
    let apart = h.6 in
    let front = get_or values c.args.bucket datum.Null in
    let rest = drop c.args.place links in
    let q = c.seek.ensures.sought known name values links k at apart in
    let one = length_push s.own.stack front in
    let two = size_after (pushed s.own front) _ (first_of rest) q.0 in
    let top = top_after (pushed s.own front) _ (first_of rest) (c.args.top + 1) q.0 (omega (arith, one, c.requires.top)) in
    let chain = subst (λ v. IsChain known v rest) (sym top) (chain_at known links c.args.place (chain_first known front links at.2)) in
    omega (arith, one, two, c.requires.top)

pub pop-requires-clause-some : goal.pop-requires-clause-some
pop-requires-clause-some g c =
    let C = g.C.Caller in
    let s = C.standing c.args.caller.now in
    let h = c.requires.chain in
    let known = h.0 in
    let name = h.1 in
    let values = h.2 in
    let links = h.3 in
    let k = h.4 in
    let at = h.5 in
    let apart = h.6 in
    let front = get_or values c.args.bucket datum.Null in
    let rest = drop c.args.place links in
    let q = c.seek.ensures.sought known name values links k at apart in
    let one = length_push s.own.stack front in
    let two = size_after (pushed s.own front) _ (first_of rest) q.0 in
    let top = top_after (pushed s.own front) _ (first_of rest) (c.args.top + 1) q.0 (omega (arith, one, c.requires.top)) in
    let chain = subst (λ v. IsChain known v rest) (sym top) (chain_at known links c.args.place (chain_first known front links at.2)) in
    (known, c.read_entry-taken.ensures.keeps known q.1)

pub pop-requires-clause-slot : goal.pop-requires-clause-slot
pop-requires-clause-slot g c =
    let C = g.C.Caller in
    let s = C.standing c.args.caller.now in
    let h = c.requires.chain in
    let known = h.0 in
    let name = h.1 in
    let values = h.2 in
    let links = h.3 in
    let k = h.4 in
    let at = h.5 in
    let apart = h.6 in
    let front = get_or values c.args.bucket datum.Null in
    let rest = drop c.args.place links in
    let q = c.seek.ensures.sought known name values links k at apart in
    let one = length_push s.own.stack front in
    let two = size_after (pushed s.own front) _ (first_of rest) q.0 in
    let top = top_after (pushed s.own front) _ (first_of rest) (c.args.top + 1) q.0 (omega (arith, one, c.requires.top)) in
    let chain = subst (λ v. IsChain known v rest) (sym top) (chain_at known links c.args.place (chain_first known front links at.2)) in
    omega (arith, one, two, ap (λ (o : Thread). length o.stack) c.read_entry-taken.ensures.own)

pub pop-requires-2-clause-some : goal.pop-requires-2-clause-some
pop-requires-2-clause-some g c =
    let C = g.C.Caller in
    let s = C.standing c.args.caller.now in
    let h = c.requires.chain in
    let known = h.0 in
    let name = h.1 in
    let values = h.2 in
    let links = h.3 in
    let k = h.4 in
    let at = h.5 in
    let apart = h.6 in
    let front = get_or values c.args.bucket datum.Null in
    let rest = drop c.args.place links in
    let q = c.seek.ensures.sought known name values links k at apart in
    let one = length_push s.own.stack front in
    let two = size_after (pushed s.own front) _ (first_of rest) q.0 in
    let top = top_after (pushed s.own front) _ (first_of rest) (c.args.top + 1) q.0 (omega (arith, one, c.requires.top)) in
    let chain = subst (λ v. IsChain known v rest) (sym top) (chain_at known links c.args.place (chain_first known front links at.2)) in
    (known, c.pop.ensures.keeps known (c.read_entry-taken.ensures.keeps known q.1))

pub pop-requires-2-clause-slot : goal.pop-requires-2-clause-slot
pop-requires-2-clause-slot g c =
    let C = g.C.Caller in
    let s = C.standing c.args.caller.now in
    let h = c.requires.chain in
    let known = h.0 in
    let name = h.1 in
    let values = h.2 in
    let links = h.3 in
    let k = h.4 in
    let at = h.5 in
    let apart = h.6 in
    let front = get_or values c.args.bucket datum.Null in
    let rest = drop c.args.place links in
    let q = c.seek.ensures.sought known name values links k at apart in
    let one = length_push s.own.stack front in
    let two = size_after (pushed s.own front) _ (first_of rest) q.0 in
    let top = top_after (pushed s.own front) _ (first_of rest) (c.args.top + 1) q.0 (omega (arith, one, c.requires.top)) in
    let chain = subst (λ v. IsChain known v rest) (sym top) (chain_at known links c.args.place (chain_first known front links at.2)) in
    omega (arith, one, ap (λ (o : Thread). length o.stack) (c.pop.ensures.popped ∙ ap popped (c.read_entry-taken.ensures.own ∙ q.0) ∙ popped_pushed _ _))

pub returns-clause-ran : goal.returns-clause-ran
returns-clause-ran g c =
    let C = g.C.Caller in
    let up = ran_more C.base C.tells C.tells_known C.standing _ _ _ c.seek.ensures.ran c.read_entry-taken.ensures.ran in
    ran_more C.base C.tells C.tells_known C.standing _ _ _ (ran_more C.base C.tells C.tells_known C.standing _ _ _ up c.pop.ensures.ran) c.pop-2.ensures.ran

pub returns-clause-own : goal.returns-clause-own
returns-clause-own g c =
    let C = g.C.Caller in
    let s = C.standing c.args.caller.now in
    let h = c.requires.chain in
    let known = h.0 in
    let name = h.1 in
    let values = h.2 in
    let links = h.3 in
    let k = h.4 in
    let at = h.5 in
    let apart = h.6 in
    let front = get_or values c.args.bucket datum.Null in
    let rest = drop c.args.place links in
    let q = c.seek.ensures.sought known name values links k at apart in
    let one = length_push s.own.stack front in
    let two = size_after (pushed s.own front) _ (first_of rest) q.0 in
    let top = top_after (pushed s.own front) _ (first_of rest) (c.args.top + 1) q.0 (omega (arith, one, c.requires.top)) in
    let chain = subst (λ v. IsChain known v rest) (sym top) (chain_at known links c.args.place (chain_first known front links at.2)) in
    c.pop-2.ensures.popped ∙ ap popped (c.pop.ensures.popped ∙ ap popped (c.read_entry-taken.ensures.own ∙ q.0) ∙ popped_pushed _ _) ∙ popped_pushed _ _

pub returns-clause-took : goal.returns-clause-took
returns-clause-took g c known name values links k at apart =
    let C = g.C.Caller in
    let s = C.standing c.args.caller.now in
    let front = get_or values c.args.bucket datum.Null in
    let rest = drop c.args.place links in
    let q = c.seek.ensures.sought known name values links k at apart in
    let one = length_push s.own.stack front in
    let two = size_after (pushed s.own front) _ (first_of rest) q.0 in
    let top = top_after (pushed s.own front) _ (first_of rest) (c.args.top + 1) q.0 (omega (arith, one, c.requires.top)) in
    let chain = subst (λ v. IsChain known v rest) (sym top) (chain_at known links c.args.place (chain_first known front links at.2)) in
    (c.read_entry-taken.ensures.took known rest q.1 chain, c.pop-2.ensures.keeps known (c.pop.ensures.keeps known (c.read_entry-taken.ensures.keeps known q.1)))

pub returns-clause-aside : goal.returns-clause-aside
returns-clause-aside g c known name values links other k at apart ko lacks =
    c.pop-2.ensures.keeps other (c.pop.ensures.keeps other (c.read_entry-taken.ensures.keeps other (c.seek.ensures.aside known name values links other k at apart ko lacks)))
