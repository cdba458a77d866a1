use Rattle.std.proofs.Common.{◌≡◌, ◌∙◌, ◌+◌, ℕ, sym, ap, subst, arith}
use Rattle.heap_words.specs.declared.map.Areas.{Areas}
use Rattle.heap_words.specs.Map.{pool_at}
use Rattle.calls_in_flight.specs.FieldSteps.{MayLoadPool}
use Rattle.safepoint_gate.specs.Singles.{LoadedPool}
use Rattle.mutator.proofs.Claiming.{below, claims_room, few_page, may_claim, may_look, none_claimed, none_found}
use Rattle.mutator.proofs.new_objects.claim_room.Goals as goal

pub returns-then-load_pool-length-clause-none : goal.returns-then-load_pool-length-clause-none
returns-then-load_pool-length-clause-none c =
    none_found c.args.inside.now.seat.me.0 c.load_pool-length.new.self.seat.me.0 c.load_pool.new.self.seat.me.0 c.load_pool-length.result c.load_pool.result c.args.inside.now.single c.load_pool-length.new.self.single c.requires.quiet c.load_pool-length.ensures.loaded c.load_pool.ensures.loaded c.if-load_pool-length.true

pub claim-counter-requires-clause-found : goal.claim-counter-requires-clause-found
claim-counter-requires-clause-found c =
    may_claim c.args.inside.now.seat.me.0 c.load_pool-length.new.self.seat.me.0 c.load_pool.new.self.seat.me.0 c.load_pool-length.result c.load_pool.result c.args.inside.now.single c.load_pool-length.new.self.single c.requires.quiet c.load_pool-length.ensures.loaded c.load_pool.ensures.loaded c.if-load_pool-length.false

pub returns-then-counter-length-clause-none : goal.returns-then-counter-length-clause-none
returns-then-counter-length-clause-none c =
    none_claimed c.args.inside.now.seat.me.0 c.load_pool-length.new.self.seat.me.0 c.load_pool.new.self.seat.me.0 c.load_pool-length.result c.load_pool.result c.args.inside.now.single c.load_pool-length.new.self.single c.requires.quiet c.load_pool-length.ensures.loaded c.load_pool.ensures.loaded
    c.claim-counter.new.self.seat.me.0 c.claim-counter.result c.load_pool.new.self.single c.if-load_pool-length.false c.claim-counter.ensures.claimed c.if-counter-length.true

pub overflow_add-pool : goal.overflow_add-pool
overflow_add-pool c =
    let k = below c.args.inside.now.seat.me.0 c.load_pool-length.new.self.seat.me.0 c.load_pool.new.self.seat.me.0 c.load_pool-length.result c.load_pool.result c.args.inside.now.single c.load_pool-length.new.self.single c.requires.quiet c.load_pool-length.ensures.loaded c.load_pool.ensures.loaded
    c.claim-counter.new.self.seat.me.0 c.claim-counter.result c.load_pool.new.self.single c.if-load_pool-length.false c.claim-counter.ensures.claimed c.if-counter-length.false in
    let pages = ap (λ (m : Areas). m.pages) c.claim-counter.ensures.gate.1 in
    let areas = c.args.gate.now.areas in
    let at = c.pool.ensures in
    let map : pool_at c.map.result ≡ pool_at c.args.gate.now.map = ap pool_at c.map.ensures in
    omega (arith, k, pages, areas.1, areas.3, at, map)

pub load_pool-page-requires-clause-pool : goal.load_pool-page-requires-clause-pool
load_pool-page-requires-clause-pool c =
    let u = c.claim-counter.new.self.seat.me.0 in
    subst (MayLoadPool u.map) (ap (λ (x : ℕ). x + c.claim-counter.result) (ap pool_at (c.claim-counter.ensures.gate.1 ∙ sym c.map.ensures) ∙ sym c.pool.ensures))
    (may_look c.args.inside.now.seat.me.0 c.load_pool-length.new.self.seat.me.0 c.load_pool.new.self.seat.me.0 c.load_pool-length.result c.load_pool.result c.args.inside.now.single c.load_pool-length.new.self.single c.requires.quiet c.load_pool-length.ensures.loaded c.load_pool.ensures.loaded
    u c.claim-counter.result c.load_pool.new.self.single c.if-load_pool-length.false c.claim-counter.ensures.claimed c.if-counter-length.false)

pub overflow_cast-result : goal.overflow_cast-result
overflow_cast-result c =
    let u = c.claim-counter.new.self.seat.me.0 in
    let w = c.load_pool-page.new.self.seat.me.0 in
    let at : c.pool.result + c.claim-counter.result ≡ pool_at u.map + c.claim-counter.result = ap (λ (x : ℕ). x + c.claim-counter.result) (c.pool.ensures ∙ ap pool_at (c.map.ensures ∙ sym c.claim-counter.ensures.gate.1)) in
    let look = subst (λ (p : ℕ). LoadedPool u p c.load_pool-page.result w) at c.load_pool-page.ensures.loaded in
    let few = few_page c.args.inside.now.seat.me.0 c.load_pool-length.new.self.seat.me.0 c.load_pool.new.self.seat.me.0 c.load_pool-length.result c.load_pool.result c.args.inside.now.single c.load_pool-length.new.self.single c.requires.quiet c.load_pool-length.ensures.loaded c.load_pool.ensures.loaded
    u c.claim-counter.result c.load_pool.new.self.single c.if-load_pool-length.false c.claim-counter.ensures.claimed w c.load_pool-page.result c.claim-counter.new.self.single c.if-counter-length.false look in
    let pages : w.map.pages ≡ c.args.gate.now.map.pages = ap (λ (m : Areas). m.pages) c.load_pool-page.ensures.gate.1 in
    omega (arith, few, pages, c.args.gate.now.areas.1)

pub returns-clause-claimed : goal.returns-clause-claimed
returns-clause-claimed c =
    let u = c.claim-counter.new.self.seat.me.0 in
    let w = c.load_pool-page.new.self.seat.me.0 in
    let at : c.pool.result + c.claim-counter.result ≡ pool_at u.map + c.claim-counter.result = ap (λ (x : ℕ). x + c.claim-counter.result) (c.pool.ensures ∙ ap pool_at (c.map.ensures ∙ sym c.claim-counter.ensures.gate.1)) in
    let look = subst (λ (p : ℕ). LoadedPool u p c.load_pool-page.result w) at c.load_pool-page.ensures.loaded in
    claims_room c.args.inside.now.seat.me.0 c.load_pool-length.new.self.seat.me.0 c.load_pool.new.self.seat.me.0 c.load_pool-length.result c.load_pool.result c.args.inside.now.single c.load_pool-length.new.self.single c.requires.quiet c.load_pool-length.ensures.loaded c.load_pool.ensures.loaded
    u c.claim-counter.result c.load_pool.new.self.single c.if-load_pool-length.false c.claim-counter.ensures.claimed w c.load_pool-page.result c.claim-counter.new.self.single c.if-counter-length.false look
