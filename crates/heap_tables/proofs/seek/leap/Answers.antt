use Rattle.std.proofs.Common.{◌≡◌, ◌+◌, ◌<◌, ◌∙◌, List, [], ◌∷◌, inl, inr, ap, sym, refl, arith, drop, get_or, length}
use Rattle.yak_model.specs.Graph.{Thread}
use Rattle.yak_model.specs.Tables.{Link}
use Rattle.yak_model.specs.declared.datum.Datum.TheVariants as datum
use Rattle.heap_tables.specs.Layouts.{IsLaid}
use Rattle.heap_tables.specs.Runs.{pushed, slot_in, without_top}
use Rattle.heap_tables.proofs.Asides.{gives_none, lacks_as, lacks_drop, lacks_head}
use Rattle.heap_tables.proofs.Effects.{size_after}
use Rattle.heap_tables.proofs.Laid.{chain_first, laid_below, laid_chain, laid_dropped, laid_first, laid_size}
use Rattle.heap_tables.proofs.Places.{chain_agrees, insert_agrees}
use Rattle.heap_tables.proofs.RunOn.{ran_more}
use Rattle.heap_tables.proofs.Sought.{apart_drop, chain_front}
use Rattle.heap_tables.proofs.seek.leap.Goals as goal

none_of : (links : List Link) → length links ≡ 0 → links ≡ []
none_of [] e = refl
none_of (link ∷ links) e = absurd (omega (arith, e))

pub load-requires-clause-field : goal.load-requires-clause-field
load-requires-clause-field g c =
    let h = c.requires.chain in (h.0, h.1, h.2, h.4, h.5.0, h.5.1)

pub lay_on-passed-requires-clause-laid : goal.lay_on-passed-requires-clause-laid
lay_on-passed-requires-clause-laid g c =
    let C = g.C.Caller in
    let s = C.standing c.args.caller.now in
    let h = c.requires.chain in
    let known = h.0 in
    let name = h.1 in
    let values = h.2 in
    let links = h.3 in
    let k = h.4 in
    let at = h.5 in
    let apart = h.6 in
    let b = c.args.bucket in
    let head = get_or values b datum.Null in
    let e = c.load.ensures.pushed known name values k at.0 at.1 in
    let first = chain_first known head links at.2 in
    let zeroth : IsLaid s.own links 0 (C.standing c.load.new.caller).own = (omega arith, e ∙ ap (pushed s.own) (chain_front known head links at.2) ∙ laid_first s.own links) in
    (known, s.own, links, c.load.ensures.keeps known k, first, zeroth, c.requires.top)

pub lay_on-passed-requires-clause-top : goal.lay_on-passed-requires-clause-top
lay_on-passed-requires-clause-top g c =
    let C = g.C.Caller in
    let s = C.standing c.args.caller.now in
    let h = c.requires.chain in
    let known = h.0 in
    let name = h.1 in
    let values = h.2 in
    let links = h.3 in
    let k = h.4 in
    let at = h.5 in
    let apart = h.6 in
    let b = c.args.bucket in
    let head = get_or values b datum.Null in
    let e = c.load.ensures.pushed known name values k at.0 at.1 in
    let first = chain_first known head links at.2 in
    let zeroth : IsLaid s.own links 0 (C.standing c.load.new.caller).own = (omega arith, e ∙ ap (pushed s.own) (chain_front known head links at.2) ∙ laid_first s.own links) in
    let size = size_after s.own _ head e in
    omega (arith, size, c.requires.top)

pub store-requires-clause-field : goal.store-requires-clause-field
store-requires-clause-field g c =
    let C = g.C.Caller in
    let s = C.standing c.args.caller.now in
    let h = c.requires.chain in
    let known = h.0 in
    let name = h.1 in
    let values = h.2 in
    let links = h.3 in
    let k = h.4 in
    let at = h.5 in
    let apart = h.6 in
    let b = c.args.bucket in
    let head = get_or values b datum.Null in
    let e = c.load.ensures.pushed known name values k at.0 at.1 in
    let first = chain_first known head links at.2 in
    let zeroth : IsLaid s.own links 0 (C.standing c.load.new.caller).own = (omega arith, e ∙ ap (pushed s.own) (chain_front known head links at.2) ∙ laid_first s.own links) in
    let on = c.lay_on-passed.ensures.laid known s.own links (c.load.ensures.keeps known k) first zeroth c.requires.top in
    let now = C.standing c.lay_on-passed.new.caller in
    let passed = c.lay_on-passed.result in
    let slot = laid_below s.own links passed now.own on.0.1 c.args.table name at.0.0 in
    let kept = c.lay_on-passed.ensures.keeps known (c.load.ensures.keeps known k) in
    (known, name, values, kept, (slot, at.0.1), at.1)

pub store-requires-clause-value : goal.store-requires-clause-value
store-requires-clause-value g c =
    let C = g.C.Caller in
    let s = C.standing c.args.caller.now in
    let h = c.requires.chain in
    let known = h.0 in
    let name = h.1 in
    let values = h.2 in
    let links = h.3 in
    let k = h.4 in
    let at = h.5 in
    let apart = h.6 in
    let b = c.args.bucket in
    let head = get_or values b datum.Null in
    let e = c.load.ensures.pushed known name values k at.0 at.1 in
    let first = chain_first known head links at.2 in
    let zeroth : IsLaid s.own links 0 (C.standing c.load.new.caller).own = (omega arith, e ∙ ap (pushed s.own) (chain_front known head links at.2) ∙ laid_first s.own links) in
    let on = c.lay_on-passed.ensures.laid known s.own links (c.load.ensures.keeps known k) first zeroth c.requires.top in
    let now = C.standing c.lay_on-passed.new.caller in
    let passed = c.lay_on-passed.result in
    let slot = laid_below s.own links passed now.own on.0.1 c.args.table name at.0.0 in
    let kept = c.lay_on-passed.ensures.keeps known (c.load.ensures.keeps known k) in
    let size = laid_size s.own links passed now.own on.0.1 in
    omega (arith, size, c.requires.top)

pub pop_all-requires-clause-some : goal.pop_all-requires-clause-some
pop_all-requires-clause-some g c =
    let C = g.C.Caller in
    let s = C.standing c.args.caller.now in
    let h = c.requires.chain in
    let known = h.0 in
    let name = h.1 in
    let values = h.2 in
    let links = h.3 in
    let k = h.4 in
    let at = h.5 in
    let apart = h.6 in
    let b = c.args.bucket in
    let head = get_or values b datum.Null in
    let e = c.load.ensures.pushed known name values k at.0 at.1 in
    let first = chain_first known head links at.2 in
    let zeroth : IsLaid s.own links 0 (C.standing c.load.new.caller).own = (omega arith, e ∙ ap (pushed s.own) (chain_front known head links at.2) ∙ laid_first s.own links) in
    let on = c.lay_on-passed.ensures.laid known s.own links (c.load.ensures.keeps known k) first zeroth c.requires.top in
    let now = C.standing c.lay_on-passed.new.caller in
    let passed = c.lay_on-passed.result in
    let slot = laid_below s.own links passed now.own on.0.1 c.args.table name at.0.0 in
    let kept = c.lay_on-passed.ensures.keeps known (c.load.ensures.keeps known k) in
    (_, c.store.ensures.stored known name values kept (slot, at.0.1) at.1)

pub pop_all-requires-clause-slots : goal.pop_all-requires-clause-slots
pop_all-requires-clause-slots g c =
    let C = g.C.Caller in
    let s = C.standing c.args.caller.now in
    let h = c.requires.chain in
    let known = h.0 in
    let name = h.1 in
    let values = h.2 in
    let links = h.3 in
    let k = h.4 in
    let at = h.5 in
    let apart = h.6 in
    let b = c.args.bucket in
    let head = get_or values b datum.Null in
    let e = c.load.ensures.pushed known name values k at.0 at.1 in
    let first = chain_first known head links at.2 in
    let zeroth : IsLaid s.own links 0 (C.standing c.load.new.caller).own = (omega arith, e ∙ ap (pushed s.own) (chain_front known head links at.2) ∙ laid_first s.own links) in
    let on = c.lay_on-passed.ensures.laid known s.own links (c.load.ensures.keeps known k) first zeroth c.requires.top in
    let now = C.standing c.lay_on-passed.new.caller in
    let passed = c.lay_on-passed.result in
    let slot = laid_below s.own links passed now.own on.0.1 c.args.table name at.0.0 in
    let kept = c.lay_on-passed.ensures.keeps known (c.load.ensures.keeps known k) in
    let size = laid_size s.own links passed now.own on.0.1 in
    omega (arith, size, ap (λ (o : Thread). length o.stack) c.store.ensures.own)

pub returns-clause-ran : goal.returns-clause-ran
returns-clause-ran g c =
    let C = g.C.Caller in
    let up = ran_more C.base C.tells C.tells_known C.standing _ _ _ c.load.ensures.ran c.lay_on-passed.ensures.ran in
    ran_more C.base C.tells C.tells_known C.standing _ _ _ (ran_more C.base C.tells C.tells_known C.standing _ _ _ up c.store.ensures.ran) c.pop_all.ensures.ran

pub returns-clause-own : goal.returns-clause-own
returns-clause-own g c =
    let C = g.C.Caller in
    let s = C.standing c.args.caller.now in
    let h = c.requires.chain in
    let known = h.0 in
    let name = h.1 in
    let values = h.2 in
    let links = h.3 in
    let k = h.4 in
    let at = h.5 in
    let apart = h.6 in
    let b = c.args.bucket in
    let head = get_or values b datum.Null in
    let e = c.load.ensures.pushed known name values k at.0 at.1 in
    let first = chain_first known head links at.2 in
    let zeroth : IsLaid s.own links 0 (C.standing c.load.new.caller).own = (omega arith, e ∙ ap (pushed s.own) (chain_front known head links at.2) ∙ laid_first s.own links) in
    let on = c.lay_on-passed.ensures.laid known s.own links (c.load.ensures.keeps known k) first zeroth c.requires.top in
    let now = C.standing c.lay_on-passed.new.caller in
    let passed = c.lay_on-passed.result in
    let slot = laid_below s.own links passed now.own on.0.1 c.args.table name at.0.0 in
    let kept = c.lay_on-passed.ensures.keeps known (c.load.ensures.keeps known k) in
    c.pop_all.ensures.popped ∙ ap (λ o. without_top o (passed + 1)) c.store.ensures.own ∙ laid_dropped s.own links passed now.own on.0.1

pub returns-clause-passed : goal.returns-clause-passed
returns-clause-passed g c known name values links k at apart =
    let C = g.C.Caller in
    let s = C.standing c.args.caller.now in
    let b = c.args.bucket in
    let head = get_or values b datum.Null in
    let e = c.load.ensures.pushed known name values k at.0 at.1 in
    let first = chain_first known head links at.2 in
    let zeroth : IsLaid s.own links 0 (C.standing c.load.new.caller).own = (omega arith, e ∙ ap (pushed s.own) (chain_front known head links at.2) ∙ laid_first s.own links) in
    let on = c.lay_on-passed.ensures.laid known s.own links (c.load.ensures.keeps known k) first zeroth c.requires.top in
    let now = C.standing c.lay_on-passed.new.caller in
    let passed = c.lay_on-passed.result in
    let slot = laid_below s.own links passed now.own on.0.1 c.args.table name at.0.0 in
    let kept = c.lay_on-passed.ensures.keeps known (c.load.ensures.keeps known k) in
    let place = slot_in now (c.args.top + passed) in
    let there = laid_chain known s.own links first passed c.args.top now.own on.0 c.requires.top passed (omega arith) in
    let stored = c.store.ensures.stored known name values kept (slot, at.0.1) at.1 in (
      record {
        place = place;
        chain = chain_agrees known _ name (insert_agrees known name _) (drop passed links) place (apart_drop name passed links apart) there;
        known_now = c.pop_all.ensures.keeps _ stored;
      },
      λ none some.
          let room = c.requires.room in
          let top = c.requires.top in
          let fewer : passed < c.smaller-most.result = elim c.smaller-most.ensures.one [ inl e ↦ omega (arith, none, some, e) | inr e ↦ omega (arith, none, e, room, top) ] in
          none_of links (on.1 fewer ∙ none),
    )

pub returns-clause-aside : goal.returns-clause-aside
returns-clause-aside g c known name values links other k at apart ko lacks =
    let C = g.C.Caller in
    let s = C.standing c.args.caller.now in
    let b = c.args.bucket in
    let head = get_or values b datum.Null in
    let e = c.load.ensures.pushed known name values k at.0 at.1 in
    let first = chain_first known head links at.2 in
    let zeroth : IsLaid s.own links 0 (C.standing c.load.new.caller).own = (omega arith, e ∙ ap (pushed s.own) (chain_front known head links at.2) ∙ laid_first s.own links) in
    let on = c.lay_on-passed.ensures.laid known s.own links (c.load.ensures.keeps known k) first zeroth c.requires.top in
    let now = C.standing c.lay_on-passed.new.caller in
    let passed = c.lay_on-passed.result in
    let slot = laid_below s.own links passed now.own on.0.1 c.args.table name at.0.0 in
    let kept = c.lay_on-passed.ensures.keeps known (c.load.ensures.keeps known k) in
    let place = slot_in now (c.args.top + passed) in
    let there = laid_chain known s.own links first passed c.args.top now.own on.0 c.requires.top passed (omega arith) in
    let still = c.lay_on-passed.ensures.keeps other (c.load.ensures.keeps other ko) in
    let value = lacks_head other known place (drop passed links) there (lacks_drop other passed links lacks.1) in
    c.pop_all.ensures.keeps other (c.store.ensures.aside other other still (lacks_as other (datum.Object name) _ (sym slot) lacks.0) (gives_none other _ value))
