use Rattle.std.proofs.Common.{◌≡◌, ◌∙◌, ◌+◌, ◌-◌, ◌≤◌, ℕ, sym, ap, subst, arith}
use Rattle.std.specs.Prelude.{None}
use Rattle.heap_words.specs.declared.map.Areas.{Areas}
use Rattle.heap_words.specs.Map.{page_at, page_words}
use Rattle.region_pages.specs.declared.TheConstants.{USED_MARK}
use Rattle.calls_in_flight.specs.Actors.{MayLoad}
use Rattle.calls_in_flight.specs.Steps.{current_at}
use Rattle.safepoint_gate.specs.Singles.{Loaded, actor}
use Rattle.mutator.proofs.Answering.{thread_in}
use Rattle.mutator.proofs.Rooms.{current_page, finds_no_current, finds_none, finds_room, may_look, used_most}
use Rattle.mutator.proofs.new_objects.room_in_current.Goals as goal

pub returns-then-current-eq0-clause-found : goal.returns-then-current-eq0-clause-found
returns-then-current-eq0-clause-found c =
    let v = c.args.inside.now.seat.me.0 in
    let u = c.load_own-current.new.self.seat.me.0 in
    let at : c.current_place.result ≡ current_at v.map (actor v).thread c.args.depth = c.current_place.ensures ∙ (λ i. current_at ((c.map.ensures ∙ sym c.requires.gate.1) i) ((c.thread.ensures ∙ sym c.args.inside.now.numbered ∙ thread_in v) i) c.args.depth) in
    let loaded = subst (λ (p : ℕ). Loaded v p None c.load_own-current.result u) at c.load_own-current.ensures.loaded in
    finds_no_current v u c.load_own-current.result c.args.depth c.args.size c.args.inside.now.single c.requires.quiet c.requires.depth c.requires.deep loaded c.if-current-eq0.true

pub overflow_cast-page : goal.overflow_cast-page
overflow_cast-page c =
    let v = c.args.inside.now.seat.me.0 in
    let u = c.load_own-current.new.self.seat.me.0 in
    let at : c.current_place.result ≡ current_at v.map (actor v).thread c.args.depth = c.current_place.ensures ∙ (λ i. current_at ((c.map.ensures ∙ sym c.requires.gate.1) i) ((c.thread.ensures ∙ sym c.args.inside.now.numbered ∙ thread_in v) i) c.args.depth) in
    let loaded = subst (λ (p : ℕ). Loaded v p None c.load_own-current.result u) at c.load_own-current.ensures.loaded in
    let page = current_page v u c.load_own-current.result c.args.depth c.args.size c.args.inside.now.single c.requires.quiet c.requires.depth c.requires.deep loaded c.if-current-eq0.false in
    let map : u.map ≡ c.args.gate.now.map = c.load_own-current.ensures.gate.1 in
    let pages : u.map.pages ≡ c.args.gate.now.map.pages = ap (λ (m : Areas). m.pages) map in
    let most = c.args.gate.now.areas.1 in
    omega (arith, page.0, page.1, pages, most)

pub page-requires-clause-page : goal.page-requires-clause-page
page-requires-clause-page c =
    let v = c.args.inside.now.seat.me.0 in
    let u = c.load_own-current.new.self.seat.me.0 in
    let at : c.current_place.result ≡ current_at v.map (actor v).thread c.args.depth = c.current_place.ensures ∙ (λ i. current_at ((c.map.ensures ∙ sym c.requires.gate.1) i) ((c.thread.ensures ∙ sym c.args.inside.now.numbered ∙ thread_in v) i) c.args.depth) in
    let loaded = subst (λ (p : ℕ). Loaded v p None c.load_own-current.result u) at c.load_own-current.ensures.loaded in
    let page = current_page v u c.load_own-current.result c.args.depth c.args.size c.args.inside.now.single c.requires.quiet c.requires.depth c.requires.deep loaded c.if-current-eq0.false in
    let pages : u.map.pages ≡ c.map-2.result.pages = ap (λ (m : Areas). m.pages) (c.load_own-current.ensures.gate.1 ∙ sym c.map-2.ensures) in
    omega (arith, page.1, pages)

pub load_own-used-requires-clause-own : goal.load_own-used-requires-clause-own
load_own-used-requires-clause-own c =
    let v = c.args.inside.now.seat.me.0 in
    let u = c.load_own-current.new.self.seat.me.0 in
    let at : c.current_place.result ≡ current_at v.map (actor v).thread c.args.depth = c.current_place.ensures ∙ (λ i. current_at ((c.map.ensures ∙ sym c.requires.gate.1) i) ((c.thread.ensures ∙ sym c.args.inside.now.numbered ∙ thread_in v) i) c.args.depth) in
    let loaded = subst (λ (p : ℕ). Loaded v p None c.load_own-current.result u) at c.load_own-current.ensures.loaded in
    let there : page_at u.map (c.load_own-current.result - 1) + USED_MARK ≡ c.page.result + USED_MARK = ap (λ (p : ℕ). p + USED_MARK) (ap (λ (m : Areas). page_at m (c.load_own-current.result - 1)) (c.load_own-current.ensures.gate.1 ∙ sym c.map-2.ensures) ∙ sym c.page.ensures) in
    subst (MayLoad u.map (actor u)) there
    (may_look v u c.load_own-current.result c.args.depth c.args.size c.args.inside.now.single c.requires.quiet c.requires.depth c.requires.deep loaded c.if-current-eq0.false)

pub overflow_add-used : goal.overflow_add-used
overflow_add-used c =
    let v = c.args.inside.now.seat.me.0 in
    let u = c.load_own-current.new.self.seat.me.0 in
    let w = c.load_own-used.new.self.seat.me.0 in
    let at : c.current_place.result ≡ current_at v.map (actor v).thread c.args.depth = c.current_place.ensures ∙ (λ i. current_at ((c.map.ensures ∙ sym c.requires.gate.1) i) ((c.thread.ensures ∙ sym c.args.inside.now.numbered ∙ thread_in v) i) c.args.depth) in
    let loaded = subst (λ (p : ℕ). Loaded v p None c.load_own-current.result u) at c.load_own-current.ensures.loaded in
    let there : c.page.result + USED_MARK ≡ page_at u.map (c.load_own-current.result - 1) + USED_MARK = ap (λ (p : ℕ). p + USED_MARK) (c.page.ensures ∙ ap (λ (m : Areas). page_at m (c.load_own-current.result - 1)) (c.map-2.ensures ∙ sym c.load_own-current.ensures.gate.1)) in
    let next = subst (λ (p : ℕ). Loaded u p None c.load_own-used.result w) there c.load_own-used.ensures.loaded in
    let most : c.load_own-used.result ≤ page_words w.map = used_most v u c.load_own-current.result c.args.depth c.args.size c.args.inside.now.single c.requires.quiet c.requires.depth c.requires.deep loaded w c.load_own-used.result c.load_own-current.new.self.single c.if-current-eq0.false next in
    let size = c.requires.size in
    omega (arith, most, size)

pub returns-then-used-size-clause-found : goal.returns-then-used-size-clause-found
returns-then-used-size-clause-found c =
    let v = c.args.inside.now.seat.me.0 in
    let u = c.load_own-current.new.self.seat.me.0 in
    let w = c.load_own-used.new.self.seat.me.0 in
    let at : c.current_place.result ≡ current_at v.map (actor v).thread c.args.depth = c.current_place.ensures ∙ (λ i. current_at ((c.map.ensures ∙ sym c.requires.gate.1) i) ((c.thread.ensures ∙ sym c.args.inside.now.numbered ∙ thread_in v) i) c.args.depth) in
    let loaded = subst (λ (p : ℕ). Loaded v p None c.load_own-current.result u) at c.load_own-current.ensures.loaded in
    let there : c.page.result + USED_MARK ≡ page_at u.map (c.load_own-current.result - 1) + USED_MARK = ap (λ (p : ℕ). p + USED_MARK) (c.page.ensures ∙ ap (λ (m : Areas). page_at m (c.load_own-current.result - 1)) (c.map-2.ensures ∙ sym c.load_own-current.ensures.gate.1)) in
    let next = subst (λ (p : ℕ). Loaded u p None c.load_own-used.result w) there c.load_own-used.ensures.loaded in
    finds_none v u c.load_own-current.result c.args.depth c.args.size c.args.inside.now.single c.requires.quiet c.requires.depth c.requires.deep loaded w c.load_own-used.result c.load_own-current.new.self.single c.if-current-eq0.false next
    (let full = c.if-used-size.true in omega (arith, full, c.from.ensures))

pub returns-clause-found : goal.returns-clause-found
returns-clause-found c =
    let v = c.args.inside.now.seat.me.0 in
    let u = c.load_own-current.new.self.seat.me.0 in
    let w = c.load_own-used.new.self.seat.me.0 in
    let at : c.current_place.result ≡ current_at v.map (actor v).thread c.args.depth = c.current_place.ensures ∙ (λ i. current_at ((c.map.ensures ∙ sym c.requires.gate.1) i) ((c.thread.ensures ∙ sym c.args.inside.now.numbered ∙ thread_in v) i) c.args.depth) in
    let loaded = subst (λ (p : ℕ). Loaded v p None c.load_own-current.result u) at c.load_own-current.ensures.loaded in
    let there : c.page.result + USED_MARK ≡ page_at u.map (c.load_own-current.result - 1) + USED_MARK = ap (λ (p : ℕ). p + USED_MARK) (c.page.ensures ∙ ap (λ (m : Areas). page_at m (c.load_own-current.result - 1)) (c.map-2.ensures ∙ sym c.load_own-current.ensures.gate.1)) in
    let next = subst (λ (p : ℕ). Loaded u p None c.load_own-used.result w) there c.load_own-used.ensures.loaded in
    finds_room v u c.load_own-current.result c.args.depth c.args.size c.args.inside.now.single c.requires.quiet c.requires.depth c.requires.deep loaded w c.load_own-used.result c.load_own-current.new.self.single c.if-current-eq0.false next
    (let fits = c.if-used-size.false in omega (arith, fits, c.from.ensures))
