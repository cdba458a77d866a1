use Rattle.std.proofs.Common.{◌≡◌, ◌∙◌, ◌+◌, ℕ, sym, ap, subst}
use Rattle.std.specs.Prelude.{None}
use Rattle.object_layout.specs.declared.TheConstants.{OBJECT_WORDS}
use Rattle.heap_words.specs.declared.map.Areas.{Areas}
use Rattle.heap_words.specs.Map.{page_at}
use Rattle.region_pages.specs.declared.TheConstants.{SPACE_WORD, USED_MARK}
use Rattle.epoch_lattice.specs.Lattice.{inner_of, space_index}
use Rattle.calls_in_flight.specs.OwnStores.{MayStore}
use Rattle.calls_in_flight.specs.Steps.{current_at}
use Rattle.safepoint_gate.specs.Singles.{Stored, actor}
use Rattle.mutator.specs.Making.{EntersPage}
use Rattle.mutator.proofs.Answering.{thread_in}
use Rattle.mutator.proofs.Entering.{enters_claimed, enters_current, may_enter, may_mark, may_mark_claimed, may_turn}
use Rattle.mutator.proofs.Placed.{thread_of_seat}
use Rattle.mutator.proofs.new_objects.enter_page.Goals as goal

pub store_own-requires-clause-own : goal.store_own-requires-clause-own
store_own-requires-clause-own c =
    let v = c.args.inside.now.seat.me.0 in
    let room = c.args.room in
    let at : c.page-at.result ≡ page_at v.map room.page = c.page-at.ensures ∙ ap (λ (m : Areas). page_at m room.page) (c.map-map.ensures ∙ sym c.requires.gate.1) in
    let word : c.from.result + 1 ≡ space_index (inner_of (actor v).thread (actor v).told.depth) + 1 = ap (λ (x : ℕ). x + 1) (c.from.ensures ∙ c.index_of.ensures.index ∙ ap space_index (c.requires.space ∙ ap (inner_of (actor v).thread) c.requires.depth)) in
    subst (λ (y : ℕ × ℕ). MayStore v.map (actor v) y.0 y.1 None) (λ i. (sym at i + SPACE_WORD, sym word i))
    (may_enter v room c.requires.room.0 c.args.inside.now.single (thread_of_seat c.args.inside.now) c.requires.room.2 c.requires.object c.if-room.true)

pub store_own-requires-then-room-clause-own : goal.store_own-requires-then-room-clause-own
store_own-requires-then-room-clause-own c =
    let v = c.args.inside.now.seat.me.0 in
    let u = c.store_own.new.self.seat.me.0 in
    let room = c.args.room in
    let at : c.page-at.result ≡ page_at v.map room.page = c.page-at.ensures ∙ ap (λ (m : Areas). page_at m room.page) (c.map-map.ensures ∙ sym c.requires.gate.1) in
    let word : c.from.result + 1 ≡ space_index (inner_of (actor v).thread (actor v).told.depth) + 1 = ap (λ (x : ℕ). x + 1) (c.from.ensures ∙ c.index_of.ensures.index ∙ ap space_index (c.requires.space ∙ ap (inner_of (actor v).thread) c.requires.depth)) in
    let first = subst (λ (y : ℕ × ℕ). Stored v y.0 y.1 None u) (λ i. (at i + SPACE_WORD, word i)) c.store_own.ensures.stored in
    let size : c.args.size ≡ c.requires.room.0 + OBJECT_WORDS = c.requires.room.1 in
    subst (λ (y : ℕ × ℕ). MayStore u.map (actor u) y.0 y.1 None) (λ i. (sym at i + USED_MARK, room.used + sym size i))
    (may_mark_claimed v room c.requires.room.0 c.args.inside.now.single (thread_of_seat c.args.inside.now) c.requires.room.2 c.requires.object c.if-room.true u first)

pub store_own-requires-then-room-2-clause-own : goal.store_own-requires-then-room-2-clause-own
store_own-requires-then-room-2-clause-own c =
    let v = c.args.inside.now.seat.me.0 in
    let u = c.store_own.new.self.seat.me.0 in
    let w = c.store_own-then-room.new.self.seat.me.0 in
    let room = c.args.room in
    let at : c.page-at.result ≡ page_at v.map room.page = c.page-at.ensures ∙ ap (λ (m : Areas). page_at m room.page) (c.map-map.ensures ∙ sym c.requires.gate.1) in
    let word : c.from.result + 1 ≡ space_index (inner_of (actor v).thread (actor v).told.depth) + 1 = ap (λ (x : ℕ). x + 1) (c.from.ensures ∙ c.index_of.ensures.index ∙ ap space_index (c.requires.space ∙ ap (inner_of (actor v).thread) c.requires.depth)) in
    let first = subst (λ (y : ℕ × ℕ). Stored v y.0 y.1 None u) (λ i. (at i + SPACE_WORD, word i)) c.store_own.ensures.stored in
    let size : c.args.size ≡ c.requires.room.0 + OBJECT_WORDS = c.requires.room.1 in
    let second = subst (λ (y : ℕ × ℕ). Stored u y.0 y.1 None w) (λ i. (at i + USED_MARK, room.used + size i)) c.store_own-then-room.ensures.stored in
    let there : c.current_place-current.result ≡ current_at v.map (actor v).thread (actor v).told.depth =
    c.current_place-current.ensures ∙ (λ i. current_at ((c.map-map.ensures ∙ sym c.requires.gate.1) i) ((c.thread.ensures ∙ c.store_own-then-room.ensures.thread ∙ c.store_own.ensures.thread ∙ sym c.args.inside.now.numbered ∙ thread_in v) i) (c.requires.depth i)) in
    let page : c.from-then-room.result + 1 ≡ room.page + 1 = ap (λ (x : ℕ). x + 1) c.from-then-room.ensures in
    subst (λ (y : ℕ × ℕ). MayStore w.map (actor w) y.0 y.1 None) (λ i. (sym there i, sym page i))
    (may_turn v room c.requires.room.0 c.args.inside.now.single (thread_of_seat c.args.inside.now) c.requires.room.2 c.requires.object c.if-room.true u first w c.store_own.new.self.single second)

pub returns-then-room-clause-entered : goal.returns-then-room-clause-entered
returns-then-room-clause-entered c =
    let v = c.args.inside.now.seat.me.0 in
    let u = c.store_own.new.self.seat.me.0 in
    let w = c.store_own-then-room.new.self.seat.me.0 in
    let x = c.store_own-then-room-2.new.self.seat.me.0 in
    let room = c.args.room in
    let at : c.page-at.result ≡ page_at v.map room.page = c.page-at.ensures ∙ ap (λ (m : Areas). page_at m room.page) (c.map-map.ensures ∙ sym c.requires.gate.1) in
    let word : c.from.result + 1 ≡ space_index (inner_of (actor v).thread (actor v).told.depth) + 1 = ap (λ (x : ℕ). x + 1) (c.from.ensures ∙ c.index_of.ensures.index ∙ ap space_index (c.requires.space ∙ ap (inner_of (actor v).thread) c.requires.depth)) in
    let first = subst (λ (y : ℕ × ℕ). Stored v y.0 y.1 None u) (λ i. (at i + SPACE_WORD, word i)) c.store_own.ensures.stored in
    let size : c.args.size ≡ c.requires.room.0 + OBJECT_WORDS = c.requires.room.1 in
    let second = subst (λ (y : ℕ × ℕ). Stored u y.0 y.1 None w) (λ i. (at i + USED_MARK, room.used + size i)) c.store_own-then-room.ensures.stored in
    let there : c.current_place-current.result ≡ current_at v.map (actor v).thread (actor v).told.depth =
    c.current_place-current.ensures ∙ (λ i. current_at ((c.map-map.ensures ∙ sym c.requires.gate.1) i) ((c.thread.ensures ∙ c.store_own-then-room.ensures.thread ∙ c.store_own.ensures.thread ∙ sym c.args.inside.now.numbered ∙ thread_in v) i) (c.requires.depth i)) in
    let page : c.from-then-room.result + 1 ≡ room.page + 1 = ap (λ (x : ℕ). x + 1) c.from-then-room.ensures in
    let third = subst (λ (y : ℕ × ℕ). Stored w y.0 y.1 None x) (λ i. (there i, page i)) c.store_own-then-room-2.ensures.stored in
    subst (λ (n : ℕ). EntersPage v room n x) (sym size)
    (enters_claimed v room c.requires.room.0 c.args.inside.now.single (thread_of_seat c.args.inside.now) c.requires.room.2 c.requires.object c.if-room.true u first w c.store_own.new.self.single second x c.store_own-then-room.new.self.single third)

pub store_own-requires-else-room-clause-own : goal.store_own-requires-else-room-clause-own
store_own-requires-else-room-clause-own c =
    let v = c.args.inside.now.seat.me.0 in
    let room = c.args.room in
    let at : c.page-at.result ≡ page_at v.map room.page = c.page-at.ensures ∙ ap (λ (m : Areas). page_at m room.page) (c.map-map.ensures ∙ sym c.requires.gate.1) in
    let size : c.args.size ≡ c.requires.room.0 + OBJECT_WORDS = c.requires.room.1 in
    subst (λ (y : ℕ × ℕ). MayStore v.map (actor v) y.0 y.1 None) (λ i. (sym at i + USED_MARK, room.used + sym size i))
    (may_mark v room c.requires.room.0 c.args.inside.now.single (thread_of_seat c.args.inside.now) c.requires.room.2 c.requires.object)

pub returns-else-room-clause-entered : goal.returns-else-room-clause-entered
returns-else-room-clause-entered c =
    let v = c.args.inside.now.seat.me.0 in
    let w = c.store_own-else-room.new.self.seat.me.0 in
    let room = c.args.room in
    let at : c.page-at.result ≡ page_at v.map room.page = c.page-at.ensures ∙ ap (λ (m : Areas). page_at m room.page) (c.map-map.ensures ∙ sym c.requires.gate.1) in
    let size : c.args.size ≡ c.requires.room.0 + OBJECT_WORDS = c.requires.room.1 in
    let stored = subst (λ (y : ℕ × ℕ). Stored v y.0 y.1 None w) (λ i. (at i + USED_MARK, room.used + size i)) c.store_own-else-room.ensures.stored in
    subst (λ (n : ℕ). EntersPage v room n w) (sym size)
    (enters_current v room c.requires.room.0 c.args.inside.now.single (thread_of_seat c.args.inside.now) c.requires.room.2 c.requires.object w c.if-room.false stored)
