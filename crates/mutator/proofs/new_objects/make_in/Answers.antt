use Rattle.std.proofs.Common.{◌≡◌, ◌∙◌, ◌+◌, ◌*◌, ◌<◌, ℕ, [], length, sym, ap, subst, refl}
use Rattle.std.specs.Prelude.{None, Some}
use Rattle.object_layout.specs.declared.TheConstants.{MAX_SERIAL, OBJECT_WORDS}
use Rattle.object_layout.specs.declared.calls.Event.{Event}
use Rattle.object_layout.specs.declared.headers.Header.{Header}
use Rattle.object_layout.specs.declared.names.Name.{Name}
use Rattle.heap_words.specs.declared.TheConstants.{STACK_SLOTS}
use Rattle.heap_words.specs.Map.{page_words}
use Rattle.epoch_lattice.specs.Lattice.{inner_of, space_index}
use Rattle.calls_in_flight.specs.Actors.{Shows}
use Rattle.calls_in_flight.specs.OwnStores.{MayStore}
use Rattle.calls_in_flight.specs.Steps.{length_at, made_at, slot_at}
use Rattle.safepoint_gate.specs.Singles.{Stored, actor}
use Rattle.mutator.specs.Making.{EntersPage, WritesObject}
use Rattle.mutator.proofs.Answering.{thread_in}
use Rattle.mutator.proofs.Completing.{answers_made, may_count, may_make, may_push, room_then}
use Rattle.mutator.proofs.Placed.{placing_of, thread_of_seat}
use Rattle.mutator.proofs.new_objects.make_in.Goals as goal

pub write_object-requires-clause-placing : goal.write_object-requires-clause-placing
write_object-requires-clause-placing c =
    let v = c.args.inside.now.seat.me.0 in
    let room = c.args.room in
    let k = c.args.k in
    let single = c.args.inside.now.single in
    let thread = thread_of_seat c.args.inside.now in
    let map : c.map-map.result ≡ v.map = c.map-map.ensures ∙ sym c.requires.gate.1 in
    let t : c.thread-thread.result ≡ (actor v).thread = c.thread-thread.ensures ∙ sym c.args.inside.now.numbered ∙ thread_in v in
    let front_is : c.from-3.result * room.page + room.used ≡ page_words v.map * room.page + room.used = ap (λ (x : ℕ). x * room.page + room.used) c.from-3.ensures in
    (placing_of v.map (actor v) room k [] c.requires.room, front_is, refl)

pub enter_page-requires-clause-room : goal.enter_page-requires-clause-room
enter_page-requires-clause-room c =
    let v = c.args.inside.now.seat.me.0 in
    let room = c.args.room in
    let k = c.args.k in
    let single = c.args.inside.now.single in
    let thread = thread_of_seat c.args.inside.now in
    let map : c.map-map.result ≡ v.map = c.map-map.ensures ∙ sym c.requires.gate.1 in
    let t : c.thread-thread.result ≡ (actor v).thread = c.thread-thread.ensures ∙ sym c.args.inside.now.numbered ∙ thread_in v in
    let front_is : c.from-3.result * room.page + room.used ≡ page_words v.map * room.page + room.used = ap (λ (x : ℕ). x * room.page + room.used) c.from-3.ensures in
    let w1 = c.write_object.new.inside.seat.me.0 in
    let header : Header = record { fields = k; space = c.index_of.result } in
    let name : Name = record { thread = c.thread-thread.result; serial = c.args.made + 1 } in
    let written = subst (λ (x : ℕ). WritesObject v x header name (k + OBJECT_WORDS) w1) front_is c.write_object.ensures.written in
    (k, (λ i. c.from.ensures i + c.from-2.ensures i), room_then v w1 room k header name single thread c.requires.room written)

pub store_own-requires-clause-own : goal.store_own-requires-clause-own
store_own-requires-clause-own c =
    let v = c.args.inside.now.seat.me.0 in
    let room = c.args.room in
    let k = c.args.k in
    let single = c.args.inside.now.single in
    let thread = thread_of_seat c.args.inside.now in
    let map : c.map-map.result ≡ v.map = c.map-map.ensures ∙ sym c.requires.gate.1 in
    let t : c.thread-thread.result ≡ (actor v).thread = c.thread-thread.ensures ∙ sym c.args.inside.now.numbered ∙ thread_in v in
    let front_is : c.from-3.result * room.page + room.used ≡ page_words v.map * room.page + room.used = ap (λ (x : ℕ). x * room.page + room.used) c.from-3.ensures in
    let w1 = c.write_object.new.inside.seat.me.0 in
    let header : Header = record { fields = k; space = c.index_of.result } in
    let name : Name = record { thread = c.thread-thread.result; serial = c.args.made + 1 } in
    let written = subst (λ (x : ℕ). WritesObject v x header name (k + OBJECT_WORDS) w1) front_is c.write_object.ensures.written in
    let w2 = c.enter_page.new.inside.seat.me.0 in
    let one = c.write_object.new.inside.single in
    let size : c.from.result + c.from-2.result ≡ k + OBJECT_WORDS = (λ i. c.from.ensures i + c.from-2.ensures i) in
    let entered = subst (λ (x : ℕ). EntersPage w1 room x w2) size c.enter_page.ensures.entered in
    let made_there : c.made_place.result ≡ made_at v.map (actor v).thread = c.made_place.ensures ∙ (λ i. made_at (map i) (t i)) in
    let made_word : c.args.made + 1 ≡ (actor v).told.made + 1 = ap (λ (x : ℕ). x + 1) c.requires.made in
    subst (λ (y : ℕ × ℕ). MayStore w2.map (actor w2) y.0 y.1 None) (λ i. (sym made_there i, sym made_word i))
    (may_count v w1 room k header name single thread c.requires.room written w2 one entered)

pub store_own-requires-2-clause-own : goal.store_own-requires-2-clause-own
store_own-requires-2-clause-own c =
    let v = c.args.inside.now.seat.me.0 in
    let room = c.args.room in
    let k = c.args.k in
    let single = c.args.inside.now.single in
    let thread = thread_of_seat c.args.inside.now in
    let map : c.map-map.result ≡ v.map = c.map-map.ensures ∙ sym c.requires.gate.1 in
    let t : c.thread-thread.result ≡ (actor v).thread = c.thread-thread.ensures ∙ sym c.args.inside.now.numbered ∙ thread_in v in
    let front_is : c.from-3.result * room.page + room.used ≡ page_words v.map * room.page + room.used = ap (λ (x : ℕ). x * room.page + room.used) c.from-3.ensures in
    let w1 = c.write_object.new.inside.seat.me.0 in
    let header : Header = record { fields = k; space = c.index_of.result } in
    let name : Name = record { thread = c.thread-thread.result; serial = c.args.made + 1 } in
    let written = subst (λ (x : ℕ). WritesObject v x header name (k + OBJECT_WORDS) w1) front_is c.write_object.ensures.written in
    let w2 = c.enter_page.new.inside.seat.me.0 in
    let one = c.write_object.new.inside.single in
    let size : c.from.result + c.from-2.result ≡ k + OBJECT_WORDS = (λ i. c.from.ensures i + c.from-2.ensures i) in
    let entered = subst (λ (x : ℕ). EntersPage w1 room x w2) size c.enter_page.ensures.entered in
    let made_there : c.made_place.result ≡ made_at v.map (actor v).thread = c.made_place.ensures ∙ (λ i. made_at (map i) (t i)) in
    let made_word : c.args.made + 1 ≡ (actor v).told.made + 1 = ap (λ (x : ℕ). x + 1) c.requires.made in
    let w3 = c.store_own.new.self.seat.me.0 in
    let third = subst (λ (y : ℕ × ℕ). Stored w2 y.0 y.1 None w3) (λ i. (made_there i, made_word i)) c.store_own.ensures.stored in
    let counted = subst (λ (x : ℕ). Shows (actor v) (made_at v.map (actor v).thread) x) c.requires.made c.requires.counted in
    let slots = subst (λ (x : ℕ). x < STACK_SLOTS) c.requires.length c.requires.slots in
    let slot_there : c.slot_place.result ≡ slot_at v.map (actor v).thread (length (actor v).told.stack) = c.slot_place.ensures ∙ (λ i. slot_at (map i) (t i) (c.requires.length i)) in
    let slot_word : c.encode_value-word.result ≡ 2 * ((page_words v.map * room.page + room.used) + 1) = c.encode_value-word.ensures.word ∙ ap (λ (x : ℕ). 2 * (x + 1)) front_is in
    subst (λ (y : ℕ × ℕ). MayStore w3.map (actor w3) y.0 y.1 None) (λ i. (sym slot_there i, sym slot_word i))
    (may_push v w1 room k header name single thread c.requires.room written w2 one entered w3 c.enter_page.new.inside.single counted third slots (2 * ((page_words v.map * room.page + room.used) + 1)))

pub store_own-requires-3-clause-own : goal.store_own-requires-3-clause-own
store_own-requires-3-clause-own c =
    let v = c.args.inside.now.seat.me.0 in
    let room = c.args.room in
    let k = c.args.k in
    let single = c.args.inside.now.single in
    let thread = thread_of_seat c.args.inside.now in
    let map : c.map-map.result ≡ v.map = c.map-map.ensures ∙ sym c.requires.gate.1 in
    let t : c.thread-thread.result ≡ (actor v).thread = c.thread-thread.ensures ∙ sym c.args.inside.now.numbered ∙ thread_in v in
    let front_is : c.from-3.result * room.page + room.used ≡ page_words v.map * room.page + room.used = ap (λ (x : ℕ). x * room.page + room.used) c.from-3.ensures in
    let w1 = c.write_object.new.inside.seat.me.0 in
    let header : Header = record { fields = k; space = c.index_of.result } in
    let name : Name = record { thread = c.thread-thread.result; serial = c.args.made + 1 } in
    let written = subst (λ (x : ℕ). WritesObject v x header name (k + OBJECT_WORDS) w1) front_is c.write_object.ensures.written in
    let w2 = c.enter_page.new.inside.seat.me.0 in
    let one = c.write_object.new.inside.single in
    let size : c.from.result + c.from-2.result ≡ k + OBJECT_WORDS = (λ i. c.from.ensures i + c.from-2.ensures i) in
    let entered = subst (λ (x : ℕ). EntersPage w1 room x w2) size c.enter_page.ensures.entered in
    let made_there : c.made_place.result ≡ made_at v.map (actor v).thread = c.made_place.ensures ∙ (λ i. made_at (map i) (t i)) in
    let made_word : c.args.made + 1 ≡ (actor v).told.made + 1 = ap (λ (x : ℕ). x + 1) c.requires.made in
    let w3 = c.store_own.new.self.seat.me.0 in
    let third = subst (λ (y : ℕ × ℕ). Stored w2 y.0 y.1 None w3) (λ i. (made_there i, made_word i)) c.store_own.ensures.stored in
    let counted = subst (λ (x : ℕ). Shows (actor v) (made_at v.map (actor v).thread) x) c.requires.made c.requires.counted in
    let slots = subst (λ (x : ℕ). x < STACK_SLOTS) c.requires.length c.requires.slots in
    let slot_there : c.slot_place.result ≡ slot_at v.map (actor v).thread (length (actor v).told.stack) = c.slot_place.ensures ∙ (λ i. slot_at (map i) (t i) (c.requires.length i)) in
    let slot_word : c.encode_value-word.result ≡ 2 * ((page_words v.map * room.page + room.used) + 1) = c.encode_value-word.ensures.word ∙ ap (λ (x : ℕ). 2 * (x + 1)) front_is in
    let w4 = c.store_own-2.new.self.seat.me.0 in
    let fourth = subst (λ (y : ℕ × ℕ). Stored w3 y.0 y.1 None w4) (λ i. (slot_there i, slot_word i)) c.store_own-2.ensures.stored in
    let unspent = subst (λ (x : ℕ). x < MAX_SERIAL) c.requires.made c.requires.unspent in
    let space : c.index_of.result ≡ space_index (inner_of (actor v).thread (actor v).told.depth) = c.index_of.ensures.index ∙ ap space_index (c.inner-space.ensures.inner ∙ (λ i. inner_of (t i) (c.requires.depth i))) in
    let is_header : header ≡ record { fields = k; space = space_index (inner_of (actor v).thread (actor v).told.depth) } = (λ i. record { fields = k; space = space i }) in
    let is_name : name ≡ record { thread = (actor v).thread; serial = (actor v).told.made + 1 } = (λ i. record { thread = t i; serial = made_word i }) in
    let length_there : c.length_place.result ≡ length_at v.map (actor v).thread = c.length_place.ensures ∙ (λ i. length_at (map i) (t i)) in
    let longer : c.args.length + 1 ≡ length (actor v).told.stack + 1 = ap (λ (x : ℕ). x + 1) c.requires.length in
    subst (λ (y : ℕ × ℕ × Event). MayStore w4.map (actor w4) y.0 y.1 (Some y.2)) (λ i. (sym length_there i, sym longer i, sym c.told.ensures i))
    (may_make v w1 room k header name single thread c.requires.room written w2 one entered w3 c.enter_page.new.inside.single counted third slots w4 c.store_own.new.self.single fourth unspent is_header is_name)

pub returns-clause-made : goal.returns-clause-made
returns-clause-made c =
    let v = c.args.inside.now.seat.me.0 in
    let room = c.args.room in
    let k = c.args.k in
    let single = c.args.inside.now.single in
    let thread = thread_of_seat c.args.inside.now in
    let map : c.map-map.result ≡ v.map = c.map-map.ensures ∙ sym c.requires.gate.1 in
    let t : c.thread-thread.result ≡ (actor v).thread = c.thread-thread.ensures ∙ sym c.args.inside.now.numbered ∙ thread_in v in
    let front_is : c.from-3.result * room.page + room.used ≡ page_words v.map * room.page + room.used = ap (λ (x : ℕ). x * room.page + room.used) c.from-3.ensures in
    let w1 = c.write_object.new.inside.seat.me.0 in
    let header : Header = record { fields = k; space = c.index_of.result } in
    let name : Name = record { thread = c.thread-thread.result; serial = c.args.made + 1 } in
    let written = subst (λ (x : ℕ). WritesObject v x header name (k + OBJECT_WORDS) w1) front_is c.write_object.ensures.written in
    let w2 = c.enter_page.new.inside.seat.me.0 in
    let one = c.write_object.new.inside.single in
    let size : c.from.result + c.from-2.result ≡ k + OBJECT_WORDS = (λ i. c.from.ensures i + c.from-2.ensures i) in
    let entered = subst (λ (x : ℕ). EntersPage w1 room x w2) size c.enter_page.ensures.entered in
    let made_there : c.made_place.result ≡ made_at v.map (actor v).thread = c.made_place.ensures ∙ (λ i. made_at (map i) (t i)) in
    let made_word : c.args.made + 1 ≡ (actor v).told.made + 1 = ap (λ (x : ℕ). x + 1) c.requires.made in
    let w3 = c.store_own.new.self.seat.me.0 in
    let third = subst (λ (y : ℕ × ℕ). Stored w2 y.0 y.1 None w3) (λ i. (made_there i, made_word i)) c.store_own.ensures.stored in
    let counted = subst (λ (x : ℕ). Shows (actor v) (made_at v.map (actor v).thread) x) c.requires.made c.requires.counted in
    let slots = subst (λ (x : ℕ). x < STACK_SLOTS) c.requires.length c.requires.slots in
    let slot_there : c.slot_place.result ≡ slot_at v.map (actor v).thread (length (actor v).told.stack) = c.slot_place.ensures ∙ (λ i. slot_at (map i) (t i) (c.requires.length i)) in
    let slot_word : c.encode_value-word.result ≡ 2 * ((page_words v.map * room.page + room.used) + 1) = c.encode_value-word.ensures.word ∙ ap (λ (x : ℕ). 2 * (x + 1)) front_is in
    let w4 = c.store_own-2.new.self.seat.me.0 in
    let fourth = subst (λ (y : ℕ × ℕ). Stored w3 y.0 y.1 None w4) (λ i. (slot_there i, slot_word i)) c.store_own-2.ensures.stored in
    let last = subst (λ (e : Event). Stored w4 c.length_place.result (c.args.length + 1) (Some e) c.store_own-3.new.self.seat.me.0) c.told.ensures c.store_own-3.ensures.stored in
    answers_made v w1 room k header name single thread c.requires.room written w2 one entered w3 c.enter_page.new.inside.single counted third slots w4 c.store_own.new.self.single fourth c.store_own-3.new.self.seat.me.0 c.length_place.result (c.args.length + 1) last
