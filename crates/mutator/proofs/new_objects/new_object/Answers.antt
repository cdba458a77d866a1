use Rattle.std.proofs.Common.{◌≡◌, ◌∙◌, ◌≤◌, ◌<◌, ℕ, length, sym, subst, arith}
use Rattle.std.specs.Prelude.{None}
use Rattle.object_layout.specs.declared.TheConstants.{MAX_FIELDS, MAX_SERIAL}
use Rattle.object_layout.specs.declared.replies.Refusal.TheVariants as refusal
use Rattle.heap_words.specs.declared.TheConstants.{STACK_SLOTS}
use Rattle.calls_in_flight.specs.Steps.{depth_at, length_at, made_at}
use Rattle.safepoint_gate.specs.Singles.{Loaded, actor}
use Rattle.safepoint_gate.specs.Steps.{first_thread}
use Rattle.mutator.specs.Quick.{FindsNoPage}
use Rattle.mutator.proofs.Answering.{thread_in}
use Rattle.mutator.proofs.Asking.{looks_length}
use Rattle.mutator.proofs.Looking.{loaded_shows}
use Rattle.mutator.proofs.Placed.{thread_of_seat}
use Rattle.mutator.proofs.Deciding.{counted_then, depth_known, depth_low, depth_then, found_none, looks_depth, looks_made, made_known, made_new, made_shown, made_then, spent_told}
use Rattle.mutator.proofs.Trying.{err_any, refuses_new}
use Rattle.mutator.proofs.new_objects.new_object.Goals as goal

pub returns-then-length-ge-STACK_SLOTS-clause-answered : goal.returns-then-length-ge-STACK_SLOTS-clause-answered
returns-then-length-ge-STACK_SLOTS-clause-answered c =
    let v = c.args.inside.now.seat.me.0 in
    let k = c.args.k in
    let single = c.args.inside.now.single in
    let u1 = c.stack_length-length.new.inside.seat.me.0 in
    let one = c.stack_length-length.new.inside.single in
    let s1 = looks_length v u1 c.stack_length-length.result single c.stack_length-length.ensures.loaded in
    let step = c.refuse-then-length-ge-STACK_SLOTS in
    refuses_new v u1 step.new.inside.seat.me.0 k (length_at u1.map (first_thread u1.own)) step.ensures.answered.0 refusal.StackFull step.result single (omega arith) s1 step.ensures.reply step.ensures.answered.1

pub tell-requires-clause-event : goal.tell-requires-clause-event
tell-requires-clause-event c =
    let v = c.args.inside.now.seat.me.0 in
    let k = c.args.k in
    let single = c.args.inside.now.single in
    let u1 = c.stack_length-length.new.inside.seat.me.0 in
    let one = c.stack_length-length.new.inside.single in
    let s1 = looks_length v u1 c.stack_length-length.result single c.stack_length-length.ensures.loaded in
    let few : k ≤ MAX_FIELDS = let no = c.if-k-from.false in omega (arith, no, c.from.ensures) in
    let slots : length (actor v).told.stack < STACK_SLOTS = let no = c.if-length-ge-STACK_SLOTS.false in let n = c.stack_length-length.ensures.length in omega (arith, no, n) in
    let u2 = c.load_own-made.new.self.seat.me.0 in
    let two = c.load_own-made.new.self.single in
    let at2 : c.made_place-counted.result ≡ made_at v.map (actor v).thread = c.made_place-counted.ensures ∙ (λ i. made_at ((c.map.ensures ∙ sym c.requires.gate.1) i) ((c.thread.ensures ∙ c.stack_length-length.ensures.thread ∙ sym c.args.inside.now.numbered ∙ thread_in v) i)) in
    let l2 = subst (λ (p : ℕ). Loaded u1 p None c.load_own-made.result u2) at2 c.load_own-made.ensures.loaded in
    let s2 = looks_made v u1 single one c.requires.quiet s1 u2 c.load_own-made.result l2 in
    let made = made_known v u1 single one c.requires.quiet s1 u2 c.load_own-made.result l2 in
    spent_told v u2 k single two s2 c.requires.quiet few slots (let many = c.if-made-ge-MAX_SERIAL.true in omega (arith, many, made))

pub returns-then-made-ge-MAX_SERIAL-clause-answered : goal.returns-then-made-ge-MAX_SERIAL-clause-answered
returns-then-made-ge-MAX_SERIAL-clause-answered c =
    let v = c.args.inside.now.seat.me.0 in
    let k = c.args.k in
    let single = c.args.inside.now.single in
    let u1 = c.stack_length-length.new.inside.seat.me.0 in
    let one = c.stack_length-length.new.inside.single in
    let s1 = looks_length v u1 c.stack_length-length.result single c.stack_length-length.ensures.loaded in
    let u2 = c.load_own-made.new.self.seat.me.0 in
    let two = c.load_own-made.new.self.single in
    let at2 : c.made_place-counted.result ≡ made_at v.map (actor v).thread = c.made_place-counted.ensures ∙ (λ i. made_at ((c.map.ensures ∙ sym c.requires.gate.1) i) ((c.thread.ensures ∙ c.stack_length-length.ensures.thread ∙ sym c.args.inside.now.numbered ∙ thread_in v) i)) in
    let l2 = subst (λ (p : ℕ). Loaded u1 p None c.load_own-made.result u2) at2 c.load_own-made.ensures.loaded in
    let s2 = looks_made v u1 single one c.requires.quiet s1 u2 c.load_own-made.result l2 in
    let made = made_known v u1 single one c.requires.quiet s1 u2 c.load_own-made.result l2 in
    refuses_new v u2 c.tell.new.inside.seat.me.0 k c.made_place-counted.result c.tell.ensures.answered.0 refusal.NamesSpent c.tell.result single (omega (arith, at2)) s2 c.tell.ensures.reply c.tell.ensures.answered.1

pub overflow_cast-depth : goal.overflow_cast-depth
overflow_cast-depth c =
    let v = c.args.inside.now.seat.me.0 in
    let k = c.args.k in
    let single = c.args.inside.now.single in
    let u1 = c.stack_length-length.new.inside.seat.me.0 in
    let one = c.stack_length-length.new.inside.single in
    let s1 = looks_length v u1 c.stack_length-length.result single c.stack_length-length.ensures.loaded in
    let u2 = c.load_own-made.new.self.seat.me.0 in
    let two = c.load_own-made.new.self.single in
    let at2 : c.made_place-counted.result ≡ made_at v.map (actor v).thread = c.made_place-counted.ensures ∙ (λ i. made_at ((c.map.ensures ∙ sym c.requires.gate.1) i) ((c.thread.ensures ∙ c.stack_length-length.ensures.thread ∙ sym c.args.inside.now.numbered ∙ thread_in v) i)) in
    let l2 = subst (λ (p : ℕ). Loaded u1 p None c.load_own-made.result u2) at2 c.load_own-made.ensures.loaded in
    let s2 = looks_made v u1 single one c.requires.quiet s1 u2 c.load_own-made.result l2 in
    let made = made_known v u1 single one c.requires.quiet s1 u2 c.load_own-made.result l2 in
    let u3 = c.load_own-depth.new.self.seat.me.0 in
    let three = c.load_own-depth.new.self.single in
    let at3 : c.depth_place.result ≡ depth_at v.map (actor v).thread = c.depth_place.ensures ∙ (λ i. depth_at ((c.map-2.ensures ∙ sym c.requires.gate.1) i) ((c.thread-2.ensures ∙ c.load_own-made.ensures.thread ∙ c.stack_length-length.ensures.thread ∙ sym c.args.inside.now.numbered ∙ thread_in v) i)) in
    let l3 = subst (λ (p : ℕ). Loaded u2 p None c.load_own-depth.result u3) at3 c.load_own-depth.ensures.loaded in
    let low = depth_low v u2 single two c.requires.quiet s2 u3 c.load_own-depth.result l3 in
    omega (arith, low)

pub find_room-requires-clause-depth : goal.find_room-requires-clause-depth
find_room-requires-clause-depth c =
    let v = c.args.inside.now.seat.me.0 in
    let k = c.args.k in
    let single = c.args.inside.now.single in
    let u1 = c.stack_length-length.new.inside.seat.me.0 in
    let one = c.stack_length-length.new.inside.single in
    let s1 = looks_length v u1 c.stack_length-length.result single c.stack_length-length.ensures.loaded in
    let u2 = c.load_own-made.new.self.seat.me.0 in
    let two = c.load_own-made.new.self.single in
    let at2 : c.made_place-counted.result ≡ made_at v.map (actor v).thread = c.made_place-counted.ensures ∙ (λ i. made_at ((c.map.ensures ∙ sym c.requires.gate.1) i) ((c.thread.ensures ∙ c.stack_length-length.ensures.thread ∙ sym c.args.inside.now.numbered ∙ thread_in v) i)) in
    let l2 = subst (λ (p : ℕ). Loaded u1 p None c.load_own-made.result u2) at2 c.load_own-made.ensures.loaded in
    let s2 = looks_made v u1 single one c.requires.quiet s1 u2 c.load_own-made.result l2 in
    let made = made_known v u1 single one c.requires.quiet s1 u2 c.load_own-made.result l2 in
    let u3 = c.load_own-depth.new.self.seat.me.0 in
    let three = c.load_own-depth.new.self.single in
    let at3 : c.depth_place.result ≡ depth_at v.map (actor v).thread = c.depth_place.ensures ∙ (λ i. depth_at ((c.map-2.ensures ∙ sym c.requires.gate.1) i) ((c.thread-2.ensures ∙ c.load_own-made.ensures.thread ∙ c.stack_length-length.ensures.thread ∙ sym c.args.inside.now.numbered ∙ thread_in v) i)) in
    let l3 = subst (λ (p : ℕ). Loaded u2 p None c.load_own-depth.result u3) at3 c.load_own-depth.ensures.loaded in
    depth_known v u2 single two c.requires.quiet s2 u3 c.load_own-depth.result l3

pub find_room-requires-clause-deep : goal.find_room-requires-clause-deep
find_room-requires-clause-deep c =
    let v = c.args.inside.now.seat.me.0 in
    let k = c.args.k in
    let single = c.args.inside.now.single in
    let u1 = c.stack_length-length.new.inside.seat.me.0 in
    let one = c.stack_length-length.new.inside.single in
    let s1 = looks_length v u1 c.stack_length-length.result single c.stack_length-length.ensures.loaded in
    let u2 = c.load_own-made.new.self.seat.me.0 in
    let two = c.load_own-made.new.self.single in
    let at2 : c.made_place-counted.result ≡ made_at v.map (actor v).thread = c.made_place-counted.ensures ∙ (λ i. made_at ((c.map.ensures ∙ sym c.requires.gate.1) i) ((c.thread.ensures ∙ c.stack_length-length.ensures.thread ∙ sym c.args.inside.now.numbered ∙ thread_in v) i)) in
    let l2 = subst (λ (p : ℕ). Loaded u1 p None c.load_own-made.result u2) at2 c.load_own-made.ensures.loaded in
    let s2 = looks_made v u1 single one c.requires.quiet s1 u2 c.load_own-made.result l2 in
    let made = made_known v u1 single one c.requires.quiet s1 u2 c.load_own-made.result l2 in
    let u3 = c.load_own-depth.new.self.seat.me.0 in
    let three = c.load_own-depth.new.self.single in
    let at3 : c.depth_place.result ≡ depth_at v.map (actor v).thread = c.depth_place.ensures ∙ (λ i. depth_at ((c.map-2.ensures ∙ sym c.requires.gate.1) i) ((c.thread-2.ensures ∙ c.load_own-made.ensures.thread ∙ c.stack_length-length.ensures.thread ∙ sym c.args.inside.now.numbered ∙ thread_in v) i)) in
    let l3 = subst (λ (p : ℕ). Loaded u2 p None c.load_own-depth.result u3) at3 c.load_own-depth.ensures.loaded in
    depth_low v u2 single two c.requires.quiet s2 u3 c.load_own-depth.result l3

pub returns-in_err-room-clause-none : goal.returns-in_err-room-clause-none
returns-in_err-room-clause-none c =
    let v = c.args.inside.now.seat.me.0 in
    let k = c.args.k in
    let single = c.args.inside.now.single in
    let u1 = c.stack_length-length.new.inside.seat.me.0 in
    let one = c.stack_length-length.new.inside.single in
    let s1 = looks_length v u1 c.stack_length-length.result single c.stack_length-length.ensures.loaded in
    let few : k ≤ MAX_FIELDS = let no = c.if-k-from.false in omega (arith, no, c.from.ensures) in
    let slots : length (actor v).told.stack < STACK_SLOTS = let no = c.if-length-ge-STACK_SLOTS.false in let n = c.stack_length-length.ensures.length in omega (arith, no, n) in
    let u2 = c.load_own-made.new.self.seat.me.0 in
    let two = c.load_own-made.new.self.single in
    let at2 : c.made_place-counted.result ≡ made_at v.map (actor v).thread = c.made_place-counted.ensures ∙ (λ i. made_at ((c.map.ensures ∙ sym c.requires.gate.1) i) ((c.thread.ensures ∙ c.stack_length-length.ensures.thread ∙ sym c.args.inside.now.numbered ∙ thread_in v) i)) in
    let l2 = subst (λ (p : ℕ). Loaded u1 p None c.load_own-made.result u2) at2 c.load_own-made.ensures.loaded in
    let s2 = looks_made v u1 single one c.requires.quiet s1 u2 c.load_own-made.result l2 in
    let made = made_known v u1 single one c.requires.quiet s1 u2 c.load_own-made.result l2 in
    let u3 = c.load_own-depth.new.self.seat.me.0 in
    let three = c.load_own-depth.new.self.single in
    let at3 : c.depth_place.result ≡ depth_at v.map (actor v).thread = c.depth_place.ensures ∙ (λ i. depth_at ((c.map-2.ensures ∙ sym c.requires.gate.1) i) ((c.thread-2.ensures ∙ c.load_own-made.ensures.thread ∙ c.stack_length-length.ensures.thread ∙ sym c.args.inside.now.numbered ∙ thread_in v) i)) in
    let l3 = subst (λ (p : ℕ). Loaded u2 p None c.load_own-depth.result u3) at3 c.load_own-depth.ensures.loaded in
    let s3 = looks_depth v u2 single two c.requires.quiet s2 u3 c.load_own-depth.result l3 in
    let w = c.find_room.new.inside.seat.me.0 in
    let unspent : (actor v).told.made < MAX_SERIAL = let no = c.if-made-ge-MAX_SERIAL.false in omega (arith, no, made) in
    err_any c.from_residual.result (FindsNoPage v k w) (found_none v u3 k single three s3 w few slots unspent c.in_err-room.ensures.none)

pub make_in-requires-clause-depth : goal.make_in-requires-clause-depth
make_in-requires-clause-depth c =
    let v = c.args.inside.now.seat.me.0 in
    let k = c.args.k in
    let single = c.args.inside.now.single in
    let u1 = c.stack_length-length.new.inside.seat.me.0 in
    let one = c.stack_length-length.new.inside.single in
    let s1 = looks_length v u1 c.stack_length-length.result single c.stack_length-length.ensures.loaded in
    let u2 = c.load_own-made.new.self.seat.me.0 in
    let two = c.load_own-made.new.self.single in
    let at2 : c.made_place-counted.result ≡ made_at v.map (actor v).thread = c.made_place-counted.ensures ∙ (λ i. made_at ((c.map.ensures ∙ sym c.requires.gate.1) i) ((c.thread.ensures ∙ c.stack_length-length.ensures.thread ∙ sym c.args.inside.now.numbered ∙ thread_in v) i)) in
    let l2 = subst (λ (p : ℕ). Loaded u1 p None c.load_own-made.result u2) at2 c.load_own-made.ensures.loaded in
    let s2 = looks_made v u1 single one c.requires.quiet s1 u2 c.load_own-made.result l2 in
    let made = made_known v u1 single one c.requires.quiet s1 u2 c.load_own-made.result l2 in
    let u3 = c.load_own-depth.new.self.seat.me.0 in
    let three = c.load_own-depth.new.self.single in
    let at3 : c.depth_place.result ≡ depth_at v.map (actor v).thread = c.depth_place.ensures ∙ (λ i. depth_at ((c.map-2.ensures ∙ sym c.requires.gate.1) i) ((c.thread-2.ensures ∙ c.load_own-made.ensures.thread ∙ c.stack_length-length.ensures.thread ∙ sym c.args.inside.now.numbered ∙ thread_in v) i)) in
    let l3 = subst (λ (p : ℕ). Loaded u2 p None c.load_own-depth.result u3) at3 c.load_own-depth.ensures.loaded in
    let s3 = looks_depth v u2 single two c.requires.quiet s2 u3 c.load_own-depth.result l3 in
    depth_known v u2 single two c.requires.quiet s2 u3 c.load_own-depth.result l3 ∙ depth_then v u3 k single three s3 c.find_room.new.inside.seat.me.0 c.in_ok-room.room c.in_ok-room.ensures.found

pub make_in-requires-clause-made : goal.make_in-requires-clause-made
make_in-requires-clause-made c =
    let v = c.args.inside.now.seat.me.0 in
    let k = c.args.k in
    let single = c.args.inside.now.single in
    let u1 = c.stack_length-length.new.inside.seat.me.0 in
    let one = c.stack_length-length.new.inside.single in
    let s1 = looks_length v u1 c.stack_length-length.result single c.stack_length-length.ensures.loaded in
    let u2 = c.load_own-made.new.self.seat.me.0 in
    let two = c.load_own-made.new.self.single in
    let at2 : c.made_place-counted.result ≡ made_at v.map (actor v).thread = c.made_place-counted.ensures ∙ (λ i. made_at ((c.map.ensures ∙ sym c.requires.gate.1) i) ((c.thread.ensures ∙ c.stack_length-length.ensures.thread ∙ sym c.args.inside.now.numbered ∙ thread_in v) i)) in
    let l2 = subst (λ (p : ℕ). Loaded u1 p None c.load_own-made.result u2) at2 c.load_own-made.ensures.loaded in
    let s2 = looks_made v u1 single one c.requires.quiet s1 u2 c.load_own-made.result l2 in
    let made = made_known v u1 single one c.requires.quiet s1 u2 c.load_own-made.result l2 in
    let u3 = c.load_own-depth.new.self.seat.me.0 in
    let three = c.load_own-depth.new.self.single in
    let at3 : c.depth_place.result ≡ depth_at v.map (actor v).thread = c.depth_place.ensures ∙ (λ i. depth_at ((c.map-2.ensures ∙ sym c.requires.gate.1) i) ((c.thread-2.ensures ∙ c.load_own-made.ensures.thread ∙ c.stack_length-length.ensures.thread ∙ sym c.args.inside.now.numbered ∙ thread_in v) i)) in
    let l3 = subst (λ (p : ℕ). Loaded u2 p None c.load_own-depth.result u3) at3 c.load_own-depth.ensures.loaded in
    let s3 = looks_depth v u2 single two c.requires.quiet s2 u3 c.load_own-depth.result l3 in
    made ∙ made_then v u3 k single three s3 c.find_room.new.inside.seat.me.0 c.in_ok-room.room c.in_ok-room.ensures.found

pub make_in-requires-clause-counted : goal.make_in-requires-clause-counted
make_in-requires-clause-counted c =
    let v = c.args.inside.now.seat.me.0 in
    let k = c.args.k in
    let single = c.args.inside.now.single in
    let u1 = c.stack_length-length.new.inside.seat.me.0 in
    let one = c.stack_length-length.new.inside.single in
    let s1 = looks_length v u1 c.stack_length-length.result single c.stack_length-length.ensures.loaded in
    let u2 = c.load_own-made.new.self.seat.me.0 in
    let two = c.load_own-made.new.self.single in
    let at2 : c.made_place-counted.result ≡ made_at v.map (actor v).thread = c.made_place-counted.ensures ∙ (λ i. made_at ((c.map.ensures ∙ sym c.requires.gate.1) i) ((c.thread.ensures ∙ c.stack_length-length.ensures.thread ∙ sym c.args.inside.now.numbered ∙ thread_in v) i)) in
    let l2 = subst (λ (p : ℕ). Loaded u1 p None c.load_own-made.result u2) at2 c.load_own-made.ensures.loaded in
    let s2 = looks_made v u1 single one c.requires.quiet s1 u2 c.load_own-made.result l2 in
    let made = made_known v u1 single one c.requires.quiet s1 u2 c.load_own-made.result l2 in
    let u3 = c.load_own-depth.new.self.seat.me.0 in
    let three = c.load_own-depth.new.self.single in
    let at3 : c.depth_place.result ≡ depth_at v.map (actor v).thread = c.depth_place.ensures ∙ (λ i. depth_at ((c.map-2.ensures ∙ sym c.requires.gate.1) i) ((c.thread-2.ensures ∙ c.load_own-made.ensures.thread ∙ c.stack_length-length.ensures.thread ∙ sym c.args.inside.now.numbered ∙ thread_in v) i)) in
    let l3 = subst (λ (p : ℕ). Loaded u2 p None c.load_own-depth.result u3) at3 c.load_own-depth.ensures.loaded in
    let s3 = looks_depth v u2 single two c.requires.quiet s2 u3 c.load_own-depth.result l3 in
    let shown = made_shown v u1 single one c.requires.quiet s1 u2 c.load_own-made.result l2 in
    counted_then v u3 k single three s3 c.find_room.new.inside.seat.me.0 c.in_ok-room.room c.in_ok-room.ensures.found c.load_own-made.result (thread_of_seat c.args.inside.now) (loaded_shows u2 u3 (depth_at v.map (actor v).thread) c.load_own-depth.result two l3 (made_at v.map (actor v).thread) c.load_own-made.result shown)

pub returns-clause-answered : goal.returns-clause-answered
returns-clause-answered c =
    let v = c.args.inside.now.seat.me.0 in
    let k = c.args.k in
    let single = c.args.inside.now.single in
    let u1 = c.stack_length-length.new.inside.seat.me.0 in
    let one = c.stack_length-length.new.inside.single in
    let s1 = looks_length v u1 c.stack_length-length.result single c.stack_length-length.ensures.loaded in
    let u2 = c.load_own-made.new.self.seat.me.0 in
    let two = c.load_own-made.new.self.single in
    let at2 : c.made_place-counted.result ≡ made_at v.map (actor v).thread = c.made_place-counted.ensures ∙ (λ i. made_at ((c.map.ensures ∙ sym c.requires.gate.1) i) ((c.thread.ensures ∙ c.stack_length-length.ensures.thread ∙ sym c.args.inside.now.numbered ∙ thread_in v) i)) in
    let l2 = subst (λ (p : ℕ). Loaded u1 p None c.load_own-made.result u2) at2 c.load_own-made.ensures.loaded in
    let s2 = looks_made v u1 single one c.requires.quiet s1 u2 c.load_own-made.result l2 in
    let made = made_known v u1 single one c.requires.quiet s1 u2 c.load_own-made.result l2 in
    let u3 = c.load_own-depth.new.self.seat.me.0 in
    let three = c.load_own-depth.new.self.single in
    let at3 : c.depth_place.result ≡ depth_at v.map (actor v).thread = c.depth_place.ensures ∙ (λ i. depth_at ((c.map-2.ensures ∙ sym c.requires.gate.1) i) ((c.thread-2.ensures ∙ c.load_own-made.ensures.thread ∙ c.stack_length-length.ensures.thread ∙ sym c.args.inside.now.numbered ∙ thread_in v) i)) in
    let l3 = subst (λ (p : ℕ). Loaded u2 p None c.load_own-depth.result u3) at3 c.load_own-depth.ensures.loaded in
    let s3 = looks_depth v u2 single two c.requires.quiet s2 u3 c.load_own-depth.result l3 in
    made_new v u3 k single three s3 c.find_room.new.inside.seat.me.0 c.in_ok-room.room c.in_ok-room.ensures.found c.make_in.new.inside.seat.me.0 c.make_in.ensures.made
