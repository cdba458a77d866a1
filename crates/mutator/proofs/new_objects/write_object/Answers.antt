use Rattle.std.proofs.Common.{◌≡◌, ◌∙◌, ◌+◌, ◌<◌, sym, ap, arith}
use Rattle.object_layout.specs.declared.TheConstants.{OBJECT_WORDS}
use Rattle.heap_words.specs.Map.{heap_at}
use Rattle.mutator.proofs.Placed.{may_write, names_object, thread_of_seat, writes_more, wrote_more, wrote_none, wrote_of}
use Rattle.mutator.proofs.new_objects.write_object.Goals as goal

pub store_own-requires-clause-own : goal.store_own-requires-clause-own
store_own-requires-clause-own c =
    let v = c.args.inside.now.seat.me.0 in
    let heap : c.heap.result ≡ heap_at v.map = c.heap.ensures ∙ ap heap_at (c.map.ensures ∙ sym c.requires.gate.1) in
    may_write v v c.args.front 0 c.args.inside.now.single (wrote_none v c.args.front c.requires.bare) c.requires.placing.0 c.requires.placing.1 (omega arith) (c.heap.result + c.args.front) c.encode_header.result (omega (arith, heap))

pub store_own-requires-2-clause-own : goal.store_own-requires-2-clause-own
store_own-requires-2-clause-own c =
    let v = c.args.inside.now.seat.me.0 in
    let u = c.store_own.new.self.seat.me.0 in
    let heap : c.heap.result ≡ heap_at v.map = c.heap.ensures ∙ ap heap_at (c.map.ensures ∙ sym c.requires.gate.1) in
    let later : heap_at u.map ≡ heap_at v.map = ap heap_at (c.store_own.ensures.gate.1 ∙ sym c.requires.gate.1) in
    let first = wrote_more v v c.args.front 0 c.args.inside.now.single (wrote_none v c.args.front c.requires.bare) u (c.heap.result + c.args.front) c.encode_header.result c.args.inside.now.single (thread_of_seat c.args.inside.now) (omega (arith, heap)) c.store_own.ensures.stored in
    may_write v u c.args.front 1 c.args.inside.now.single first c.requires.placing.0 c.requires.placing.1 (omega arith) (c.heap.result + c.args.front + 1) c.encode_name.result (omega (arith, heap, later))

pub loop-i-init : goal.loop-i-init
loop-i-init c =
    let v = c.args.inside.now.seat.me.0 in
    let u = c.store_own.new.self.seat.me.0 in
    let heap : c.heap.result ≡ heap_at v.map = c.heap.ensures ∙ ap heap_at (c.map.ensures ∙ sym c.requires.gate.1) in
    record {
      gate = c.store_own-2.ensures.gate;
      thread = c.store_own-2.ensures.thread ∙ c.store_own.ensures.thread;
      written = names_object v u c.store_own-2.new.self.seat.me.0 c.args.front (c.heap.result + c.args.front) (c.heap.result + c.args.front + 1) c.encode_header.result c.encode_name.result c.args.header c.args.name
          c.args.inside.now.single c.store_own.new.self.single (thread_of_seat c.args.inside.now) c.requires.bare (omega (arith, heap)) (omega (arith, heap)) c.encode_header.ensures.word c.encode_name.ensures.word c.store_own.ensures.stored c.store_own-2.ensures.stored;
    }

pub store_own-requires-in-loop-i-clause-own : goal.store_own-requires-in-loop-i-clause-own
store_own-requires-in-loop-i-clause-own c =
    let v = c.args.inside.now.seat.me.0 in
    let w = c.loop-i.inside.seat.me.0 in
    let heap : c.heap.result ≡ heap_at v.map = c.heap.ensures ∙ ap heap_at (c.map.ensures ∙ sym c.requires.gate.1) in
    let later : heap_at w.map ≡ heap_at v.map = ap heap_at (c.loop-i.invariant.gate.1 ∙ sym c.requires.gate.1) in
    let fields : c.args.header.fields ≡ c.requires.placing.0.fields = c.requires.placing.2 in
    let few : c.loop-i.i < c.requires.placing.0.fields + OBJECT_WORDS = omega (arith, fields, c.loop-i-test.true, c.from.ensures, c.from-2.ensures) in
    may_write v w c.args.front c.loop-i.i c.args.inside.now.single (wrote_of v w c.args.front c.args.header c.args.name c.loop-i.i c.loop-i.invariant.written) c.requires.placing.0 c.requires.placing.1 few (c.heap.result + c.args.front + c.loop-i.i) 0 (omega (arith, heap, later))

pub loop-i-preserved : goal.loop-i-preserved
loop-i-preserved c =
    let v = c.args.inside.now.seat.me.0 in
    let w = c.loop-i.inside.seat.me.0 in
    let heap : c.heap.result ≡ heap_at v.map = c.heap.ensures ∙ ap heap_at (c.map.ensures ∙ sym c.requires.gate.1) in
    record {
      gate = c.store_own-in-loop-i.ensures.gate;
      thread = c.store_own-in-loop-i.ensures.thread ∙ c.loop-i.invariant.thread;
      written = writes_more v w c.store_own-in-loop-i.new.self.seat.me.0 c.args.front (c.heap.result + c.args.front + c.loop-i.i) c.loop-i.i c.args.header c.args.name c.args.inside.now.single c.loop-i.inside.single (thread_of_seat c.args.inside.now) c.loop-i.auto.i (omega (arith, heap)) c.loop-i.invariant.written c.store_own-in-loop-i.ensures.stored;
    }
