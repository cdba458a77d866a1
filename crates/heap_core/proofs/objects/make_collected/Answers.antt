use Rattle.std.proofs.Common.{◌≡◌, true, None, refl, sym, ap, ◌∙◌, arith, inl, inr, length}
use Rattle.heap_words.specs.Contents.{contents, made_of, stack_of}
use Rattle.heap_core.specs.Collecting.{IsCollected}
use Rattle.standing_calls.proofs.Makes.{out_of_heap}
use Rattle.standing_calls.proofs.Told.{pool-told}
use Rattle.heap_core.proofs.Gathered.{full_counts, kept-made, kept-slots, some-collected, some-stands}
use Rattle.heap_core.proofs.objects.make_collected.Goals as goal

pub make-requires-clause-stands : goal.make-requires-clause-stands
make-requires-clause-stands g c =
    let m = c.args.map in
    let was = contents m (g.W.Words.words c.args.words.now) in
    let now = contents m (g.W.Words.words c.collect.new.words) in
    some-stands m now (some-collected m was now c.args.thread c.requires.recorded (record { state = c.collect.ensures.state; room = c.collect.ensures.room }))

pub make-requires-clause-slot : goal.make-requires-clause-slot
make-requires-clause-slot g c =
    let m = c.args.map in
    let was = contents m (g.W.Words.words c.args.words.now) in
    let now = contents m (g.W.Words.words c.collect.new.words) in
    let same : length (stack_of now c.args.thread) ≡ length (stack_of was c.args.thread) = kept-slots m was now c.args.thread c.args.thread c.requires.recorded (record { state = c.collect.ensures.state; room = c.collect.ensures.room }) in
    omega (arith, same, c.requires.slot)

pub make-requires-clause-made : goal.make-requires-clause-made
make-requires-clause-made g c =
    let m = c.args.map in
    let was = contents m (g.W.Words.words c.args.words.now) in
    let now = contents m (g.W.Words.words c.collect.new.words) in
    c.requires.made ∙ sym (kept-made m was now c.args.thread c.args.thread c.requires.recorded (record { state = c.collect.ensures.state; room = c.collect.ensures.room }))

pub census-requires-clause-pool : goal.census-requires-clause-pool
census-requires-clause-pool g c =
    let m = c.args.map in
    let was = contents m (g.W.Words.words c.args.words.now) in
    let now = contents m (g.W.Words.words c.collect.new.words) in
    rw c.in-Err.ensures.none.1 (pool-told m now (some-stands m now (some-collected m was now c.args.thread c.requires.recorded (record { state = c.collect.ensures.state; room = c.collect.ensures.room }))))

pub returns-in-Ok-clause-made : goal.returns-in-Ok-clause-made
returns-in-Ok-clause-made g c =
    let m = c.args.map in
    inl (record {
      between = contents m (g.W.Words.words c.collect.new.words);
      collected = record { state = c.collect.ensures.state; room = c.collect.ensures.room };
      turned = c.in-Ok.ensures.made.1;
      says = ap (λ r. record { reply = r; collected = true; full = None; shortage = None }) c.in-Ok.ensures.made.0;
    })

pub returns-in-Err-clause-made : goal.returns-in-Err-clause-made
returns-in-Err-clause-made g c =
    let m = c.args.map in
    let was = contents m (g.W.Words.words c.args.words.now) in
    let now = contents m (g.W.Words.words c.collect.new.words) in
    let done : IsCollected m was now c.args.thread = record { state = c.collect.ensures.state; room = c.collect.ensures.room } in
    let same : length (stack_of now c.args.thread) ≡ length (stack_of was c.args.thread) = kept-slots m was now c.args.thread c.args.thread c.requires.recorded done in
    let made : made_of now c.args.thread ≡ made_of was c.args.thread = kept-made m was now c.args.thread c.args.thread c.requires.recorded done in
    let none = c.in-Err.ensures.none.0 in
    let free = rw c.in-Err.ensures.none.1 at c.census.ensures.free in
    let entered = rw c.in-Err.ensures.none.1 at c.census.ensures.entered_free in
    let region = rw c.in-Err.ensures.none.1 at c.census.ensures.region in
    let control = rw c.in-Err.ensures.none.1 at c.census.ensures.control in
    rw (c.census.ensures.words, c.in-Err.ensures.none.1) (inr (record {
      collected = done;
      none = none;
      turned = out_of_heap m now c.args.thread c.args.fields c.requires.thread c.requires.few (omega (arith, same, c.requires.slot)) (omega (arith, made, c.requires.made, c.requires.unspent)) none;
      pages = c.census.result;
      counts = full_counts now c.census.result free entered region control none.none_free;
      says = refl;
    }))
