use Rattle.std.proofs.Props.{props}
use Rattle.std.proofs.Math.Logic.{∥∥₁_elim}
use Rattle.std.proofs.Common.{◌≡◌, ◌≤◌, ◌+◌, IsTrue, arith, ap, ◌∙◌, get_or, set, refl}
use Rattle.heap_words.specs.Map.{heap_length}
use Rattle.heap_words.specs.Contents.{Contents, contents, with_heap, with_scratch}
use Rattle.mark_compact.proofs.Follows.{led, led_fits, stays, no_address, other_space, new_mark, room_at, TellsControl}
use Rattle.mark_compact.proofs.marking.mark_reference.Goals as goal

pub returns-in_default-clause-marking : goal.returns-in_default-clause-marking
returns-in_default-clause-marking g c h mk lead =
    (stays _ h _ _ mk, no_address _ h _ _ _ mk c.in_default.ensures)

pub get_heap-header-requires-clause-within : goal.get_heap-header-requires-clause-within
get_heap-header-requires-clause-within g c =
    ∥∥₁_elim c.requires.some (hlevel props) (λ q. let b : c.in-Some.a + 3 ≤ heap_length c.args.map = led_fits _ q.0 _ _ _ q.1 (led _ q.0 _ _ _ _ q.1 q.2 c.in-Some.ensures) in omega (arith, b))

pub returns-then-not-is_control-clause-marking : goal.returns-then-not-is_control-clause-marking
returns-then-not-is_control-clause-marking g c h mk lead =
    let old = contents c.args.map (g.W.Words.words c.args.words.now) in
    let a = c.in-Some.a in
    let tells : TellsControl (get_or old.heap a 0) (IsTrue c.is_control.result) = λ f s hf hs q. c.is_control.ensures f s hf hs (c.get_heap-header.ensures.value ∙ q) in
    let fails : IsTrue c.is_control.result → ⊥ = λ e. let x = c.if-not-is_control.true in cc in
    rw c.get_heap-header.ensures.words (stays _ h _ _ mk, other_space _ h _ _ a _ (IsTrue c.is_control.result) mk (led _ h _ _ _ _ mk lead c.in-Some.ensures) c.in-Some.ensures tells fails)

pub get_heap-work-requires-clause-within : goal.get_heap-work-requires-clause-within
get_heap-work-requires-clause-within g c =
    ∥∥₁_elim c.requires.some (hlevel props) (λ q. let b : c.in-Some.a + 3 ≤ heap_length c.args.map = led_fits _ q.0 _ _ _ q.1 (led _ q.0 _ _ _ _ q.1 q.2 c.in-Some.ensures) in omega (arith, b))

pub set_heap-requires-clause-within : goal.set_heap-requires-clause-within
set_heap-requires-clause-within g c =
    ∥∥₁_elim c.requires.some (hlevel props) (λ q. let b : c.in-Some.a + 3 ≤ heap_length c.args.map = led_fits _ q.0 _ _ _ q.1 (led _ q.0 _ _ _ _ q.1 q.2 c.in-Some.ensures) in omega (arith, b))

pub set_scratch-requires-clause-within : goal.set_scratch-requires-clause-within
set_scratch-requires-clause-within g c =
    let old = contents c.args.map (g.W.Words.words c.args.words.now) in
    let a = c.in-Some.a in
    let tells : TellsControl (get_or old.heap a 0) (IsTrue c.is_control.result) = λ f s hf hs q. c.is_control.ensures f s hf hs (c.get_heap-header.ensures.value ∙ q) in
    let passes : IsTrue c.is_control.result = let x = c.if-not-is_control.false in cc in
    let work : c.get_heap-work.result ≡ get_or old.heap (a + 2) 0 = rw (← c.get_heap-header.ensures.words) c.get_heap-work.ensures.value in
    let free : get_or old.heap (a + 2) 0 ≡ 0 = omega (arith, work, c.if-work-ne0.false) in
    ∥∥₁_elim c.requires.some (hlevel props) (λ q.
    let b = room_at _ q.0 old _ a (IsTrue c.is_control.result) q.1 (led _ q.0 _ _ _ _ q.1 q.2 c.in-Some.ensures) tells passes free in
    omega (arith, b))

pub overflow_add-result : goal.overflow_add-result
overflow_add-result g c =
    ∥∥₁_elim c.requires.some (hlevel props) (λ q. let b = q.1.fits in let areas = c.requires.sound.areas in omega (arith, b, areas))

pub returns-clause-marking : goal.returns-clause-marking
returns-clause-marking g c h mk lead =
    let old = contents c.args.map (g.W.Words.words c.args.words.now) in
    let a = c.in-Some.a in
    let tells : TellsControl (get_or old.heap a 0) (IsTrue c.is_control.result) = λ f s hf hs q. c.is_control.ensures f s hf hs (c.get_heap-header.ensures.value ∙ q) in
    let passes : IsTrue c.is_control.result = let x = c.if-not-is_control.false in cc in
    let work : c.get_heap-work.result ≡ get_or old.heap (a + 2) 0 = rw (← c.get_heap-header.ensures.words) c.get_heap-work.ensures.value in
    let free : get_or old.heap (a + 2) 0 ≡ 0 = omega (arith, work, c.if-work-ne0.false) in
    let same : contents c.args.map (g.W.Words.words c.get_heap-work.new.words) ≡ old = rw (c.get_heap-work.ensures.words, c.get_heap-header.ensures.words) refl in
    let made : contents c.args.map (g.W.Words.words c.set_scratch.new.words) ≡ record old { heap = set old.heap (a + 2) 1; scratch = set old.scratch c.args.count a } =
    c.set_scratch.ensures.set ∙ ap (λ (x : Contents). with_scratch x c.args.count a) (c.set_heap.ensures.set ∙ ap (λ (x : Contents). with_heap x (a + 2) 1) same) in
    new_mark _ h old _ _ a _ (IsTrue c.is_control.result) mk (led _ h _ _ _ _ mk lead c.in-Some.ensures) c.in-Some.ensures tells passes free made
