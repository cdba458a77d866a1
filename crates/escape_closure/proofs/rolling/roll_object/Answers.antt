use Rattle.std.proofs.Common.{refl}
use Rattle.escape_closure.proofs.Rolls.{scratch_written}
use Rattle.std.proofs.Props.{props}
use Rattle.std.proofs.Math.Logic.{∥∥₁_elim}
use Rattle.std.proofs.Common.{◌≡◌, ◌*◌, ℕ, List, arith, sym, ap, ◌∙◌}
use Rattle.heap_words.specs.Contents.{contents, with_scratch}
use Rattle.heap_walks.proofs.Objects.{in_heap}
use Rattle.escape_closure.proofs.Rolls.{goes_on, passes, room_now, rolled}
use Rattle.escape_closure.proofs.rolling.roll_object.Goals as goal

pub overflow_add-a : goal.overflow_add-a
overflow_add-a g c =
    ∥∥₁_elim c.requires.some (hlevel props) (λ q. let b = room_now c.args.map q.0 _ c.args.a c.args.count q.2 q.3 q.1 q.6 q.4 q.5 in let areas = c.requires.sound.areas in let h = in_heap c.args.map q.0.laid q.2 q.3 q.1.among.stands q.4 in omega (arith, h, q.5, areas))

pub get_heap-work-requires-clause-within : goal.get_heap-work-requires-clause-within
get_heap-work-requires-clause-within g c =
    ∥∥₁_elim c.requires.some (hlevel props) (λ q. let h = in_heap c.args.map q.0.laid q.2 q.3 q.1.among.stands q.4 in omega (arith, h, q.5))

pub returns-then-work-eq0-clause-rolled : goal.returns-then-work-eq0-clause-rolled
returns-then-work-eq0-clause-rolled g c q ready n o present at r limit is =
    let m = c.args.map in
    let old = contents m (g.W.Words.words c.args.words.now) in
    rw c.get_heap-work.ensures.words (passes m q old c.args.a c.args.count n o ready r at (sym c.get_heap-work.ensures.value ∙ c.if-work-eq0.true) limit is)

pub overflow_mul-count : goal.overflow_mul-count
overflow_mul-count g c =
    ∥∥₁_elim c.requires.some (hlevel props) (λ q. let b = room_now c.args.map q.0 _ c.args.a c.args.count q.2 q.3 q.1 q.6 q.4 q.5 in let areas = c.requires.sound.areas in omega (arith, b, areas))

pub set_scratch-requires-clause-within : goal.set_scratch-requires-clause-within
set_scratch-requires-clause-within g c =
    ∥∥₁_elim c.requires.some (hlevel props) (λ q. let b = room_now c.args.map q.0 _ c.args.a c.args.count q.2 q.3 q.1 q.6 q.4 q.5 in let areas = c.requires.sound.areas in omega (arith, b, areas))

pub overflow_add-result : goal.overflow_add-result
overflow_add-result g c =
    ∥∥₁_elim c.requires.some (hlevel props) (λ q. let b = room_now c.args.map q.0 _ c.args.a c.args.count q.2 q.3 q.1 q.6 q.4 q.5 in let areas = c.requires.sound.areas in omega (arith, b, areas))

pub returns-clause-rolled : goal.returns-clause-rolled
returns-clause-rolled g c q ready n o present at r limit is =
    let m = c.args.map in
    let old = contents m (g.W.Words.words c.args.words.now) in
    let a = c.args.a in
    let made : contents m (g.W.Words.words c.set_scratch.new.words) ≡ rolled m q old a c.args.count n o ready r present at = c.set_scratch.ensures.set ∙ ap (λ (x : List ℕ). with_scratch (contents m x) (3 * c.args.count) a) c.get_heap-work.ensures.words in
    rw made (goes_on m q old a c.args.count n o ready r present at (λ z. c.if-work-eq0.false (c.get_heap-work.ensures.value ∙ z)) limit is)

pub returns-then-work-eq0-clause-frame : goal.returns-then-work-eq0-clause-frame
returns-then-work-eq0-clause-frame g c = rw c.get_heap-work.ensures.words refl

pub returns-clause-frame : goal.returns-clause-frame
returns-clause-frame g c =
    let m = c.args.map in
    let old = contents m (g.W.Words.words c.args.words.now) in
    scratch_written old (contents m (g.W.Words.words c.set_scratch.new.words)) (3 * c.args.count) c.args.a (c.set_scratch.ensures.set ∙ ap (λ (x : List ℕ). with_scratch (contents m x) (3 * c.args.count) c.args.a) c.get_heap-work.ensures.words)
