use Rattle.std.proofs.Common.{◌≡◌, ◌+◌, ◌-◌, ◌<◌, arith, get_or, set, length, subst, sym, ap, ◌∙◌, List, ℕ}
use Rattle.heap_words.specs.Contents.{Contents, contents, stack_of, with_stack}
use Rattle.heap_words.proofs.Contents.{length-stacks}
use Rattle.yak_model.specs.Plans.{forward}
use Rattle.relocation.specs.Moves.{corrected_word, move_at}
use Rattle.forwarding.proofs.StackSteps.{Done, done-more, done-all, stack-next, stack-written}
use Rattle.forwarding.proofs.stacks.correct_stack.Goals as goal

pub correct_slot-requires-clause-lead : goal.correct_slot-requires-clause-lead
correct_slot-requires-clause-lead g c a e =
    c.requires.lead c.loop-slot.slot a (omega (arith, c.stack_length-length.ensures.value)) (sym (c.loop-slot.invariant.slots.rest c.loop-slot.slot (omega arith)) ∙ e)

pub loop-slot-preserved : goal.loop-slot-preserved
loop-slot-preserved g c =
    let m = c.args.map in
    let t = c.args.thread in
    let k = c.loop-slot.slot in
    let inv = c.loop-slot.invariant in
    let was : Contents = contents m (g.W.Words.words c.args.words.now) in
    let mid : Contents = contents m (g.W.Words.words c.loop-slot.words) in
    let new : Contents = contents m (g.W.Words.words c.correct_slot.new.words) in
    let f = corrected_word (forward c.args.plan.now.count (move_at was.scratch)) in
    let scratch : mid.scratch ≡ was.scratch = ap (λ (x : Contents). x.scratch) inv.frame in
    let xs : List ℕ = set (stack_of mid t) k (f (get_or (stack_of mid t) k 0)) in
    let step : new ≡ with_stack mid t xs = subst (λ (s : List ℕ). new ≡ with_stack mid t (set (stack_of mid t) k (corrected_word (forward c.args.plan.now.count (move_at s)) (get_or (stack_of mid t) k 0)))) scratch c.correct_slot.ensures.corrected in
    let row : t - 1 < length mid.stacks = omega (arith, length-stacks m (g.W.Words.words c.loop-slot.words), c.requires.thread) in
    let own : stack_of new t ≡ xs = stack-written mid new t xs step row in
    record {
      slots = subst (λ (st : List ℕ). Done f 0 (stack_of was t) st (k + 1)) (sym own) (done-more f 0 (stack_of was t) (stack_of mid t) k inv.slots (omega (arith, c.stack_length-length.ensures.value)));
      frame = stack-next was mid new t xs inv.frame step ∙ ap (with_stack was t) (sym own);
      sound = c.correct_slot.ensures.sound;
      reads = omega (arith, inv.reads, c.correct_slot.ensures.reads);
      base = c.correct_slot.ensures.base ∙ inv.base;
    }

pub returns-clause-corrected : goal.returns-clause-corrected
returns-clause-corrected g c =
    let m = c.args.map in
    let t = c.args.thread in
    let was : Contents = contents m (g.W.Words.words c.args.words.now) in
    let now : Contents = contents m (g.W.Words.words c.loop-slot.words) in
    let f = corrected_word (forward c.args.plan.now.count (move_at was.scratch)) in
    c.loop-slot.invariant.frame ∙ ap (with_stack was t) (done-all f 0 (stack_of was t) (stack_of now t) c.loop-slot.slot c.loop-slot.invariant.slots (omega (arith, c.stack_length-length.ensures.value)))
