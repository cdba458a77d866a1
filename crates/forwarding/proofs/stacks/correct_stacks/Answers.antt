use Rattle.std.proofs.Common.{◌≡◌, ◌≤◌, ◌+◌, ◌-◌, ◌<◌, arith, get_or, set, length, map, subst, sym, ap, ◌∙◌, [], List, ℕ, sum_by, take}
use Rattle.std.proofs.lemmas.List.{take_all}
use Rattle.heap_words.specs.Contents.{Contents, contents, stack_of, with_stack}
use Rattle.heap_words.proofs.Contents.{length-stacks}
use Rattle.yak_model.specs.Plans.{forward}
use Rattle.relocation.specs.Moves.{Numbered, corrected_word, move_at}
use Rattle.forwarding.proofs.StackSteps.{Done, done-more, done-all, stacks-next, sum-more}
use Rattle.forwarding.proofs.stacks.correct_stacks.Goals as goal

pub correct_stack-requires-clause-plan : goal.correct_stack-requires-clause-plan
correct_stack-requires-clause-plan g c =
    let was : Contents = contents c.args.map (g.W.Words.words c.args.words.now) in
    subst (λ (x : Contents). Numbered c.args.map x.heap c.args.plan.now.count (move_at x.scratch)) (sym c.loop-t.invariant.frame) c.requires.plan

pub correct_stack-requires-clause-lead : goal.correct_stack-requires-clause-lead
correct_stack-requires-clause-lead g c k a lt e =
    let mid : Contents = contents c.args.map (g.W.Words.words c.loop-t.words) in
    let t = c.loop-t.t in
    let row : get_or mid.stacks (t + 1 - 1) [] ≡ get_or (contents c.args.map (g.W.Words.words c.args.words.now)).stacks (t + 1 - 1) [] = c.loop-t.invariant.stacks.rest (t + 1 - 1) (omega arith) in
    c.requires.lead (t + 1) k a (omega arith, omega arith) (subst (λ (st : List ℕ). k < length st) row lt) (sym (ap (λ (st : List ℕ). get_or st k 0) row) ∙ e)

pub loop-t-preserved : goal.loop-t-preserved
loop-t-preserved g c =
    let m = c.args.map in
    let t = c.loop-t.t in
    let inv = c.loop-t.invariant in
    let was : Contents = contents m (g.W.Words.words c.args.words.now) in
    let mid : Contents = contents m (g.W.Words.words c.loop-t.words) in
    let new : Contents = contents m (g.W.Words.words c.correct_stack.new.words) in
    let f = map (corrected_word (forward c.args.plan.now.count (move_at was.scratch))) in
    let scratch : mid.scratch ≡ was.scratch = ap (λ (x : Contents). x.scratch) inv.frame in
    let back : t + 1 - 1 ≡ t = omega arith in
    let step : new ≡ with_stack mid (t + 1) (f (stack_of mid (t + 1))) = subst (λ (s : List ℕ). new ≡ with_stack mid (t + 1) (map (corrected_word (forward c.args.plan.now.count (move_at s))) (stack_of mid (t + 1)))) scratch c.correct_stack.ensures.corrected in
    let all : new ≡ record was { stacks = set mid.stacks t (f (get_or mid.stacks t [])) } = stacks-next was mid new (t + 1) (f (stack_of mid (t + 1))) inv.frame step ∙ ap (λ i. let x : Contents = record was { stacks = set mid.stacks i (f (get_or mid.stacks i [])) } in x) back in
    let own : new.stacks ≡ set mid.stacks t (f (get_or mid.stacks t [])) = ap (λ (x : Contents). x.stacks) all in
    let lt : t < length was.stacks = omega (arith, length-stacks m (g.W.Words.words c.args.words.now)) in
    let long : length (stack_of mid (t + 1)) ≡ length (get_or was.stacks t []) = ap (λ i. length (get_or mid.stacks i [])) back ∙ ap (λ (st : List ℕ). length st) (inv.stacks.rest t (omega arith)) in
    record {
      stacks = subst (λ (ss : List (List ℕ)). Done f [] was.stacks ss (t + 1)) (sym own) (done-more f [] was.stacks mid.stacks t inv.stacks lt);
      frame = all ∙ ap (λ (ss : List (List ℕ)). let x : Contents = record was { stacks = ss } in x) (sym own);
      sound = c.correct_stack.ensures.sound;
      reads = omega (arith, inv.reads, c.correct_stack.ensures.reads, long, sum-more (λ (st : List ℕ). length st) was.stacks t lt);
      base = c.correct_stack.ensures.base ∙ inv.base;
    }

pub returns-clause-corrected : goal.returns-clause-corrected
returns-clause-corrected g c =
    let m = c.args.map in
    let was : Contents = contents m (g.W.Words.words c.args.words.now) in
    let now : Contents = contents m (g.W.Words.words c.loop-t.words) in
    let f = map (corrected_word (forward c.args.plan.now.count (move_at was.scratch))) in
    c.loop-t.invariant.frame ∙ ap (λ (ss : List (List ℕ)). let x : Contents = record was { stacks = ss } in x) (done-all f [] was.stacks now.stacks c.loop-t.t c.loop-t.invariant.stacks (omega (arith, length-stacks m (g.W.Words.words c.args.words.now))))

pub returns-clause-reads : goal.returns-clause-reads
returns-clause-reads g c =
    let m = c.args.map in
    let was : Contents = contents m (g.W.Words.words c.args.words.now) in
    let le : length was.stacks ≤ c.loop-t.t = omega (arith, length-stacks m (g.W.Words.words c.args.words.now)) in
    let whole : sum_by (λ (st : List ℕ). length st) (take c.loop-t.t was.stacks) ≡ sum_by (λ (st : List ℕ). length st) was.stacks = ap (λ (l : List (List ℕ)). sum_by (λ (st : List ℕ). length st) l) (take_all c.loop-t.t was.stacks le) in
    omega (arith, c.loop-t.invariant.reads, whole)
