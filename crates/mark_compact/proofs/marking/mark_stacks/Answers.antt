use Rattle.std.proofs.Math.Logic.{∥∥₁_elim, ∥∥₁_map}
use Rattle.std.proofs.Props.{props}
use Rattle.std.proofs.Common.{◌≡◌, ◌+◌, ◌-◌, ℕ, arith, ap, ◌∙◌, subst, below_more, refl, List, [], length, get_or}
use Rattle.heap_words.specs.Contents.{contents, stack_of}
use Rattle.mark_compact.specs.Marking.{IsStackMarked}
use Rattle.mark_compact.proofs.Follows.{stays}
use Rattle.mark_compact.proofs.Scans.{then_on}
use Rattle.mark_compact.proofs.Stacks.{stack_still}
use Rattle.mark_compact.proofs.Costs.{sum_next, stacks_now}
use Rattle.std.proofs.lemmas.List.Sums.{sum_by-take-le}
use Rattle.mark_compact.proofs.marking.mark_stacks.Goals as goal

pub mark_stack-count-requires-clause-some : goal.mark_stack-count-requires-clause-some
mark_stack-count-requires-clause-some g c =
    ∥∥₁_map c.requires.some (λ q. (q.0, (c.loop-t.invariant.marking q.0 q.1).0.marking))

pub loop-t-init : goal.loop-t-init
loop-t-init g c = record {
  sound = c.requires.sound;
  base = refl;
  reads = omega arith;
  marking = λ h mk. (stays _ h _ _ mk, λ j lt. absurd (omega (arith, lt)));
}

pub loop-t-preserved : goal.loop-t-preserved
loop-t-preserved g c = record {
  sound = c.mark_stack-count.ensures.sound;
  base = c.mark_stack-count.ensures.base ∙ c.loop-t.invariant.base;
  reads = ∥∥₁_elim c.requires.some (hlevel props) (λ q.
      let m = c.args.map in
      let old = contents m (g.W.Words.words c.args.words.now) in
      let mid = contents m (g.W.Words.words c.loop-t.words) in
      let now = c.loop-t.invariant.marking q.0 q.1 in
      let more = sum_next (λ (st : List ℕ). length st) old.stacks c.loop-t.t [] refl in
      let own : length (stack_of mid (c.loop-t.t + 1)) ≡ length (get_or old.stacks c.loop-t.t []) = ap (λ (ss : List (List ℕ)). length (get_or ss (c.loop-t.t + 1 - 1) [])) (stacks_now m q.0 old mid q.1.among now.0.marking.among) ∙ ap (λ k. length (get_or old.stacks k [])) (omega arith) in
      omega (arith, c.mark_stack-count.ensures.reads, c.loop-t.invariant.reads, more, own));
  marking = λ h mk.
      let now = c.loop-t.invariant.marking h mk in
      let next = c.mark_stack-count.ensures.marking h now.0.marking in
      let new = contents c.args.map (g.W.Words.words c.mark_stack-count.new.words) in
      let e : c.loop-t.t + 1 - 1 ≡ c.loop-t.t = omega arith in
      (then_on _ h _ _ _ _ _ _ now.0 next.0, below_more (IsStackMarked h new) c.loop-t.t (λ k lt. stack_still h _ _ _ _ k next.0.grows (now.1 k lt)) (subst (IsStackMarked h new) e next.1));
}

pub returns-clause-marking : goal.returns-clause-marking
returns-clause-marking g c h mk =
    let now = c.loop-t.invariant.marking h mk in
    (now.0, λ k lt. now.1 k (omega arith))

pub returns-clause-reads : goal.returns-clause-reads
returns-clause-reads g c =
    let all = sum_by-take-le (λ (st : List ℕ). length st) (contents c.args.map (g.W.Words.words c.args.words.now)).stacks c.loop-t.t in
    omega (arith, c.loop-t.invariant.reads, all)
