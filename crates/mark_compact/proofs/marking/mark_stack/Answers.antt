use Rattle.std.proofs.Props.{props}
use Rattle.std.proofs.Math.Logic.{∥∥₁_elim, ∥∥₁_map}
use Rattle.std.proofs.Common.{◌≡◌, ◌<◌, ◌-◌, arith, ap, ◌∙◌, get_or, length, subst, []}
use Rattle.heap_words.specs.Contents.{contents}
use Rattle.mark_compact.specs.Marking.{Marking, GoesOn, IsFollowed, IsLead}
use Rattle.mark_compact.proofs.Follows.{stays}
use Rattle.mark_compact.proofs.Scans.{then_on}
use Rattle.mark_compact.proofs.Stacks.{slot_lead, slot_more, stack_marked}
use Rattle.heap_walks.proofs.Stacks.{stack_size, slot_word}
use Rattle.mark_compact.proofs.marking.mark_stack.Goals as goal

pub get_stack-word-requires-clause-within : goal.get_stack-word-requires-clause-within
get_stack-word-requires-clause-within g c =
    ∥∥₁_elim c.requires.some (hlevel props) (λ q.
    let now = c.loop-s.invariant.marking q.0 q.1 in
    let n = stack_size _ q.0 _ c.args.thread q.1.among in
    let n' = stack_size _ q.0 _ c.args.thread now.0.marking.among in
    omega (arith, n, n', c.stack_length-length.ensures.value))

pub mark_reference-count-requires-clause-some : goal.mark_reference-count-requires-clause-some
mark_reference-count-requires-clause-some g c =
    rw c.get_stack-word.ensures.words (∥∥₁_map c.requires.some (λ q.
    let now = c.loop-s.invariant.marking q.0 q.1 in
    let n = stack_size _ q.0 _ c.args.thread q.1.among in
    let lt : c.loop-s.s < length (get_or q.0.state.stacks (c.args.thread - 1) []) = omega (arith, n, c.stack_length-length.ensures.value) in
    (q.0, now.0.marking, slot_lead _ q.0 _ c.args.thread c.loop-s.s _ now.0.marking.among lt c.get_stack-word.ensures.value)))

pub loop-s-init : goal.loop-s-init
loop-s-init g c = record {
  sound = rw c.stack_length-length.ensures.words c.requires.sound;
  base = c.stack_length-length.ensures.base;
  reads = omega (arith, c.stack_length-length.ensures.reads);
  marking = λ h mk. rw c.stack_length-length.ensures.words (stays _ h _ _ mk, λ j lt. absurd (omega (arith, lt)));
}

pub loop-s-preserved : goal.loop-s-preserved
loop-s-preserved g c = record {
  sound = c.mark_reference-count.ensures.sound;
  base = c.mark_reference-count.ensures.base ∙ c.get_stack-word.ensures.base ∙ c.loop-s.invariant.base;
  reads = omega (arith, c.mark_reference-count.ensures.reads, c.get_stack-word.ensures.reads, c.loop-s.invariant.reads);
  marking = λ h mk.
      let m = c.args.map in
      let old = contents m (g.W.Words.words c.args.words.now) in
      let mid = contents m (g.W.Words.words c.loop-s.words) in
      let new = contents m (g.W.Words.words c.mark_reference-count.new.words) in
      let now = c.loop-s.invariant.marking h mk in
      let n = stack_size _ h _ c.args.thread mk.among in
      let lt : c.loop-s.s < length (get_or h.state.stacks (c.args.thread - 1) []) = omega (arith, n, c.stack_length-length.ensures.value) in
      let lead : IsLead h c.get_stack-word.result = slot_lead _ h _ c.args.thread c.loop-s.s _ now.0.marking.among lt c.get_stack-word.ensures.value in
      let e = c.get_stack-word.ensures.value ∙ slot_word _ h _ c.args.thread c.loop-s.s now.0.marking.among in
      let same : contents m (g.W.Words.words c.get_stack-word.new.words) ≡ mid = ap (contents m) c.get_stack-word.ensures.words in
      let next : GoesOn m h mid c.loop-s.count new c.mark_reference-count.result × IsFollowed h new c.get_stack-word.result =
      subst (λ x. Marking m h x c.loop-s.count → IsLead h c.get_stack-word.result → GoesOn m h x c.loop-s.count new c.mark_reference-count.result × IsFollowed h new c.get_stack-word.result) same (c.mark_reference-count.ensures.marking h) now.0.marking lead in
      (then_on m h old mid new c.args.count c.loop-s.count c.mark_reference-count.result now.0 next.0, slot_more h mid new _ _ (c.args.thread - 1) c.loop-s.s _ next.0.grows e now.1 next.1);
}

pub returns-clause-marking : goal.returns-clause-marking
returns-clause-marking g c h mk =
    let now = c.loop-s.invariant.marking h mk in
    let n = stack_size _ h _ c.args.thread mk.among in
    (now.0, stack_marked h (contents c.args.map (g.W.Words.words c.loop-s.words)) (c.args.thread - 1) c.loop-s.s (omega (arith, n, c.stack_length-length.ensures.value)) now.1)

pub returns-clause-reads : goal.returns-clause-reads
returns-clause-reads g c = omega (arith, c.loop-s.invariant.reads, c.stack_length-length.ensures.value)
