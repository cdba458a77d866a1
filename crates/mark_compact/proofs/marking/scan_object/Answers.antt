use Rattle.std.proofs.Props.{props}
use Rattle.std.proofs.Math.Logic.{∥∥₁_elim, ∥∥₁_map}
use Rattle.std.proofs.Common.{◌≡◌, ◌<◌, arith, ap, ◌∙◌, length, subst}
use Rattle.heap_words.specs.Contents.{contents}
use Rattle.mark_compact.specs.Marking.{Marking, GoesOn, IsFollowed, IsLead}
use Rattle.mark_compact.proofs.Follows.{stays, alive_fits}
use Rattle.mark_compact.proofs.Scans.{then_on, followed_more, counted, field_word, field_lead, scanned}
use Rattle.mark_compact.proofs.marking.scan_object.Goals as goal

pub get_heap-requires-clause-within : goal.get_heap-requires-clause-within
get_heap-requires-clause-within g c =
    ∥∥₁_elim c.requires.some (hlevel props) (λ q. let b = alive_fits _ q.0 _ _ _ q.1 q.2 in omega (arith, b))

pub overflow_add-a : goal.overflow_add-a
overflow_add-a g c =
    ∥∥₁_elim c.requires.some (hlevel props) (λ q. let b = alive_fits _ q.0 _ _ _ q.1 q.2 in let areas = c.requires.sound.areas in omega (arith, b, areas))

pub overflow_add-a-in-loop-f : goal.overflow_add-a-in-loop-f
overflow_add-a-in-loop-f g c =
    ∥∥₁_elim c.requires.some (hlevel props) (λ q.
    let b = alive_fits _ q.0 _ _ _ q.1 q.2 in
    let n : c.field_count-fields.result ≡ length q.2.object.fields = counted _ q.0 _ _ _ _ q.1 q.2 (λ f s hf hs e. c.field_count-fields.ensures.fields f s hf hs (c.get_heap.ensures.value ∙ e)) in
    let areas = c.requires.sound.areas in
    omega (arith, b, n, areas))

pub get_heap-word-requires-clause-within : goal.get_heap-word-requires-clause-within
get_heap-word-requires-clause-within g c =
    ∥∥₁_elim c.requires.some (hlevel props) (λ q.
    let b = alive_fits _ q.0 _ _ _ q.1 q.2 in
    let n : c.field_count-fields.result ≡ length q.2.object.fields = counted _ q.0 _ _ _ _ q.1 q.2 (λ f s hf hs e. c.field_count-fields.ensures.fields f s hf hs (c.get_heap.ensures.value ∙ e)) in
    omega (arith, b, n))

pub mark_reference-count-requires-clause-some : goal.mark_reference-count-requires-clause-some
mark_reference-count-requires-clause-some g c =
    rw c.get_heap-word.ensures.words (∥∥₁_map c.requires.some (λ q.
    let n : c.field_count-fields.result ≡ length q.2.object.fields = counted _ q.0 _ _ _ _ q.1 q.2 (λ f s hf hs e. c.field_count-fields.ensures.fields f s hf hs (c.get_heap.ensures.value ∙ e)) in
    let now = c.loop-f.invariant.marking q.0 q.1 q.2 in
    (q.0, now.0.marking, field_lead _ q.0 _ _ _ c.loop-f.f _ now.0.marking q.2 (omega (arith, n)) c.get_heap-word.ensures.value)))

pub loop-f-init : goal.loop-f-init
loop-f-init g c = record {
  sound = rw c.get_heap.ensures.words c.requires.sound;
  base = c.get_heap.ensures.base;
  reads = omega (arith, c.get_heap.ensures.reads);
  marking = λ h mk al. rw c.get_heap.ensures.words (stays _ h _ _ mk, λ j lt. absurd (omega (arith, lt)));
}

pub loop-f-preserved : goal.loop-f-preserved
loop-f-preserved g c = record {
  sound = c.mark_reference-count.ensures.sound;
  base = c.mark_reference-count.ensures.base ∙ c.get_heap-word.ensures.base ∙ c.loop-f.invariant.base;
  reads = omega (arith, c.mark_reference-count.ensures.reads, c.get_heap-word.ensures.reads, c.loop-f.invariant.reads);
  marking = λ h mk al.
      let n : c.field_count-fields.result ≡ length al.object.fields = counted _ h _ _ _ _ mk al (λ f s hf hs e. c.field_count-fields.ensures.fields f s hf hs (c.get_heap.ensures.value ∙ e)) in
      let now = c.loop-f.invariant.marking h mk al in
      let lt : c.loop-f.f < length al.object.fields = omega (arith, n) in
      let lead : IsLead h c.get_heap-word.result = field_lead _ h _ _ _ c.loop-f.f _ now.0.marking al lt c.get_heap-word.ensures.value in
      let e = c.get_heap-word.ensures.value ∙ field_word _ h _ _ _ c.loop-f.f now.0.marking al lt in
      let m = c.args.map in
      let old = contents m (g.W.Words.words c.args.words.now) in
      let mid = contents m (g.W.Words.words c.loop-f.words) in
      let new = contents m (g.W.Words.words c.mark_reference-count.new.words) in
      let same : contents m (g.W.Words.words c.get_heap-word.new.words) ≡ mid = ap (contents m) c.get_heap-word.ensures.words in
      let next : GoesOn m h mid c.loop-f.count new c.mark_reference-count.result × IsFollowed h new c.get_heap-word.result =
      subst (λ x. Marking m h x c.loop-f.count → IsLead h c.get_heap-word.result → GoesOn m h x c.loop-f.count new c.mark_reference-count.result × IsFollowed h new c.get_heap-word.result) same (c.mark_reference-count.ensures.marking h) now.0.marking lead in
      (then_on m h old mid new c.args.count c.loop-f.count c.mark_reference-count.result now.0 next.0, followed_more h mid new _ _ c.args.a c.loop-f.f _ al next.0.grows e now.1 next.1);
}

pub returns-clause-marking : goal.returns-clause-marking
returns-clause-marking g c h mk al =
    let n : c.field_count-fields.result ≡ length al.object.fields = counted _ h _ _ _ _ mk al (λ f s hf hs e. c.field_count-fields.ensures.fields f s hf hs (c.get_heap.ensures.value ∙ e)) in
    let now = c.loop-f.invariant.marking h mk al in
    (now.0, scanned _ h _ _ _ c.loop-f.f now.0.marking al (omega (arith, n)) now.1)

pub returns-clause-reads : goal.returns-clause-reads
returns-clause-reads g c h mk al =
    let n : c.field_count-fields.result ≡ length al.object.fields = counted _ h _ _ _ _ mk al (λ f s hf hs e. c.field_count-fields.ensures.fields f s hf hs (c.get_heap.ensures.value ∙ e)) in
    omega (arith, n, c.loop-f.invariant.reads)
