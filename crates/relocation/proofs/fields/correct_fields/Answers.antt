use Rattle.std.proofs.Common.{◌≡◌, ◌<◌, ◌+◌, arith, set, get_or, subst, sym, ap, ◌∙◌, List, ℕ, length, inr}
use Rattle.std.proofs.Math.Logic.{⊎_elim}
use Rattle.heap_words.specs.Contents.{Contents}
use Rattle.relocation.specs.Moves.{scratch_of}
use Rattle.heap_words.proofs.Contents.{length-heap}
use Rattle.relocation.specs.Moves.{heap_of, move_at, Numbered, corrected_word}
use Rattle.yak_model.specs.Plans.{forward}
use Rattle.relocation.proofs.Heap.{only_heap-set, only_heap-then, only_heap-scratch}
use Rattle.relocation.specs.Fields.{FieldsCorrected}
use Rattle.relocation.proofs.FieldSteps.{fields-more}
use Rattle.relocation.proofs.fields.correct_fields.Goals as goal
use Rattle.relocation.proofs.Planned.{numbered-kept}

pub correct_field-requires-clause-reference : goal.correct_field-requires-clause-reference
correct_field-requires-clause-reference g c b e =
    let out = c.loop-f.invariant.fields.outside (c.args.a + c.loop-f.f) (inr (omega arith)) in
    c.requires.lead (c.args.a + c.loop-f.f) b (omega arith) (omega (arith, c.object_size-size.ensures.size)) (sym out ∙ e)

pub loop-f-preserved : goal.loop-f-preserved
loop-f-preserved g c =
    let m = c.args.map in
    let was = g.W.Words.words c.args.words.now in
    let now = g.W.Words.words c.loop-f.words in
    let next = g.W.Words.words c.correct_field.new.words in
    let a = c.args.a in
    let n = c.loop-f.f in
    let count = c.args.plan.now.count in
    let inv = c.loop-f.invariant in
    let scratch : scratch_of m now ≡ scratch_of m was = (only_heap-scratch m was now inv.only_heap) in
    let f = forward count (move_at (scratch_of m was)) in
    let v : ℕ = corrected_word f (get_or (heap_of m now) (a + n) 0) in
    let heap : heap_of m next ≡ set (heap_of m now) (a + n) v = ap (λ (x : Contents). x.heap) c.correct_field.ensures.set ∙ ap (λ (s : List ℕ). set (heap_of m now) (a + n) (corrected_word (forward count (move_at s)) (get_or (heap_of m now) (a + n) 0))) scratch in
    let within : a + n < length (heap_of m now) = omega (arith, length-heap m now inv.sound.whole, c.requires.within, c.object_size-size.ensures.size) in
    let size = c.object_size-size.ensures.size in
    record {
      fields = subst (λ (h : List ℕ). FieldsCorrected f (heap_of m was) h a (n + 1)) (sym heap) (fields-more f (heap_of m was) (heap_of m now) a n inv.fields (omega arith) within);
      only_heap = only_heap-then m was now next inv.only_heap (only_heap-set m now next (a + n) _ c.correct_field.ensures.set);
      plan = subst (λ (h : List ℕ). Numbered m h count (move_at (scratch_of m was))) (sym heap) (numbered-kept m (heap_of m now) count (move_at (scratch_of m was)) (a + n) v inv.plan (λ k lt e. ⊎_elim (λ low. omega (arith, low, e)) (λ high. omega (arith, high, e, size)) (c.requires.beside k lt)));
      sound = c.correct_field.ensures.sound;
      reads = omega (arith, inv.reads, c.correct_field.ensures.reads);
      base = c.correct_field.ensures.base ∙ inv.base;
    }
