use Rattle.std.proofs.Common.{◌≡◌, ◌<◌, ◌+◌, ◌-◌, arith, set, get_or, length, subst, sym, ◌∙◌, List, ℕ}
use Rattle.heap_words.proofs.Contents.{length-heap}
use Rattle.relocation.specs.Moves.{heap_of, RunCopied}
use Rattle.relocation.proofs.Heap.{heap-set, only_heap-step, only_heap-then}
use Rattle.relocation.proofs.Runs.{run-before}
use Rattle.relocation.proofs.moves.copy_up.Goals as goal

pub loop-i-preserved : goal.loop-i-preserved
loop-i-preserved g c =
    let m = c.args.map in
    let was = g.W.Words.words c.args.words.now in
    let now = g.W.Words.words c.loop-i.words in
    let read = g.W.Words.words c.get_heap-word.new.words in
    let next = g.W.Words.words c.set_heap.new.words in
    let i : ℕ = c.loop-i.i - 1 in
    let up : c.loop-i.i ≡ i + 1 = omega arith in
    let rest : c.args.count - i ≡ (c.args.count - c.loop-i.i) + 1 = omega arith in
    let e : heap_of m next ≡ set (heap_of m now) (c.args.to + i) (get_or (heap_of m now) (c.args.from + i) 0) = heap-set m now read next (c.args.to + i) c.get_heap-word.result _ c.get_heap-word.ensures.words c.set_heap.ensures.set c.get_heap-word.ensures.value in
    let within : c.args.to + i < length (heap_of m now) = omega (arith, length-heap m now c.loop-i.invariant.sound.whole) in
    let from_up : c.args.from + c.loop-i.i ≡ (c.args.from + i) + 1 = omega arith in
    let to_up : c.args.to + c.loop-i.i ≡ (c.args.to + i) + 1 = omega arith in
    let old : RunCopied (heap_of m was) (heap_of m now) ((c.args.from + i) + 1) ((c.args.to + i) + 1) (c.args.count - c.loop-i.i) = subst (λ a. RunCopied (heap_of m was) (heap_of m now) a ((c.args.to + i) + 1) (c.args.count - c.loop-i.i)) from_up (subst (λ a. RunCopied (heap_of m was) (heap_of m now) (c.args.from + c.loop-i.i) a (c.args.count - c.loop-i.i)) to_up c.loop-i.invariant.run) in
    record {
      run = subst (λ (h : List ℕ). RunCopied (heap_of m was) h (c.args.from + i) (c.args.to + i) (c.args.count - i)) (sym e) (subst (λ k. RunCopied (heap_of m was) (set (heap_of m now) (c.args.to + i) (get_or (heap_of m now) (c.args.from + i) 0)) (c.args.from + i) (c.args.to + i) k) (sym rest) (run-before (heap_of m was) (heap_of m now) (c.args.from + i) (c.args.to + i) (c.args.count - c.loop-i.i) old (omega arith) within));
      only_heap = only_heap-then m was now next c.loop-i.invariant.only_heap (only_heap-step m now read next (c.args.to + i) c.get_heap-word.result c.get_heap-word.ensures.words c.set_heap.ensures.set);
      sound = c.set_heap.ensures.sound;
      reads = omega (arith, c.loop-i.invariant.reads, c.get_heap-word.ensures.reads, c.set_heap.ensures.reads);
      base = c.set_heap.ensures.base ∙ (c.get_heap-word.ensures.base ∙ c.loop-i.invariant.base);
    }
