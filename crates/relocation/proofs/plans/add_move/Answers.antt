use Rattle.std.proofs.Common.{get_or, ◌≡◌, ◌<◌, ◌+◌, ◌*◌, arith, set, length, subst, sym, ap, ◌∙◌, List, ℕ}
use Rattle.heap_words.specs.Contents.{Contents, contents}
use Rattle.heap_words.proofs.Contents.{length-heap, length-scratch}
use Rattle.relocation.specs.declared.plans.TheConstants.{MOVE_WORDS}
use Rattle.relocation.specs.Moves.{heap_of, scratch_of, move_at, Numbered}
use Rattle.relocation.proofs.Planned.{with_move, with_move-past, move_at-added, move_at-former, numbered-more}
use Rattle.relocation.proofs.plans.add_move.Goals as goal

pub returns-clause-added : goal.returns-clause-added
returns-clause-added g c =
    let m = c.args.map in
    let was = g.W.Words.words c.args.words.now in
    let next = g.W.Words.words c.set_heap.new.words in
    let k = c.args.plan.now.count in
    let s : List ℕ = scratch_of m was in
    let e : contents m next ≡ (let x = contents m was in record x { scratch = with_move s k c.args.old.0 c.args.new.0 c.index_of.result; heap = set x.heap (c.args.old.0 + 2) (k + 1) }) = rw (c.set_heap.ensures.set, c.set_scratch-3.ensures.set, c.set_scratch-2.ensures.set, c.set_scratch.ensures.set) in
    let within : MOVE_WORDS * k + 2 < length s = omega (arith, length-scratch m was c.requires.sound.whole, c.requires.room) in
    ap (λ (x : Contents). move_at x.scratch k) e ∙ move_at-added s k c.args.old.0 c.args.new.0 c.index_of.result c.args.space within c.index_of.ensures.read_back

pub returns-clause-former : goal.returns-clause-former
returns-clause-former g c j lt =
    let m = c.args.map in
    let was = g.W.Words.words c.args.words.now in
    let next = g.W.Words.words c.set_heap.new.words in
    let k = c.args.plan.now.count in
    let s : List ℕ = scratch_of m was in
    let e : contents m next ≡ (let x = contents m was in record x { scratch = with_move s k c.args.old.0 c.args.new.0 c.index_of.result; heap = set x.heap (c.args.old.0 + 2) (k + 1) }) = rw (c.set_heap.ensures.set, c.set_scratch-3.ensures.set, c.set_scratch-2.ensures.set, c.set_scratch.ensures.set) in
    ap (λ (x : Contents). move_at x.scratch j) e ∙ move_at-former s k c.args.old.0 c.args.new.0 c.index_of.result j lt

pub returns-clause-others : goal.returns-clause-others
returns-clause-others g c i past =
    let m = c.args.map in
    let was = g.W.Words.words c.args.words.now in
    let next = g.W.Words.words c.set_heap.new.words in
    let k = c.args.plan.now.count in
    let s : List ℕ = scratch_of m was in
    let e : contents m next ≡ (let x = contents m was in record x { scratch = with_move s k c.args.old.0 c.args.new.0 c.index_of.result; heap = set x.heap (c.args.old.0 + 2) (k + 1) }) = rw (c.set_heap.ensures.set, c.set_scratch-3.ensures.set, c.set_scratch-2.ensures.set, c.set_scratch.ensures.set) in
    ap (λ (x : Contents). get_or x.scratch i 0) e ∙ with_move-past s k c.args.old.0 c.args.new.0 c.index_of.result i past

pub returns-clause-marked : goal.returns-clause-marked
returns-clause-marked g c =
    let m = c.args.map in
    let was = g.W.Words.words c.args.words.now in
    let next = g.W.Words.words c.set_heap.new.words in
    let k = c.args.plan.now.count in
    let s : List ℕ = scratch_of m was in
    let e : contents m next ≡ (let x = contents m was in record x { scratch = with_move s k c.args.old.0 c.args.new.0 c.index_of.result; heap = set x.heap (c.args.old.0 + 2) (k + 1) }) = rw (c.set_heap.ensures.set, c.set_scratch-3.ensures.set, c.set_scratch-2.ensures.set, c.set_scratch.ensures.set) in
    e ∙ ap (λ (y : List ℕ). (let x = contents m was in record x { scratch = y; heap = set x.heap (c.args.old.0 + 2) (k + 1) })) (sym (ap (λ (x : Contents). x.scratch) e))

pub returns-clause-plan : goal.returns-clause-plan
returns-clause-plan g c =
    let m = c.args.map in
    let was = g.W.Words.words c.args.words.now in
    let next = g.W.Words.words c.set_heap.new.words in
    let k = c.args.plan.now.count in
    let old = c.args.old.0 in
    let new = c.args.new.0 in
    let s : List ℕ = scratch_of m was in
    let e : contents m next ≡ (let x = contents m was in record x { scratch = with_move s k old new c.index_of.result; heap = set x.heap (old + 2) (k + 1) }) = rw (c.set_heap.ensures.set, c.set_scratch-3.ensures.set, c.set_scratch-2.ensures.set, c.set_scratch.ensures.set) in
    let within : MOVE_WORDS * k + 2 < length s = omega (arith, length-scratch m was c.requires.sound.whole, c.requires.room) in
    let added : move_at (scratch_of m next) k ≡ record { old = old; new = new; space = c.args.space } = ap (λ (x : Contents). move_at x.scratch k) e ∙ move_at-added s k old new c.index_of.result c.args.space within c.index_of.ensures.read_back in
    let former : (j : ℕ) → j < k → move_at (scratch_of m next) j ≡ move_at s j = λ j lt. ap (λ (x : Contents). move_at x.scratch j) e ∙ move_at-former s k old new c.index_of.result j lt in
    let heap : heap_of m next ≡ set (heap_of m was) (old + 2) (k + 1) = ap (λ (x : Contents). x.heap) e in
    subst (λ (h : List ℕ). Numbered m h (k + 1) (move_at (scratch_of m next))) (sym heap) (numbered-more m (heap_of m was) k old new c.args.space (move_at s) (move_at (scratch_of m next)) c.requires.plan c.requires.room c.requires.ascending c.requires.within.0 c.requires.within.1 (length-heap m was c.requires.sound.whole) former added)
