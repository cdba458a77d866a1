use Rattle.std.proofs.Common.{◌≡◌, ◌-◌, ◌*◌, ◌+◌, ◌<◌, arith, sym, ap, ◌∙◌, List, ℕ, subst, get_or}
use Rattle.heap_words.specs.Map.{heap_length}
use Rattle.relocation.specs.Moves.{heap_of, scratch_of, move_at}
use Rattle.relocation.specs.declared.plans.TheConstants.{MOVE_WORDS}
use Rattle.relocation.proofs.Corrected.{place-stays, place-moves}
use Rattle.relocation.proofs.Planned.{move_at-old, move_at-new}
use Rattle.relocation.proofs.corrections.new_place.Goals as goal

pub returns-then-index-eq0-clause-place : goal.returns-then-index-eq0-clause-place
returns-then-index-eq0-clause-place g c =
    let m = c.args.map in
    let was = g.W.Words.words c.args.words.now in
    sym (place-stays m (heap_of m was) c.args.plan.now.count (move_at (scratch_of m was)) c.args.a c.requires.plan (λ k lt e o. omega (arith, e, c.get_heap-index.ensures.value)))

pub returns-then-index-plan-clause-place : goal.returns-then-index-plan-clause-place
returns-then-index-plan-clause-place g c =
    let m = c.args.map in
    let was = g.W.Words.words c.args.words.now in
    sym (place-stays m (heap_of m was) c.args.plan.now.count (move_at (scratch_of m was)) c.args.a c.requires.plan (λ k lt e o. omega (arith, e, c.get_heap-index.ensures.value)))

pub returns-then-old-a-clause-place : goal.returns-then-old-a-clause-place
returns-then-old-a-clause-place g c =
    let m = c.args.map in
    let was = g.W.Words.words c.args.words.now in
    let k : ℕ = c.get_heap-index.result - 1 in
    let v : (move_at (scratch_of m was) k).old ≡ c.get_scratch-old.result = move_at-old (scratch_of m was) k ∙ ap (λ (ws : List ℕ). get_or (scratch_of m ws) (MOVE_WORDS * k) 0) (sym c.get_heap-index.ensures.words) ∙ sym c.get_scratch-old.ensures.value in
    sym (place-stays m (heap_of m was) c.args.plan.now.count (move_at (scratch_of m was)) c.args.a c.requires.plan (λ j lt e o.
    let same : j ≡ k = omega (arith, e, c.get_heap-index.ensures.value) in
    c.if-old-a.true (sym v ∙ subst (λ i. (move_at (scratch_of m was) i).old ≡ c.args.a) same o)))

pub returns-clause-place : goal.returns-clause-place
returns-clause-place g c =
    let m = c.args.map in
    let was = g.W.Words.words c.args.words.now in
    let k : ℕ = c.get_heap-index.result - 1 in
    let v : (move_at (scratch_of m was) k).old ≡ c.get_scratch-old.result = move_at-old (scratch_of m was) k ∙ ap (λ (ws : List ℕ). get_or (scratch_of m ws) (MOVE_WORDS * k) 0) (sym c.get_heap-index.ensures.words) ∙ sym c.get_scratch-old.ensures.value in
    let new : (move_at (scratch_of m was) k).new ≡ c.get_scratch.result = move_at-new (scratch_of m was) k ∙ ap (λ (ws : List ℕ). get_or (scratch_of m ws) (MOVE_WORDS * k + 1) 0) (sym (c.get_scratch-old.ensures.words ∙ c.get_heap-index.ensures.words)) ∙ sym c.get_scratch.ensures.value in
    sym (place-moves m (heap_of m was) c.args.plan.now.count (move_at (scratch_of m was)) c.args.a k c.requires.plan (omega arith) (v ∙ c.if-old-a.false) ∙ new)

pub returns-clause-within : goal.returns-clause-within
returns-clause-within g c =
    let m = c.args.map in
    let was = g.W.Words.words c.args.words.now in
    let k : ℕ = c.get_heap-index.result - 1 in
    let lt : k < c.args.plan.now.count = omega arith in
    let new : (move_at (scratch_of m was) k).new ≡ c.get_scratch.result = move_at-new (scratch_of m was) k ∙ ap (λ (ws : List ℕ). get_or (scratch_of m ws) (MOVE_WORDS * k + 1) 0) (sym (c.get_scratch-old.ensures.words ∙ c.get_heap-index.ensures.words)) ∙ sym c.get_scratch.ensures.value in
    subst (λ n. n < heap_length m) new (c.requires.plan.within k lt).1
