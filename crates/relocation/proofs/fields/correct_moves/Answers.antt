use Rattle.std.proofs.Common.{◌≡◌, ◌≤◌, ◌<◌, ◌+◌, ◌⊎◌, ◌*◌, arith, subst, sym, ap, ◌∙◌, List, ℕ}
use Rattle.heap_words.specs.Map.{heap_length}
use Rattle.relocation.specs.Moves.{scratch_of}
use Rattle.yak_model.specs.Plans.{Move}
use Rattle.relocation.specs.Moves.{heap_of, move_at, size_at, HasHeader, OnlyHeap, Numbered}
use Rattle.yak_model.specs.Plans.{forward}
use Rattle.relocation.proofs.Moving.{words_moved-more}
use Rattle.relocation.proofs.Heap.{only_heap-then, only_heap-scratch}
use Rattle.relocation.specs.Fields.{FieldsCorrected, LeadWithin}
use Rattle.relocation.proofs.FieldSteps.{next-size, next-header, next-lead, next-beside, moves-more}
use Rattle.relocation.proofs.fields.correct_moves.Goals as goal

pub correct_fields-requires-clause-header : goal.correct_fields-requires-clause-header
correct_fields-requires-clause-header g c =
    let m = c.args.map in
    let was = g.W.Words.words c.args.words.now in
    let now = g.W.Words.words c.loop-k.words in
    let k = c.loop-k.k in
    let inv = c.loop-k.invariant in
    let moves = move_at (scratch_of m was) in
    let old : c.read_move-v.result.old ≡ (moves k).old = ap (λ (v : Move). v.old) (c.read_move-v.ensures.read ∙ ap (λ (s : List ℕ). move_at s k) (only_heap-scratch m was now inv.only_heap)) in
    let h = next-header m (forward c.args.plan.now.count moves) (heap_of m was) (heap_of m now) c.args.plan.now.count k moves c.requires.lined inv.fields c.loop-k-test.true in
    subst (λ (ws : List ℕ). HasHeader (heap_of m ws) c.read_move-v.result.old) (sym c.read_move-v.ensures.words) (subst (HasHeader (heap_of m now)) (sym old) h)

pub correct_fields-requires-clause-within : goal.correct_fields-requires-clause-within
correct_fields-requires-clause-within g c =
    let m = c.args.map in
    let was = g.W.Words.words c.args.words.now in
    let now = g.W.Words.words c.loop-k.words in
    let k = c.loop-k.k in
    let inv = c.loop-k.invariant in
    let moves = move_at (scratch_of m was) in
    let old : c.read_move-v.result.old ≡ (moves k).old = ap (λ (v : Move). v.old) (c.read_move-v.ensures.read ∙ ap (λ (s : List ℕ). move_at s k) (only_heap-scratch m was now inv.only_heap)) in
    let size = next-size m (forward c.args.plan.now.count moves) (heap_of m was) (heap_of m now) c.args.plan.now.count k moves c.requires.lined inv.fields c.loop-k-test.true in
    let w = c.requires.lined.within k c.loop-k-test.true in
    let h : (moves k).old + size_at (heap_of m now) (moves k).old ≤ heap_length m = omega (arith, w, size) in
    subst (λ (ws : List ℕ). c.read_move-v.result.old + size_at (heap_of m ws) c.read_move-v.result.old ≤ heap_length m) (sym c.read_move-v.ensures.words) (subst (λ a. a + size_at (heap_of m now) a ≤ heap_length m) (sym old) h)

pub correct_fields-requires-clause-lead : goal.correct_fields-requires-clause-lead
correct_fields-requires-clause-lead g c =
    let m = c.args.map in
    let was = g.W.Words.words c.args.words.now in
    let now = g.W.Words.words c.loop-k.words in
    let k = c.loop-k.k in
    let inv = c.loop-k.invariant in
    let moves = move_at (scratch_of m was) in
    let old : c.read_move-v.result.old ≡ (moves k).old = ap (λ (v : Move). v.old) (c.read_move-v.ensures.read ∙ ap (λ (s : List ℕ). move_at s k) (only_heap-scratch m was now inv.only_heap)) in
    let h = next-lead m (forward c.args.plan.now.count moves) (heap_of m was) (heap_of m now) c.args.plan.now.count k moves c.requires.lined inv.fields c.loop-k-test.true in
    subst (λ (ws : List ℕ). LeadWithin m (heap_of m ws) (c.read_move-v.result.old + 3) (c.read_move-v.result.old + size_at (heap_of m ws) c.read_move-v.result.old)) (sym c.read_move-v.ensures.words) (subst (λ a. LeadWithin m (heap_of m now) (a + 3) (a + size_at (heap_of m now) a)) (sym old) h)

pub correct_fields-requires-clause-beside : goal.correct_fields-requires-clause-beside
correct_fields-requires-clause-beside g c =
    let m = c.args.map in
    let was = g.W.Words.words c.args.words.now in
    let now = g.W.Words.words c.loop-k.words in
    let k = c.loop-k.k in
    let inv = c.loop-k.invariant in
    let count = c.args.plan.now.count in
    let moves = move_at (scratch_of m was) in
    let old : c.read_move-v.result.old ≡ (moves k).old = ap (λ (v : Move). v.old) (c.read_move-v.ensures.read ∙ ap (λ (s : List ℕ). move_at s k) (only_heap-scratch m was now inv.only_heap)) in
    let h = next-beside m (forward count moves) (heap_of m was) (heap_of m now) count k moves c.requires.lined inv.fields c.loop-k-test.true in
    subst (λ (ws : List ℕ). (j : ℕ) → j < count → ((move_at (scratch_of m ws) j).old + 2 < c.read_move-v.result.old + 3) ⊎ (c.read_move-v.result.old + size_at (heap_of m ws) c.read_move-v.result.old ≤ (move_at (scratch_of m ws) j).old + 2)) (sym c.read_move-v.ensures.words)
    (subst (λ (s : List ℕ). (j : ℕ) → j < count → ((move_at s j).old + 2 < c.read_move-v.result.old + 3) ⊎ (c.read_move-v.result.old + size_at (heap_of m now) c.read_move-v.result.old ≤ (move_at s j).old + 2)) (sym (only_heap-scratch m was now inv.only_heap))
    (subst (λ a. (j : ℕ) → j < count → ((moves j).old + 2 < a + 3) ⊎ (a + size_at (heap_of m now) a ≤ (moves j).old + 2)) (sym old) h))

pub loop-k-preserved : goal.loop-k-preserved
loop-k-preserved g c =
    let m = c.args.map in
    let was = g.W.Words.words c.args.words.now in
    let now = g.W.Words.words c.loop-k.words in
    let read = g.W.Words.words c.read_move-v.new.words in
    let next = g.W.Words.words c.correct_fields.new.words in
    let k = c.loop-k.k in
    let inv = c.loop-k.invariant in
    let count = c.args.plan.now.count in
    let moves = move_at (scratch_of m was) in
    let old : c.read_move-v.result.old ≡ (moves k).old = ap (λ (v : Move). v.old) (c.read_move-v.ensures.read ∙ ap (λ (s : List ℕ). move_at s k) (only_heap-scratch m was now inv.only_heap)) in
    let scratch : scratch_of m read ≡ scratch_of m was = ap (scratch_of m) c.read_move-v.ensures.words ∙ (only_heap-scratch m was now inv.only_heap) in
    let one : FieldsCorrected (forward count moves) (heap_of m now) (heap_of m next) (moves k).old (size_at (heap_of m now) (moves k).old) =
    subst (λ a. FieldsCorrected (forward count moves) (heap_of m now) (heap_of m next) a (size_at (heap_of m now) a)) old
    (subst (λ (ws : List ℕ). FieldsCorrected (forward count moves) (heap_of m ws) (heap_of m next) c.read_move-v.result.old (size_at (heap_of m ws) c.read_move-v.result.old)) c.read_move-v.ensures.words
    (subst (λ (s : List ℕ). FieldsCorrected (forward count (move_at s)) (heap_of m read) (heap_of m next) c.read_move-v.result.old (size_at (heap_of m read) c.read_move-v.result.old)) scratch c.correct_fields.ensures.fields)) in
    let size : size_at (heap_of m now) (moves k).old ≡ size_at (heap_of m was) (moves k).old = next-size m (forward count moves) (heap_of m was) (heap_of m now) count k moves c.requires.lined inv.fields c.loop-k-test.true in
    let cost : g.W.Words.reads c.correct_fields.new.words ≤ g.W.Words.reads c.read_move-v.new.words + 4 * size_at (heap_of m was) (moves k).old = subst (λ n. g.W.Words.reads c.correct_fields.new.words ≤ g.W.Words.reads c.read_move-v.new.words + 4 * n) size (subst (λ a. g.W.Words.reads c.correct_fields.new.words ≤ g.W.Words.reads c.read_move-v.new.words + 4 * size_at (heap_of m now) a) old (subst (λ (ws : List ℕ). g.W.Words.reads c.correct_fields.new.words ≤ g.W.Words.reads c.read_move-v.new.words + 4 * size_at (heap_of m ws) c.read_move-v.result.old) c.read_move-v.ensures.words c.correct_fields.ensures.reads)) in
    record {
      fields = moves-more m (forward count moves) (heap_of m was) (heap_of m now) (heap_of m next) count k moves c.requires.lined inv.fields c.loop-k-test.true one;
      only_heap = only_heap-then m was now next inv.only_heap (subst (λ (ws : List ℕ). OnlyHeap m ws next) c.read_move-v.ensures.words c.correct_fields.ensures.only_heap);
      plan = subst (λ (s : List ℕ). Numbered m (heap_of m next) count (move_at s)) scratch c.correct_fields.ensures.plan;
      sound = c.correct_fields.ensures.sound;
      reads = rw (words_moved-more (heap_of m was) k moves) (omega (arith, inv.reads, c.read_move-v.ensures.reads, cost));
      base = c.correct_fields.ensures.base ∙ (c.read_move-v.ensures.base ∙ inv.base);
    }
