use Rattle.std.proofs.Common.{◌≡◌, ◌≤◌, ◌<◌, ◌+◌, ◌*◌, ◌⊎◌, arith, subst, sym, ◌∙◌, List, ℕ, inl, inr}
use Rattle.std.proofs.Math.Logic.{⊎_elim}
use Rattle.heap_words.specs.Map.{page_words}
use Rattle.heap_words.specs.Contents.{Contents, Sound, contents}
use Rattle.yak_model.specs.Placed.{used_mark}
use Rattle.yak_model.specs.Plans.{forward}
use Rattle.relocation.specs.Fields.{FieldsCorrected}
use Rattle.relocation.specs.Moves.{Numbered, OnlyHeap, move_at, size_at}
use Rattle.relocation.proofs.Heap.{only_heap-same, only_heap-scratch, only_heap-then}
use Rattle.forwarding.proofs.RegionSteps.{RowDone, row-none, row-reached, row-on, row-all, row-end, fields-header, fields-size}
use Rattle.forwarding.proofs.regions.correct_page.Goals as goal

pub loop-a-init : goal.loop-a-init
loop-a-init g c =
    let m = c.args.map in
    let ws : List ℕ = g.W.Words.words c.args.words.now in
    let was : Contents = contents m ws in
    let same = sym c.get_page.ensures.words in
    let used : ℕ = used_mark was.table c.args.page in
    let f = forward c.args.plan.now.count (move_at was.scratch) in
    record {
      row = subst (λ (vs : List ℕ). RowDone m f was.heap (contents m vs).heap c.args.page used c.page_start-start.result) same (subst (RowDone m f was.heap was.heap c.args.page used) (sym c.page_start-start.ensures) (row-none m f was.heap c.args.page used));
      start = omega arith;
      only_heap = subst (OnlyHeap m ws) same (only_heap-same m ws);
      plan = subst (λ (vs : List ℕ). Numbered m (contents m vs).heap c.args.plan.now.count (move_at was.scratch)) same c.requires.plan;
      sound = subst (Sound m) same c.requires.sound;
      reads = omega (arith, c.get_page.ensures.reads);
      base = c.get_page.ensures.base;
    }

pub correct_fields-requires-clause-header : goal.correct_fields-requires-clause-header
correct_fields-requires-clause-header g c =
    let r = row-reached c.args.map _ _ _ c.args.page _ c.loop-a.a c.requires.row.0 c.requires.row.1 c.requires.page c.requires.row.2 c.loop-a.invariant.row (omega (arith, c.page_start-start.ensures, c.get_page.ensures.value, c.loop-a-test.true)) in
    r.header

pub correct_fields-requires-clause-within : goal.correct_fields-requires-clause-within
correct_fields-requires-clause-within g c =
    let r = row-reached c.args.map _ _ _ c.args.page _ c.loop-a.a c.requires.row.0 c.requires.row.1 c.requires.page c.requires.row.2 c.loop-a.invariant.row (omega (arith, c.page_start-start.ensures, c.get_page.ensures.value, c.loop-a-test.true)) in
    omega (arith, r.high, r.fits, c.requires.page)

pub correct_fields-requires-clause-lead : goal.correct_fields-requires-clause-lead
correct_fields-requires-clause-lead g c =
    let r = row-reached c.args.map _ _ _ c.args.page _ c.loop-a.a c.requires.row.0 c.requires.row.1 c.requires.page c.requires.row.2 c.loop-a.invariant.row (omega (arith, c.page_start-start.ensures, c.get_page.ensures.value, c.loop-a-test.true)) in
    r.lead

pub correct_fields-requires-clause-beside : goal.correct_fields-requires-clause-beside
correct_fields-requires-clause-beside g c =
    let m = c.args.map in
    let was : Contents = contents m (g.W.Words.words c.args.words.now) in
    let mid : Contents = contents m (g.W.Words.words c.loop-a.words) in
    let a : ℕ = c.loop-a.a in
    let r = row-reached m _ _ _ c.args.page _ a c.requires.row.0 c.requires.row.1 c.requires.page c.requires.row.2 c.loop-a.invariant.row (omega (arith, c.page_start-start.ensures, c.get_page.ensures.value, c.loop-a-test.true)) in
    let h : (k : ℕ) → k < c.args.plan.now.count → ((move_at was.scratch k).old + 2 < a + 3) ⊎ (a + size_at mid.heap a ≤ (move_at was.scratch k).old + 2) = λ k lt. ⊎_elim
    (λ (low : (move_at was.scratch k).old + 2 < page_words m * c.args.page). inl (omega (arith, low, r.low)))
    (λ (high : page_words m * c.args.page + page_words m ≤ (move_at was.scratch k).old + 2). inr (omega (arith, high, r.high, r.fits)))
    (c.requires.beside k lt) in
    subst (λ (s : List ℕ). (k : ℕ) → k < c.args.plan.now.count → ((move_at s k).old + 2 < a + 3) ⊎ (a + size_at mid.heap a ≤ (move_at s k).old + 2)) (sym (only_heap-scratch m _ _ c.loop-a.invariant.only_heap)) h

pub object_size-requires-clause-header : goal.object_size-requires-clause-header
object_size-requires-clause-header g c =
    let r = row-reached c.args.map _ _ _ c.args.page _ c.loop-a.a c.requires.row.0 c.requires.row.1 c.requires.page c.requires.row.2 c.loop-a.invariant.row (omega (arith, c.page_start-start.ensures, c.get_page.ensures.value, c.loop-a-test.true)) in
    fields-header _ _ _ c.loop-a.a _ c.correct_fields.ensures.fields r.header

pub loop-a-preserved : goal.loop-a-preserved
loop-a-preserved g c =
    let m = c.args.map in
    let ws : List ℕ = g.W.Words.words c.args.words.now in
    let mid_words : List ℕ = g.W.Words.words c.loop-a.words in
    let new_words : List ℕ = g.W.Words.words c.correct_fields.new.words in
    let was : Contents = contents m ws in
    let mid : Contents = contents m mid_words in
    let new : Contents = contents m new_words in
    let inv = c.loop-a.invariant in
    let a : ℕ = c.loop-a.a in
    let used : ℕ = used_mark was.table c.args.page in
    let count : ℕ = c.args.plan.now.count in
    let f : ℕ → ℕ = forward count (move_at was.scratch) in
    let scratch : mid.scratch ≡ was.scratch = only_heap-scratch m ws mid_words inv.only_heap in
    let one : FieldsCorrected f mid.heap new.heap a (size_at mid.heap a) = subst (λ (s : List ℕ). FieldsCorrected (forward count (move_at s)) mid.heap new.heap a (size_at mid.heap a)) scratch c.correct_fields.ensures.fields in
    let size : c.object_size.result ≡ size_at mid.heap a = c.object_size.ensures.size ∙ fields-size f mid.heap new.heap a (size_at mid.heap a) one in
    let before : a < page_words m * c.args.page + used = omega (arith, c.page_start-start.ensures, c.get_page.ensures.value, c.loop-a-test.true) in
    let same : new_words ≡ g.W.Words.words c.object_size.new.words = sym c.object_size.ensures.words in
    let row : RowDone m f was.heap new.heap c.args.page used (a + c.object_size.result) = subst (λ n. RowDone m f was.heap new.heap c.args.page used (a + n)) (sym size) (row-on m f was.heap mid.heap new.heap c.args.page used a c.requires.page inv.row before one) in
    record {
      row = subst (λ (vs : List ℕ). RowDone m f was.heap (contents m vs).heap c.args.page used (a + c.object_size.result)) same row;
      start = omega (arith, inv.start);
      only_heap = subst (OnlyHeap m ws) same (only_heap-then m ws mid_words new_words inv.only_heap c.correct_fields.ensures.only_heap);
      plan = subst (λ (vs : List ℕ). Numbered m (contents m vs).heap count (move_at was.scratch)) same (subst (λ (s : List ℕ). Numbered m new.heap count (move_at s)) scratch c.correct_fields.ensures.plan);
      sound = subst (Sound m) same c.correct_fields.ensures.sound;
      reads = omega (arith, inv.reads, c.object_size.ensures.reads, c.correct_fields.ensures.reads, size);
      base = c.object_size.ensures.base ∙ (c.correct_fields.ensures.base ∙ inv.base);
    }

pub returns-clause-fields : goal.returns-clause-fields
returns-clause-fields g c = row-all c.args.map _ _ _ c.args.page _ c.loop-a.a c.loop-a.invariant.row (omega (arith, c.page_start-start.ensures, c.get_page.ensures.value, c.loop-a-test.false))

pub returns-clause-reads : goal.returns-clause-reads
returns-clause-reads g c =
    let end = row-end c.args.map _ _ _ c.args.page _ c.loop-a.a c.loop-a.invariant.row c.requires.row.0 c.requires.row.1 c.requires.row.2 in
    omega (arith, c.loop-a.invariant.reads, end, c.page_start-start.ensures)
