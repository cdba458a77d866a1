use Rattle.std.proofs.Common.{◌≡◌, ◌≤◌, ◌<◌, ◌+◌, ◌*◌, arith, subst, sym, ap, ◌∙◌, List, ℕ, get_or, length}
use Rattle.heap_words.specs.Contents.{Contents, Sound, contents}
use Rattle.heap_words.proofs.Contents.{length-heap}
use Rattle.yak_model.specs.Placed.{space_word, used_mark}
use Rattle.yak_model.specs.Plans.{Move, forward}
use Rattle.relocation.specs.Fields.{MovesCorrected}
use Rattle.relocation.specs.Moves.{Numbered, OnlyHeap, move_at}
use Rattle.relocation.specs.Slide.{object_at}
use Rattle.relocation.proofs.Heap.{only_heap-scratch, only_heap-then}
use Rattle.forwarding.specs.Corrected.{IsRegional}
use Rattle.forwarding.specs.Row.{ObjectRow, staying}
use Rattle.forwarding.proofs.StackSteps.{sum-more}
use Rattle.forwarding.proofs.RegionSteps.{PagesDone, length-table, region-row, pages-more, pages-other, pages-all}
use Rattle.forwarding.proofs.regions.correct_regions.Goals as goal
use Rattle.forwarding.proofs.regions.correct_regions.Goals.{then-get_page-gt-CONTROL_WORD, else-get_page-gt-CONTROL_WORD}

pub correct_page-requires-clause-row : goal.correct_page-requires-clause-row
correct_page-requires-clause-row g c =
    let m = c.args.map in
    let was : Contents = contents m (g.W.Words.words c.args.words.now) in
    let mid_words : List ℕ = g.W.Words.words c.loop-page.words in
    let mid : Contents = contents m mid_words in
    let page : ℕ = c.loop-page.page in
    let count : ℕ = c.args.plan.now.count in
    let moves : ℕ → Move = move_at was.scratch in
    let r = c.requires.runs in
    let done = c.loop-page.invariant.pages r in
    let table : mid.table ≡ was.table = ap (λ (x : Contents). x.table) c.loop-page.invariant.only_heap in
    let read : c.get_page.result ≡ space_word was.table page = c.get_page.ensures.value ∙ ap (λ (t : List (List ℕ)). space_word t page) table in
    let regional : IsRegional was page = omega (arith, read, c.if-get_page-gt-CONTROL_WORD.true) in
    let in_heap : page < m.pages = omega arith in
    let objects : ℕ = (r.run page in_heap regional).objects in
    let at : ℕ → ℕ = object_at m was.heap page in
    let row : ObjectRow m mid.heap page (used_mark was.table page) objects at = region-row m was count moves r mid.heap page in_heap regional done.rest in
    (objects, at, subst (λ (ws : List ℕ). ObjectRow m (contents m ws).heap page (used_mark (contents m ws).table page) objects at) (sym c.get_page.ensures.words) (subst (λ (t : List (List ℕ)). ObjectRow m mid.heap page (used_mark t page) objects at) (sym table) row))

pub loop-page-preserved : goal.loop-page-preserved
loop-page-preserved g c =
    let m = c.args.map in
    let ws : List ℕ = g.W.Words.words c.args.words.now in
    let mid_words : List ℕ = g.W.Words.words c.loop-page.words in
    let was : Contents = contents m ws in
    let mid : Contents = contents m mid_words in
    let page : ℕ = c.loop-page.page in
    let count : ℕ = c.args.plan.now.count in
    let moves : ℕ → Move = move_at was.scratch in
    let f : ℕ → ℕ = forward count moves in
    let inv = c.loop-page.invariant in
    let table : mid.table ≡ was.table = ap (λ (x : Contents). x.table) inv.only_heap in
    let scratch : mid.scratch ≡ was.scratch = only_heap-scratch m ws mid_words inv.only_heap in
    let read : c.get_page.result ≡ space_word was.table page = c.get_page.ensures.value ∙ ap (λ (t : List (List ℕ)). space_word t page) table in
    let in_heap : page < m.pages = omega arith in
    let more = sum-more (λ (r : List ℕ). get_or r 1 0) was.table page (omega (arith, length-table m ws, in_heap)) in
    elim c.if-get_page-gt-CONTROL_WORD.branch [
      | then-get_page-gt-CONTROL_WORD w ↦
          (let new_words : List ℕ = g.W.Words.words w.correct_page.new.words in
          let new : Contents = contents m new_words in
          let regional : IsRegional was page = omega (arith, read, w.if-get_page-gt-CONTROL_WORD.true) in
          let own : (n : ℕ) (at : ℕ → ℕ) → ObjectRow m mid.heap page (used_mark was.table page) n at → MovesCorrected f mid.heap new.heap n (staying at) =
          subst (λ (t : List (List ℕ)). (n : ℕ) (at : ℕ → ℕ) → ObjectRow m mid.heap page (used_mark t page) n at → MovesCorrected f mid.heap new.heap n (staying at)) table
          (subst (λ (s : List ℕ). (n : ℕ) (at : ℕ → ℕ) → ObjectRow m mid.heap page (used_mark mid.table page) n at → MovesCorrected (forward count (move_at s)) mid.heap new.heap n (staying at)) scratch
          (subst (λ (vs : List ℕ). (n : ℕ) (at : ℕ → ℕ) → ObjectRow m (contents m vs).heap page (used_mark (contents m vs).table page) n at → MovesCorrected (forward count (move_at (contents m vs).scratch)) (contents m vs).heap new.heap n (staying at)) c.get_page.ensures.words w.correct_page.ensures.fields)) in
          let cost : g.W.Words.reads w.correct_page.new.words ≤ g.W.Words.reads c.get_page.new.words + (1 + 5 * used_mark was.table page) =
          subst (λ (t : List (List ℕ)). g.W.Words.reads w.correct_page.new.words ≤ g.W.Words.reads c.get_page.new.words + (1 + 5 * used_mark t page)) (ap (λ (vs : List ℕ). (contents m vs).table) c.get_page.ensures.words ∙ table) w.correct_page.ensures.reads in
          let long : length new.heap ≡ length mid.heap = length-heap m new_words w.correct_page.ensures.sound.whole ∙ sym (length-heap m mid_words inv.sound.whole) in
          rw w.words-is (record {
            pages = λ r. pages-more m f was count moves r mid.heap new.heap page in_heap regional (inv.pages r) long own;
            only_heap = only_heap-then m ws mid_words new_words inv.only_heap (subst (λ (vs : List ℕ). OnlyHeap m vs new_words) c.get_page.ensures.words w.correct_page.ensures.only_heap);
            plan = subst (λ (s : List ℕ). Numbered m new.heap count (move_at s)) scratch (subst (λ (vs : List ℕ). Numbered m new.heap count (move_at (contents m vs).scratch)) c.get_page.ensures.words w.correct_page.ensures.plan);
            sound = w.correct_page.ensures.sound;
            reads = omega (arith, inv.reads, c.get_page.ensures.reads, cost, more);
            base = w.correct_page.ensures.base ∙ (c.get_page.ensures.base ∙ inv.base);
          }))
      | else-get_page-gt-CONTROL_WORD w ↦ rw w.words-is (record {
        pages = λ r. pages-other m f was count moves r _ page (λ x. omega (arith, read, x, w.if-get_page-gt-CONTROL_WORD.false)) (subst (λ (vs : List ℕ). PagesDone m f was count moves r (contents m vs).heap page) (sym c.get_page.ensures.words) (inv.pages r));
        only_heap = subst (OnlyHeap m ws) (sym c.get_page.ensures.words) inv.only_heap;
        plan = subst (λ (vs : List ℕ). Numbered m (contents m vs).heap count moves) (sym c.get_page.ensures.words) inv.plan;
        sound = subst (Sound m) (sym c.get_page.ensures.words) inv.sound;
        reads = omega (arith, inv.reads, c.get_page.ensures.reads, more);
        base = c.get_page.ensures.base ∙ inv.base;
      })
    ]

pub returns-clause-corrected : goal.returns-clause-corrected
returns-clause-corrected g c r = pages-all c.args.map _ _ _ _ r _ c.loop-page.page (omega arith) (c.loop-page.invariant.pages r)
