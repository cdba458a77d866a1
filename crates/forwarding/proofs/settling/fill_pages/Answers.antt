use Rattle.std.proofs.Common.{◌≡◌, ◌<◌, ◌+◌, ◌/◌, ◌%◌, arith, subst, sym, ap, ◌∙◌, List, ℕ, refl}
use Rattle.heap_words.specs.Map.{page_words}
use Rattle.heap_words.specs.Cells.{row_set}
use Rattle.heap_words.specs.Contents.{Contents, contents, with_page}
use Rattle.yak_model.specs.Plans.{Move}
use Rattle.relocation.specs.Moves.{HasHeader, move_at, size_at}
use Rattle.forwarding.specs.Settled.{Filled}
use Rattle.forwarding.proofs.RegionSteps.{length-table}
use Rattle.forwarding.proofs.TableSteps.{length-entry, filled-none, filled-more}
use Rattle.forwarding.proofs.settling.fill_pages.Goals as goal

pub loop-k-init : goal.loop-k-init
loop-k-init g c =
    let was : Contents = contents c.args.map (g.W.Words.words c.args.words.now) in
    record {
      filled = filled-none c.args.map was.heap was.table (move_at was.scratch);
      frame = refl;
      sound = c.requires.sound;
      reads = omega arith;
      base = refl;
    }

pub fill_page-requires-clause-within : goal.fill_page-requires-clause-within
fill_page-requires-clause-within g c =
    let m = c.args.map in
    let was : Contents = contents m (g.W.Words.words c.args.words.now) in
    let k : ℕ = c.loop-k.k in
    let new : c.read_move-v.result.new ≡ (move_at was.scratch k).new = ap (λ (v : Move). v.new) (c.read_move-v.ensures.read ∙ ap (λ (x : Contents). move_at x.scratch k) c.loop-k.invariant.frame) in
    let h = (c.requires.moved k c.loop-k-test.true).1 in
    omega (arith, new, h)

pub fill_page-requires-clause-header : goal.fill_page-requires-clause-header
fill_page-requires-clause-header g c =
    let m = c.args.map in
    let was : Contents = contents m (g.W.Words.words c.args.words.now) in
    let k : ℕ = c.loop-k.k in
    let new : c.read_move-v.result.new ≡ (move_at was.scratch k).new = ap (λ (v : Move). v.new) (c.read_move-v.ensures.read ∙ ap (λ (x : Contents). move_at x.scratch k) c.loop-k.invariant.frame) in
    subst (λ (vs : List ℕ). HasHeader (contents m vs).heap c.read_move-v.result.new) (sym c.read_move-v.ensures.words)
    (subst (λ (x : Contents). HasHeader x.heap c.read_move-v.result.new) (sym c.loop-k.invariant.frame)
    (subst (HasHeader was.heap) (sym new) (c.requires.moved k c.loop-k-test.true).0))

pub loop-k-preserved : goal.loop-k-preserved
loop-k-preserved g c =
    let m = c.args.map in
    let ws : List ℕ = g.W.Words.words c.args.words.now in
    let mid_words : List ℕ = g.W.Words.words c.loop-k.words in
    let new_words : List ℕ = g.W.Words.words c.fill_page.new.words in
    let was : Contents = contents m ws in
    let mid : Contents = contents m mid_words in
    let next : Contents = contents m new_words in
    let k : ℕ = c.loop-k.k in
    let moves : ℕ → Move = move_at was.scratch in
    let inv = c.loop-k.invariant in
    let new : c.read_move-v.result.new ≡ (moves k).new = ap (λ (v : Move). v.new) (c.read_move-v.ensures.read ∙ ap (λ (x : Contents). move_at x.scratch k) inv.frame) in
    let page : ℕ = (moves k).new / page_words m in
    let h = (c.requires.moved k c.loop-k-test.true).1 in
    let in_heap : page < m.pages = omega (arith, h) in
    let t : List (List ℕ) = row_set mid.table page 1 ((moves k).new % page_words m + size_at was.heap (moves k).new) in
    let first : next ≡ with_page mid (c.read_move-v.result.new / page_words m) 1 (c.read_move-v.result.new % page_words m + size_at mid.heap c.read_move-v.result.new) = subst (λ (vs : List ℕ). next ≡ with_page (contents m vs) (c.read_move-v.result.new / page_words m) 1 (c.read_move-v.result.new % page_words m + size_at (contents m vs).heap c.read_move-v.result.new)) c.read_move-v.ensures.words c.fill_page.ensures.set in
    let heap : mid.heap ≡ was.heap = ap (λ (x : Contents). x.heap) inv.frame in
    let second : next ≡ with_page mid page 1 ((moves k).new % page_words m + size_at was.heap (moves k).new) = first ∙ ap (λ a. with_page mid (a / page_words m) 1 (a % page_words m + size_at mid.heap a)) new ∙ ap (λ (l : List ℕ). with_page mid page 1 ((moves k).new % page_words m + size_at l (moves k).new)) heap in
    let table : next.table ≡ t = ap (λ (x : Contents). x.table) second in
    let all : next ≡ record was { table = t } = second ∙ ap (λ (x : Contents). let y : Contents = record x { table = t } in y) inv.frame in
    record {
      filled = subst (λ (x : List (List ℕ)). Filled m was.heap was.table x (k + 1) moves) (sym table) (filled-more m was.heap was.table mid.table k moves inv.filled (omega (arith, length-table m mid_words, in_heap)) (length-entry m mid_words page inv.sound.whole in_heap));
      frame = all ∙ ap (λ (x : List (List ℕ)). let y : Contents = record was { table = x } in y) (sym table);
      sound = c.fill_page.ensures.sound;
      reads = omega (arith, inv.reads, c.read_move-v.ensures.reads, c.fill_page.ensures.reads);
      base = c.fill_page.ensures.base ∙ (c.read_move-v.ensures.base ∙ inv.base);
    }
