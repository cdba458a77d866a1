use Rattle.std.proofs.Common.{◌≤◌, ◌<◌, ◌+◌, subst, sym, ap, ◌∙◌, ℕ}
use Rattle.heap_words.specs.Map.{heap_length}
use Rattle.heap_words.specs.Contents.{Contents, contents}
use Rattle.relocation.specs.Moves.{HasHeader, move_at, size_at}
use Rattle.forwarding.specs.Settled.{Filled}
use Rattle.forwarding.proofs.TableSteps.{table-settled}
use Rattle.forwarding.proofs.settling.settle_pages.Goals as goal

pub fill_pages-requires-clause-moved : goal.fill_pages-requires-clause-moved
fill_pages-requires-clause-moved g c =
    let m = c.args.map in
    subst (λ (x : Contents). (k : ℕ) → k < c.args.plan.now.count → HasHeader x.heap (move_at x.scratch k).new × ((move_at x.scratch k).new + size_at x.heap (move_at x.scratch k).new ≤ heap_length m)) (sym c.empty_pages.ensures.frame) c.requires.moved

pub returns-clause-settled : goal.returns-clause-settled
returns-clause-settled g c before sizes tight to =
    let m = c.args.map in
    let was : Contents = contents m (g.W.Words.words c.args.words.now) in
    let mid : Contents = contents m (g.W.Words.words c.empty_pages.new.words) in
    let now : Contents = contents m (g.W.Words.words c.fill_pages.new.words) in
    let filled : Filled m was.heap mid.table now.table c.args.plan.now.count (move_at was.scratch) = subst (λ (x : Contents). Filled m x.heap mid.table now.table c.args.plan.now.count (move_at x.scratch)) c.empty_pages.ensures.frame c.fill_pages.ensures.filled in
    table-settled m c.args.slid was.heap before was.table mid.table now.table c.args.plan.now.count (move_at was.scratch) c.args.next c.empty_pages.ensures.emptied filled sizes tight to

pub returns-clause-freed : goal.returns-clause-freed
returns-clause-freed g c p lt is le = c.fill_pages.ensures.filled.spaces p ∙ c.empty_pages.ensures.emptied.free p lt is le

pub returns-clause-frame : goal.returns-clause-frame
returns-clause-frame g c =
    let now : Contents = contents c.args.map (g.W.Words.words c.fill_pages.new.words) in
    c.fill_pages.ensures.frame ∙ ap (λ (x : Contents). let y : Contents = record x { table = now.table } in y) c.empty_pages.ensures.frame
