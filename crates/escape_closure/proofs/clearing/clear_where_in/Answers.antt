use Rattle.std.proofs.Common.{◌≡◌, ◌+◌, ℕ, List, arith, ap, sym, subst, ◌∙◌}
use Rattle.epoch_lattice.specs.Lattice.{space_index}
use Rattle.heap_words.specs.Cells.{row}
use Rattle.heap_words.specs.Contents.{Contents, contents}
use Rattle.heap_walks.specs.Laid.{IsAmong}
use Rattle.heap_walks.specs.Walked.{IsPagePassed}
use Rattle.yak_model.specs.Placed.{space_word, used_mark}
use Rattle.relocation.specs.Moves.{OnlyHeap}
use Rattle.relocation.proofs.Heap.{only_heap-same}
use Rattle.region_pages.specs.Counts.{used_by}
use Rattle.escape_closure.specs.Cleared.{ClearsOn, IsClear}
use Rattle.escape_closure.proofs.Clears.{clears_none}
use Rattle.escape_closure.proofs.Rolls.{same_is}
use Rattle.escape_closure.proofs.clearing.clear_where_in.Goals as goal

pub clear_page-requires-clause-some : goal.clear_page-requires-clause-some
clear_page-requires-clause-some g c = rw c.get_page-space.ensures.words c.requires.some

pub returns-then-space-own-clause-cleared : goal.returns-then-space-own-clause-cleared
returns-then-space-own-clause-cleared g c h among =
    let m = c.args.map in
    let old = contents m (g.W.Words.words c.args.words.now) in
    let new = contents m (g.W.Words.words c.clear_page.new.words) in
    let same : contents m (g.W.Words.words c.get_page-space.new.words) ≡ old = ap (contents m) c.get_page-space.ensures.words in
    let done : ClearsOn m h old new × IsPagePassed h (IsClear h new) c.args.page = subst (λ (x : Contents). ClearsOn m h x new × IsPagePassed h (IsClear h new) c.args.page) same (c.clear_page.ensures.cleared h (subst (IsAmong m h) (sym same) among)) in
    (done.0, λ own. done.1)

pub returns-else-space-own-clause-cleared : goal.returns-else-space-own-clause-cleared
returns-else-space-own-clause-cleared g c h among =
    rw c.get_page-space.ensures.words (clears_none c.args.map h _ among, λ own. absurd (c.if-space-own.false (c.get_page-space.ensures.value ∙ own)))

pub returns-then-space-own-clause-only_heap : goal.returns-then-space-own-clause-only_heap
returns-then-space-own-clause-only_heap g c = subst (λ (x : List ℕ). OnlyHeap c.args.map x (g.W.Words.words c.clear_page.new.words)) c.get_page-space.ensures.words c.clear_page.ensures.only_heap

pub returns-else-space-own-clause-only_heap : goal.returns-else-space-own-clause-only_heap
returns-else-space-own-clause-only_heap g c = rw c.get_page-space.ensures.words (only_heap-same c.args.map (g.W.Words.words c.args.words.now))

pub returns-then-space-own-clause-reads : goal.returns-then-space-own-clause-reads
returns-then-space-own-clause-reads g c x index =
    let m = c.args.map in
    let page = c.args.page in
    let old = contents m (g.W.Words.words c.args.words.now) in
    let used : used_by x (row old.table page) ≡ used_mark old.table page = same_is (space_word old.table page) (space_index x + 1) (used_mark old.table page) 0 (sym c.get_page-space.ensures.value ∙ c.if-space-own.true ∙ ap (λ k. k + 1) (sym index)) in
    let mark = ap (λ (ws : List ℕ). used_mark (contents m ws).table page) c.get_page-space.ensures.words in
    omega (arith, c.clear_page.ensures.reads, c.get_page-space.ensures.reads, used, mark)

pub returns-else-space-own-clause-reads : goal.returns-else-space-own-clause-reads
returns-else-space-own-clause-reads g c x index = omega (arith, c.get_page-space.ensures.reads)
