use Rattle.std.proofs.Math.Logic.{∥∥₁_map}
use Rattle.std.proofs.Common.{◌≡◌, ◌+◌, ℕ, List, arith, refl, ap, subst, ◌∙◌}
use Rattle.std.proofs.lemmas.List.Sums.{sum_by-take-le}
use Rattle.heap_words.specs.Cells.{row}
use Rattle.heap_words.specs.Contents.{Contents, contents}
use Rattle.heap_walks.specs.Walked.{IsPagePassed}
use Rattle.yak_model.specs.Placed.{space_word}
use Rattle.relocation.proofs.Heap.{only_heap-same, only_heap-then}
use Rattle.region_pages.specs.Counts.{used_by}
use Rattle.escape_closure.specs.Cleared.{ArePagesClear, IsClear}
use Rattle.escape_closure.proofs.Clears.{clears_none, clears_then, pages_more}
use Rattle.escape_closure.proofs.Rolls.{used_next}
use Rattle.escape_closure.proofs.clearing.clear_region.Goals as goal

pub clear_where_in-requires-clause-some : goal.clear_where_in-requires-clause-some
clear_where_in-requires-clause-some g c = ∥∥₁_map c.requires.some (λ z. (z.0, (c.loop-page.invariant.cleared z.0 z.1).0.among))

pub loop-page-init : goal.loop-page-init
loop-page-init g c = record {
  sound = c.requires.sound;
  base = refl;
  only_heap = only_heap-same c.args.map (g.W.Words.words c.args.words.now);
  reads = λ x index. omega arith;
  cleared = λ h among. (clears_none c.args.map h _ among, λ p lt. absurd (omega (arith, lt)));
}

pub loop-page-preserved : goal.loop-page-preserved
loop-page-preserved g c =
    let m = c.args.map in
    let was = g.W.Words.words c.args.words.now in
    let now = g.W.Words.words c.loop-page.words in
    let next = g.W.Words.words c.clear_where_in.new.words in
    let old = contents m was in
    let mid = contents m now in
    let new = contents m next in
    let page = c.loop-page.page in
    let region = c.args.region in
    let table : mid.table ≡ old.table = ap (λ (x : Contents). x.table) c.loop-page.invariant.only_heap in
    record {
      sound = c.clear_where_in.ensures.sound;
      base = c.clear_where_in.ensures.base ∙ c.loop-page.invariant.base;
      only_heap = only_heap-then m was now next c.loop-page.invariant.only_heap c.clear_where_in.ensures.only_heap;
      reads = λ x index.
          let own = ap (λ (t : List (List ℕ)). used_by x (row t page)) table in
          omega (arith, c.clear_where_in.ensures.reads x index, c.loop-page.invariant.reads x index, own, used_next old.table x page);
      cleared = λ h among.
          let a = c.loop-page.invariant.cleared h among in
          let b = c.clear_where_in.ensures.cleared h a.0.among in
          let own : space_word old.table page ≡ region + 1 → IsPagePassed h (IsClear h new) page = λ w. b.1 (ap (λ (t : List (List ℕ)). space_word t page) table ∙ w) in
          (clears_then m h old mid new a.0 b.0, pages_more m h mid new old.table region page b.0 a.1 own);
    }

pub returns-clause-cleared : goal.returns-clause-cleared
returns-clause-cleared g c h among =
    let m = c.args.map in
    let old = contents m (g.W.Words.words c.args.words.now) in
    let new = contents m (g.W.Words.words c.loop-page.words) in
    let a = c.loop-page.invariant.cleared h among in
    let end : c.loop-page.page ≡ m.pages = omega arith in
    (a.0, subst (ArePagesClear h new old.table c.args.region) end a.1)

pub returns-clause-reads : goal.returns-clause-reads
returns-clause-reads g c x index =
    let old = contents c.args.map (g.W.Words.words c.args.words.now) in
    let all = sum_by-take-le (used_by x) old.table c.loop-page.page in
    omega (arith, c.loop-page.invariant.reads x index, all)
