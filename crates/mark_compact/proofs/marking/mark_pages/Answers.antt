use Rattle.std.proofs.Math.Logic.{∥∥₁_elim, ∥∥₁_map}
use Rattle.std.proofs.Props.{props}
use Rattle.std.proofs.Common.{◌≡◌, ℕ, arith, ap, ◌∙◌, refl, List, [], get_or}
use Rattle.heap_words.specs.Contents.{contents}
use Rattle.mark_compact.proofs.Follows.{stays}
use Rattle.mark_compact.proofs.Scans.{then_on}
use Rattle.mark_compact.proofs.Pages.{pages_more}
use Rattle.mark_compact.proofs.Costs.{sum_next, tables_now}
use Rattle.yak_model.specs.Placed.{used_mark}
use Rattle.std.proofs.lemmas.List.Sums.{sum_by-take-le}
use Rattle.mark_compact.proofs.marking.mark_pages.Goals as goal

pub mark_where_regional-count-requires-clause-some : goal.mark_where_regional-count-requires-clause-some
mark_where_regional-count-requires-clause-some g c =
    ∥∥₁_map c.requires.some (λ q. (q.0, (c.loop-page.invariant.marking q.0 q.1).0.marking))

pub loop-page-init : goal.loop-page-init
loop-page-init g c = record {
  sound = c.requires.sound;
  base = refl;
  reads = omega arith;
  marking = λ h mk. (stays _ h _ _ mk, λ j lt. absurd (omega (arith, lt)));
}

pub loop-page-preserved : goal.loop-page-preserved
loop-page-preserved g c = record {
  sound = c.mark_where_regional-count.ensures.sound;
  base = c.mark_where_regional-count.ensures.base ∙ c.loop-page.invariant.base;
  reads = ∥∥₁_elim c.requires.some (hlevel props) (λ q.
      let m = c.args.map in
      let old = contents m (g.W.Words.words c.args.words.now) in
      let mid = contents m (g.W.Words.words c.loop-page.words) in
      let now = c.loop-page.invariant.marking q.0 q.1 in
      let more = sum_next (λ (r : List ℕ). get_or r 1 0) old.table c.loop-page.page [] refl in
      let own : used_mark mid.table c.loop-page.page ≡ used_mark old.table c.loop-page.page = ap (λ (t : List (List ℕ)). used_mark t c.loop-page.page) (tables_now m q.0 old mid q.1.among now.0.marking.among) in
      omega (arith, c.mark_where_regional-count.ensures.reads, c.loop-page.invariant.reads, more, own));
  marking = λ h mk.
      let now = c.loop-page.invariant.marking h mk in
      let next = c.mark_where_regional-count.ensures.marking h now.0.marking in
      (then_on _ h _ _ _ _ _ _ now.0 next.0, pages_more _ h _ _ _ _ c.loop-page.page now.0.marking.among next.0.grows now.1 next.1);
}

pub returns-clause-marking : goal.returns-clause-marking
returns-clause-marking g c h mk =
    let now = c.loop-page.invariant.marking h mk in
    (now.0, λ p lt. now.1 p (omega arith))

pub returns-clause-reads : goal.returns-clause-reads
returns-clause-reads g c =
    let all = sum_by-take-le (λ (r : List ℕ). get_or r 1 0) (contents c.args.map (g.W.Words.words c.args.words.now)).table c.loop-page.page in
    omega (arith, c.loop-page.invariant.reads, all)
