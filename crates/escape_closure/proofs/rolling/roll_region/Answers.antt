use Rattle.escape_closure.proofs.Rolls.{scratch_then}
use Rattle.std.proofs.Math.Logic.{∥∥₁_map}
use Rattle.std.proofs.Common.{◌≡◌, ◌+◌, ◌*◌, ◌==◌, ℕ, cond, List, get_or, arith, refl, sym, ap, ◌∙◌, inl, inr}
use Rattle.std.proofs.lemmas.Bool.{cases_lt}
use Rattle.epoch_lattice.specs.Lattice.{space_index}
use Rattle.yak_model.specs.Placed.{space_word}
use Rattle.heap_words.specs.Map.{heap_length, page_words}
use Rattle.heap_words.specs.Cells.{row}
use Rattle.heap_words.specs.Contents.{Contents, contents}
use Rattle.escape_closure.specs.Rolls.{ArePagesRolled}
use Rattle.std.proofs.lemmas.List.Sums.{sum_by-take-le}
use Rattle.region_pages.specs.Counts.{used_by}
use Rattle.escape_closure.proofs.Rolls.{all_rolled, first_roll, other_page, pages_more, pages_next, table_is, used_next, wider}
use Rattle.escape_closure.proofs.rolling.roll_region.Goals as goal

pub roll_where_in-count-requires-clause-some : goal.roll_where_in-count-requires-clause-some
roll_where_in-count-requires-clause-some g c =
    ∥∥₁_map c.requires.some (λ z. (z.0, z.1, z.2, (c.loop-page.invariant.rolled z.0 z.1 z.2 z.3).0))

pub loop-page-init : goal.loop-page-init
loop-page-init g c = record {
  sound = c.requires.sound;
  base = refl;
  frame = refl;
  rolled = λ q index ready same. (first_roll q (contents c.args.map (g.W.Words.words c.args.words.now)) same, λ p lt. absurd (omega (arith, lt)), omega arith);
}

pub loop-page-preserved : goal.loop-page-preserved
loop-page-preserved g c = record {
  sound = c.roll_where_in-count.ensures.sound;
  base = c.roll_where_in-count.ensures.base ∙ c.loop-page.invariant.base;
  frame = scratch_then (contents c.args.map (g.W.Words.words c.args.words.now)) (contents c.args.map (g.W.Words.words c.loop-page.words)) (contents c.args.map (g.W.Words.words c.roll_where_in-count.new.words)) c.loop-page.invariant.frame c.roll_where_in-count.ensures.frame;
  rolled = λ q index ready same.
      let m = c.args.map in
      let page = c.loop-page.page in
      let mid = contents m (g.W.Words.words c.loop-page.words) in
      let now = c.loop-page.invariant.rolled q index ready same in
      let next = c.roll_where_in-count.ensures.rolled q index ready now.0 in
      let table = table_is m q mid (page_words m * page) c.loop-page.count ready now.0 in
      let own : used_by q.region (row mid.table page) ≡ used_by q.region (row q.words.table page) = ap (λ (t : List (List ℕ)). used_by q.region (row t page)) table in
      let mine : cond {A = ℕ} (space_word mid.table page == space_index q.region + 1) 1 0 ≡ cond (space_word q.words.table page == space_index q.region + 1) 1 0 = ap (λ (t : List (List ℕ)). cond {A = ℕ} (space_word t page == space_index q.region + 1) 1 0) table in
      let more = used_next q.words.table q.region page in
      let pages = pages_next q.words.table q.region page in
      (next.0.roll, pages_more q now.0.name next.0.roll.name c.loop-page.count c.roll_where_in-count.result page now.1 next.0.more next.1, omega (arith, next.2, now.2, own, more, mine, pages));
}

pub returns-clause-rolled : goal.returns-clause-rolled
returns-clause-rolled g c q index ready same =
    let m = c.args.map in
    let count = c.loop-page.count in
    let now = c.loop-page.invariant.rolled q index ready same in
    let all = sum_by-take-le (used_by q.region) q.words.table c.loop-page.page in
    let pages = sum_by-take-le (λ (r : List ℕ). cond {A = ℕ} (get_or r 0 0 == space_index q.region + 1) 1 0) q.words.table c.loop-page.page in
    let ends : c.loop-page.page ≡ c.args.end = omega arith in
    let new = contents m (g.W.Words.words c.loop-page.words) in
    let word : (p : ℕ) → space_word (contents m (g.W.Words.words c.args.words.now)).table p ≡ space_word q.words.table p = λ p. ap (λ (x : Contents). space_word x.table p) (sym same) in
    let rolled : ArePagesRolled q now.0.name count m.pages = λ p lt. elim (cases_lt p c.loop-page.page) [
      | inl below ↦ now.1 p below
      | inr from ↦ other_page m q now.0.name count p (space_word q.words.table p) ready refl (λ e. c.requires.none_from p (omega (arith, from, ends)) lt (word p ∙ e ∙ ap (λ k. k + 1) index))
    ] in
    (wider m q new (page_words m * c.loop-page.page) count ready now.0 (heap_length m) (omega (arith, ends, c.requires.within)), all_rolled m q now.0.name count ready rolled, omega (arith, now.2, all, pages, ends))
