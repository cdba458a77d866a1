use Rattle.std.proofs.Common.{◌≡◌, ◌≢◌, ◌<◌, ◌+◌, ◌-◌, ℕ, List, length, refl, sym, ap, ◌∙◌, arith}
use Rattle.std.proofs.lemmas.List.{length_push}
use Rattle.heap_words.specs.Contents.{contents}
use Rattle.yak_model.specs.Placed.{space_word}
use Rattle.region_pages.specs.Ends.{used_end}
use Rattle.region_pages.specs.Freeing.{free_below}
use Rattle.region_pages.proofs.Shapes.{Shape, shape}
use Rattle.region_pages.proofs.Ends.{end_more_taken, end_rest, none_left, still_left}
use Rattle.region_pages.proofs.Freed.{below_more_free, below_more_taken}
use Rattle.region_pages.proofs.counts.end_of_used.Goals as goal
use Rattle.region_pages.proofs.counts.end_of_used.Goals.{then-get_page-ne0, else-get_page-ne0}

pub loop-left-init : goal.loop-left-init
loop-left-init g c = record { words = refl; base = refl; reads = omega arith; most = omega arith; count = omega arith; end = λ e. refl }

pub get_page-requires-clause-page : goal.get_page-requires-clause-page
get_page-requires-clause-page g c =
    let m = c.args.map in
    let old = contents m (g.W.Words.words c.args.words.now) in
    let s : Shape m old = shape m (g.W.Words.words c.args.words.now) c.requires.sound in
    still_left old.table m.pages c.loop-left.page c.args.used c.loop-left.left s.table c.requires.used c.loop-left.invariant.most c.loop-left.invariant.count c.loop-left-test.true

pub loop-left-preserved : goal.loop-left-preserved
loop-left-preserved g c =
    let m = c.args.map in
    let i = c.loop-left.page in
    let inv = c.loop-left.invariant in
    let old = contents m (g.W.Words.words c.args.words.now) in
    let s : Shape m old = shape m (g.W.Words.words c.args.words.now) c.requires.sound in
    let lt : i < m.pages = still_left old.table m.pages i c.args.used c.loop-left.left s.table c.requires.used inv.most inv.count c.loop-left-test.true in
    let value : c.get_page.result ≡ space_word old.table i = c.get_page.ensures.value ∙ ap (λ (ws : List ℕ). space_word (contents m ws).table i) inv.words in
    let words = c.get_page.ensures.words ∙ inv.words in
    let base = c.get_page.ensures.base ∙ inv.base in
    elim c.if-get_page-ne0.branch [
      | then-get_page-ne0 w ↦
          let taken : space_word old.table i ≢ 0 = λ e. w.if-get_page-ne0.true (value ∙ e) in
          let same = ap (λ (xs : List ℕ). length xs) (below_more_taken old.table i taken) in
          record {
            words = words;
            base = base;
            reads = omega (arith, c.get_page.ensures.reads, inv.reads);
            most = omega (arith, lt);
            count = omega (arith, w.left-is, inv.count, same, c.loop-left-test.true);
            end = λ e. end_more_taken old.table i taken;
          }
      | else-get_page-ne0 w ↦
          let free : space_word old.table i ≡ 0 = sym value ∙ w.if-get_page-ne0.false in
          let more = ap (λ (xs : List ℕ). length xs) (below_more_free old.table i free) ∙ length_push (free_below old.table i) i in
          record {
            words = words;
            base = base;
            reads = omega (arith, c.get_page.ensures.reads, inv.reads);
            most = omega (arith, lt);
            count = omega (arith, w.left-is, inv.count, more);
            end = λ e. absurd (omega (arith, e, w.left-is, c.loop-left-test.true));
          }
    ]

pub loop-left-smaller : goal.loop-left-smaller
loop-left-smaller g c =
    let m = c.args.map in
    let old = contents m (g.W.Words.words c.args.words.now) in
    let s : Shape m old = shape m (g.W.Words.words c.args.words.now) c.requires.sound in
    let lt : c.loop-left.page < m.pages = still_left old.table m.pages c.loop-left.page c.args.used c.loop-left.left s.table c.requires.used c.loop-left.invariant.most c.loop-left.invariant.count c.loop-left-test.true in
    let less : m.pages - (c.loop-left.page + 1) < m.pages - c.loop-left.page = omega (arith, lt) in
    less

pub returns-clause-end : goal.returns-clause-end
returns-clause-end g c =
    let m = c.args.map in
    let k = c.loop-left.page in
    let inv = c.loop-left.invariant in
    let old = contents m (g.W.Words.words c.args.words.now) in
    let s : Shape m old = shape m (g.W.Words.words c.args.words.now) c.requires.sound in
    let none : c.loop-left.left ≡ 0 = omega arith in
    let rest : k + (m.pages - k) ≡ m.pages = omega (arith, inv.most) in
    sym (inv.end none)
    ∙ sym (end_rest old.table (m.pages - k) k (λ p from lt. none_left old.table m.pages k c.args.used c.loop-left.left p s.table (omega (arith, c.requires.used)) inv.most inv.count none from (omega (arith, lt, rest))))
    ∙ ap (used_end old.table) rest
