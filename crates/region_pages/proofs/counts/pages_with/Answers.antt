use Rattle.std.proofs.Common.{◌≡◌, ◌<◌, ◌==◌, ℕ, List, [], cond, count_by, length, slice_index, ap, ◌∙◌, arith}
use Rattle.std.proofs.lemmas.Bool.Decides.{nat_tests}
use Rattle.std.proofs.lemmas.List.{take_all}
use Rattle.std.proofs.lemmas.List.Sums.{sum_by_more}
use Rattle.heap_words.specs.Contents.{contents}
use Rattle.yak_model.specs.Placed.{space_word}
use Rattle.region_pages.proofs.Shapes.{Shape, shape}
use Rattle.region_pages.proofs.counts.pages_with.Goals as goal
use Rattle.region_pages.proofs.counts.pages_with.Goals.{then-get_page-word, else-get_page-word}

pub loop-page-preserved : goal.loop-page-preserved
loop-page-preserved g c =
    let m = c.args.map in
    let i = c.loop-page.page in
    let old = contents m (g.W.Words.words c.args.words.now) in
    let s : Shape m old = shape m (g.W.Words.words c.args.words.now) c.requires in
    let lt : i < length old.table = omega (arith, s.table) in
    let value : c.get_page.result ≡ space_word old.table i = c.get_page.ensures.value ∙ ap (λ (ws : List ℕ). space_word (contents m ws).table i) c.loop-page.invariant.words in
    let step = sum_by_more (λ (r : List ℕ). cond (slice_index r 0 == c.args.word) 1 0) old.table i [] lt in
    record {
      words = c.get_page.ensures.words ∙ c.loop-page.invariant.words;
      base = c.get_page.ensures.base ∙ c.loop-page.invariant.base;
      reads = omega (arith, c.get_page.ensures.reads, c.loop-page.invariant.reads);
      most = elim c.if-get_page-word.branch [ then-get_page-word w ↦ omega arith | else-get_page-word w ↦ omega arith ];
      count = elim c.if-get_page-word.branch [ then-get_page-word w ↦ grind (arith, nat_tests, step, value) | else-get_page-word w ↦ grind (arith, nat_tests, step, value) ];
    }

pub returns-clause-count : goal.returns-clause-count
returns-clause-count g c =
    let m = c.args.map in
    let old = contents m (g.W.Words.words c.args.words.now) in
    let s : Shape m old = shape m (g.W.Words.words c.args.words.now) c.requires in
    c.loop-page.invariant.count ∙ ap (λ (t : List (List ℕ)). count_by (λ (r : List ℕ). slice_index r 0 == c.args.word) t) (take_all c.loop-page.page old.table (omega (arith, s.table)))
