use Rattle.std.proofs.Common.{◌≤◌, ◌↔◌, ℕ, ◌+◌, ◌*◌, IsTrue, leb, subst, sym, arith, rules}
use Rattle.std.proofs.lemmas.Grind.{common_steps}
use Rattle.heap_words.specs.Map.{page_words}
use Rattle.heap_words.specs.Contents.{contents}
use Rattle.yak_model.specs.Stands.{pages_of}
use Rattle.region_pages.specs.Counts.{HalfUsed}
use Rattle.region_pages.proofs.Shapes.{Shape, shape}
use Rattle.region_pages.proofs.Counting.{used_is}
use Rattle.region_pages.proofs.counts.packed.Goals as goal

pub returns-clause-packed : goal.returns-clause-packed
returns-clause-packed g c = λ objects places work h.
    let m = c.args.map in
    let x = c.args.space in
    let old = contents m (g.W.Words.words c.args.words.now) in
    let s : Shape m old = shape m (g.W.Words.words c.args.words.now) c.requires.sound in
    let half : IsTrue (leb (c.from-page.result * c.from-pages.result) (2 * c.used_in-used.result + c.from-page.result)) ↔ HalfUsed m old.table x = first_of (search rules, grind (arith, common_steps)) in
    let P : ℕ → Type 0 = λ w. page_words m * pages_of old.table x ≤ 2 * w + page_words m in
    let used = used_is m old.table old.heap objects places work x s.table h in
    (λ t. subst P used (half.0 t), λ t. half.1 (subst P (sym used) t))
