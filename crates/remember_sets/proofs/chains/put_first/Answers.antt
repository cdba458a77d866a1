use Rattle.std.proofs.Common.{◌≡◌, ◌+◌, [], ◌∷◌, ap, ◌∙◌}
use Rattle.heap_words.specs.declared.map.Areas.{Areas}
use Rattle.heap_words.specs.Contents.{Contents, contents}
use Rattle.epoch_lattice.specs.declared.Space.{Space}
use Rattle.yak_model.specs.Chains.{IsRegionOf, next_to}
use Rattle.remember_sets.specs.Filed.{chain}
use Rattle.remember_sets.proofs.chains.put_first.Given as given
use Rattle.remember_sets.proofs.chains.put_first.Goals as goal

put : (g : given.Over) (c : goal.After-put_between g) → (let m = c.args.map in let d = contents m (g.W.Words.words c.args.words.now) in let e = contents m (g.W.Words.words c.put_between.new.words) in (chain m e c.args.region ≡ c.args.slot.0 ∷ chain m d c.args.region) × ((y : Space) → IsRegionOf m y → (y ≡ c.args.region → ⊥) → chain m e y ≡ chain m d y))
put g c =
    let m : Areas = c.args.map in
    let d : Contents = contents m (g.W.Words.words c.args.words.now) in
    let e : Contents = contents m (g.W.Words.words c.put_between.new.words) in
    let was : contents m (g.W.Words.words c.head-first.new.words) ≡ d = ap (contents m) c.head-first.ensures.words in
    let next : c.head-first.result + 1 ≡ next_to (chain m d c.args.region) = ap (λ n. n + 1) (c.head-first.ensures.head ∙ c.requires.sets.heads c.args.region c.requires.region) in
    let p = c.put_between.ensures.put c.args.region [] (chain m d c.args.region) c.requires.region (ap (λ (k : Contents). chain m k c.args.region) was) (c.from.ensures ∙ c.index_of.ensures.index) next in
    (p.0, λ y r n. p.1 y r n ∙ ap (λ (k : Contents). chain m k y) was)

pub returns-clause-here : goal.returns-clause-here
returns-clause-here g c = (put g c).0

pub returns-clause-elsewhere : goal.returns-clause-elsewhere
returns-clause-elsewhere g c y r n = (put g c).1 y r n
