use Rattle.std.proofs.Common.{◌≡◌, ℕ, not, eqb, sym, ap, ◌∙◌}
use Rattle.std.proofs.lemmas.Bool.{eqb-false, ne_eqb, not-true}
use Rattle.heap_words.specs.declared.map.Areas.{Areas}
use Rattle.heap_words.specs.Contents.{Contents, contents}
use Rattle.yak_model.specs.Chains.{next_word}
use Rattle.remember_sets.specs.Filed.{chain}
use Rattle.remember_sets.proofs.Linked.{at-stood}
use Rattle.remember_sets.proofs.Steps.{Found, found, not-filed}
use Rattle.remember_sets.proofs.chains.is_filed.Goals as goal

pub returns-clause-filed : goal.returns-clause-filed
returns-clause-filed g c =
    let m : Areas = c.args.map in
    let d : Contents = contents m (g.W.Words.words c.args.words.now) in
    let a : ℕ = c.args.slot.0 in
    let value : c.get_set.result ≡ next_word d.sets a = c.get_set.ensures.value in (
      λ t.
          let f : Found m d a = found m d a c.requires.sets c.requires.within (λ z. eqb-false c.get_set.result 0 (not-true (eqb c.get_set.result 0) t) (value ∙ z)) in
          (f.region, f.is_region, at-stood m d (chain m d) f.region a f.stood),
      λ f. ap not (ne_eqb c.get_set.result 0 (λ z. not-filed m d a c.requires.sets (sym value ∙ z) f.0 f.1 f.2)),
    )
