use Rattle.std.proofs.Common.{◌≡◌, ap, sym, subst, ◌∙◌}
use Rattle.heap_words.specs.declared.map.Areas.{Areas}
use Rattle.heap_words.specs.Contents.{contents}
use Rattle.yak_model.specs.Recorded.{StandsRecorded}
use Rattle.yak_model.specs.Graph.{standard_limits}
use Rattle.yak_model.specs.Spaces.{opening_spaces}
use Rattle.heap_core.proofs.owned.Core+Image.new.Goals as goal

pub invariant_of-result : goal.invariant_of-result
invariant_of-result c = record {
  own = c.map-map.ensures ∙ sym c.open_words.ensures.base;
  stands = ∣ (opening_spaces standard_limits c.map-map.result.threads, c.open_words.ensures.stands.0, c.open_words.ensures.stands.1) ∣₁;
}

pub returns-clause-opening : goal.returns-clause-opening
returns-clause-opening c =
    let e : c.map-map.result.threads ≡ c.args.threads = ap (λ (m : Areas). m.threads) (c.map-map.ensures ∙ c.in_ok-words.ensures.map) in
    subst (λ n. StandsRecorded c.map-map.result (contents c.map-map.result c.open_words.new.words.words.items) (opening_spaces standard_limits n)) e c.open_words.ensures.stands
