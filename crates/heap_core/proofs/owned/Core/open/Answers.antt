use Rattle.std.proofs.Common.{ap, sym, ◌∙◌}
use Rattle.heap_words.specs.Contents.{contents}
use Rattle.yak_model.specs.Graph.{standard_limits}
use Rattle.yak_model.specs.Spaces.{opening_spaces}
use Rattle.heap_core.proofs.Bounds.{every-region}
use Rattle.heap_core.proofs.owned.Core.open.Goals as goal

pub open_words-requires-clause-areas : goal.open_words-requires-clause-areas
open_words-requires-clause-areas g c = rw c.requires.own (g.met.W.Words.within_limits c.args.words)

pub invariant_of-result : goal.invariant_of-result
invariant_of-result g c = record {
  own = c.requires.own ∙ ap g.W.Words.map (sym c.open_words.ensures.base);
  stands = ∣ (opening_spaces standard_limits c.args.map.threads, c.open_words.ensures.stands.0, c.open_words.ensures.stands.1) ∣₁;
}

pub returns-clause-regions : goal.returns-clause-regions
returns-clause-regions g c = every-region c.args.map (contents c.args.map (g.W.Words.words c.open_words.new.words))
