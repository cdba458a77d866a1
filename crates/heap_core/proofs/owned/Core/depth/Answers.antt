use Rattle.std.proofs.Common.{ap, sym, ◌∙◌, subst}
use Rattle.std.proofs.Math.Logic.{∥∥₁_map}
use Rattle.heap_words.specs.Map.{IsAreas}
use Rattle.heap_words.specs.Contents.{contents}
use Rattle.yak_model.specs.Recorded.{SomeRecorded}
use Rattle.heap_core.proofs.Sound.{sound-from}
use Rattle.heap_core.proofs.owned.Core.depth.Goals as goal

pub get_depth-requires-clause-sound : goal.get_depth-requires-clause-sound
get_depth-requires-clause-sound g c =
    let core = c.args.self.now in
    let areas : IsAreas core.map = rw core.own (g.met.W.Words.within_limits core.words) in
    sound-from core.map (g.W.Words.words core.words) areas (rw core.own (g.met.W.Words.whole core.words)) (∥∥₁_map core.stands (λ q. (q.0, q.1)))

pub invariant_of-self : goal.invariant_of-self
invariant_of-self g c = record {
  own = c.args.self.now.own ∙ ap g.W.Words.map (sym c.get_depth.ensures.base);
  stands = subst (λ ws. SomeRecorded c.args.self.now.map (contents c.args.self.now.map ws)) (sym c.get_depth.ensures.words) c.args.self.now.stands;
}
