use Rattle.std.proofs.Common.{ap, sym, ◌∙◌, subst}
use Rattle.std.proofs.Math.Logic.{∥∥₁_elim, ∥∥₁_map}
use Rattle.std.proofs.Props.{props}
use Rattle.heap_words.specs.Map.{IsAreas}
use Rattle.heap_words.specs.Contents.{contents}
use Rattle.region_pages.proofs.Shapes.{shape}
use Rattle.yak_model.specs.Recorded.{SomeRecorded}
use Rattle.heap_core.proofs.Filling.{mark-within}
use Rattle.heap_core.proofs.Sound.{sound-from}
use Rattle.heap_core.proofs.Weights.{words-used}
use Rattle.heap_core.proofs.owned.Core.present_words.Goals as goal

pub words_in_use-requires-clause-sound : goal.words_in_use-requires-clause-sound
words_in_use-requires-clause-sound g c =
    let core = c.args.self.now in
    let areas : IsAreas core.map = rw core.own (g.met.W.Words.within_limits core.words) in
    sound-from core.map (g.W.Words.words core.words) areas (rw core.own (g.met.W.Words.whole core.words)) (∥∥₁_map core.stands (λ q. (q.0, q.1)))

pub words_in_use-requires-clause-marks : goal.words_in_use-requires-clause-marks
words_in_use-requires-clause-marks g c = λ p lt.
    let core = c.args.self.now in
    ∥∥₁_elim core.stands (hlevel props) (λ q. mark-within core.map (contents core.map (g.W.Words.words core.words)) q.0 q.1 p lt)

pub invariant_of-self : goal.invariant_of-self
invariant_of-self g c = record {
  own = c.args.self.now.own ∙ ap g.W.Words.map (sym c.words_in_use.ensures.base);
  stands = subst (λ ws. SomeRecorded c.args.self.now.map (contents c.args.self.now.map ws)) (sym c.words_in_use.ensures.words) c.args.self.now.stands;
}

pub returns-clause-present : goal.returns-clause-present
returns-clause-present g c = λ s h.
    let core = c.args.self.now in
    let areas : IsAreas core.map = rw core.own (g.met.W.Words.within_limits core.words) in
    let sound = sound-from core.map (g.W.Words.words core.words) areas (rw core.own (g.met.W.Words.whole core.words)) (∥∥₁_map core.stands (λ q. (q.0, q.1))) in
    c.words_in_use.ensures.used ∙ sym (words-used core.map (contents core.map (g.W.Words.words core.words)) s h (shape core.map (g.W.Words.words core.words) sound).table)
