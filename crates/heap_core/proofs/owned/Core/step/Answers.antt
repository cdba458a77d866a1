use Rattle.std.proofs.Common.{sym, ◌∙◌, ap, subst}
use Rattle.std.proofs.Math.Logic.{∥∥₁_map}
use Rattle.heap_words.specs.Map.{IsAreas}
use Rattle.heap_words.specs.Contents.{contents}
use Rattle.object_layout.specs.declared.calls.Call.{Call}
use Rattle.yak_model.specs.Continued.{PacksControl}
use Rattle.heap_core.proofs.Bounds.{every-region}
use Rattle.heap_core.proofs.Recognized.{recorded-told}
use Rattle.heap_core.proofs.Sound.{sound-from}
use Rattle.heap_core.proofs.owned.Core.step.Goals as goal

pub answer-requires-clause-sound : goal.answer-requires-clause-sound
answer-requires-clause-sound g c =
    let core = c.args.self.now in
    let areas : IsAreas core.map = rw core.own (g.met.W.Words.within_limits core.words) in
    sound-from core.map (g.W.Words.words core.words) areas (rw core.own (g.met.W.Words.whole core.words)) (∥∥₁_map core.stands (λ q. (q.0, q.1)))

pub invariant_of-self : goal.invariant_of-self
invariant_of-self g c = record {
  own = c.args.self.now.own ∙ ap g.W.Words.map (sym c.answer.ensures.base);
  stands = ∥∥₁_map c.args.self.now.stands (λ p. let q = c.answer.ensures.done.turns p.0 p.1 p.2 in (q.0, q.2, q.3 p.2));
}

pub returns-clause-done : goal.returns-clause-done
returns-clause-done g c = c.answer.ensures.done

pub returns-clause-turns : goal.returns-clause-turns
returns-clause-turns g c =
    let core = c.args.self.now in
    λ s h. c.answer.ensures.done.turns s h (recorded-told core.map (contents core.map (g.W.Words.words core.words)) core.stands s h)

pub returns-clause-lawful : goal.returns-clause-lawful
returns-clause-lawful g c = c.answer.ensures.done.lawful

pub returns-clause-collected : goal.returns-clause-collected
returns-clause-collected g c =
    let core = c.args.self.now in
    λ s h. c.answer.ensures.done.collected s h (recorded-told core.map (contents core.map (g.W.Words.words core.words)) core.stands s h)

pub returns-clause-full : goal.returns-clause-full
returns-clause-full g c = c.answer.ensures.done.full

pub returns-clause-filled : goal.returns-clause-filled
returns-clause-filled g c = c.answer.ensures.done.filled

pub returns-clause-shortage : goal.returns-clause-shortage
returns-clause-shortage g c =
    let core = c.args.self.now in
    λ s h. c.answer.ensures.done.shortage s h (recorded-told core.map (contents core.map (g.W.Words.words core.words)) core.stands s h)

pub returns-clause-ended : goal.returns-clause-ended
returns-clause-ended g c = c.answer.ensures.done.ended

pub returns-clause-census : goal.returns-clause-census
returns-clause-census g c = c.answer.ensures.done.counts

pub returns-clause-packed : goal.returns-clause-packed
returns-clause-packed g c =
    let core = c.args.self.now in
    λ asked s h. subst (λ (x : Call). PacksControl core.map (contents core.map (g.W.Words.words c.answer.new.words)) s h x) asked (c.answer.ensures.done.packed s h)

pub returns-clause-records : goal.returns-clause-records
returns-clause-records g c =
    let core = c.args.self.now in
    λ s h. c.answer.ensures.done.records s h (recorded-told core.map (contents core.map (g.W.Words.words core.words)) core.stands s h)

pub returns-clause-idle : goal.returns-clause-idle
returns-clause-idle g c = c.answer.ensures.done.idle

pub returns-clause-regions : goal.returns-clause-regions
returns-clause-regions g c = let core = c.args.self.now in every-region core.map (contents core.map (g.W.Words.words c.answer.new.words))

pub returns-clause-room : goal.returns-clause-room
returns-clause-room g c = c.answer.ensures.done.room

pub returns-clause-reads : goal.returns-clause-reads
returns-clause-reads g c =
    let core = c.args.self.now in
    λ s h. c.answer.ensures.reads s h (recorded-told core.map (contents core.map (g.W.Words.words core.words)) core.stands s h)
