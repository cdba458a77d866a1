use Rattle.std.proofs.Common.{inl, inr}
use Rattle.heap_words.specs.Contents.{contents}
use Rattle.standing_calls.proofs.Loads.{alone}
use Rattle.heap_core.proofs.barriers.space_entered.Goals as goal

pub returns-then-map-eq1-clause-space : goal.returns-then-map-eq1-clause-space
returns-then-map-eq1-clause-space g c s h v =
    inr ((λ other. let e = other.2 in cc), λ other. alone c.args.map (contents c.args.map (g.W.Words.words c.args.words.now)) s h c.args.thread v.value c.requires.thread c.requires.sound.areas c.if-map-eq1.true v.fits other)

pub returns-clause-space : goal.returns-clause-space
returns-clause-space g c s h v = inl (c.space_of_word.ensures.space s h v)
