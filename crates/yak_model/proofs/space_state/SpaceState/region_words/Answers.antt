use Rattle.std.proofs.Common.{ap, ◌∙◌}
use Rattle.std.specs.List.{sum_by}
use Rattle.yak_model.specs.Lawful.{region_words}
use Rattle.yak_model.specs.Machine.{region_size}
use Rattle.yak_model.proofs.Words.{region_sum}
use Rattle.yak_model.proofs.space_state.SpaceState.region_words.Goals as goal

pub returns-clause-words : goal.returns-clause-words
returns-clause-words c =
    c.words_in_regions.ensures.words
    ∙ ap (sum_by (region_size c.self.inside.graph)) c.deref.ensures.value
    ∙ region_sum c.self.inside.graph c.self.inside.homes.items c.self.invariant
    ∙ ap region_words c.self.view_is
