use Rattle.std.proofs.Common.{ap, ◌∙◌}
use Rattle.std.specs.List.{sum_by}
use Rattle.yak_model.specs.Lawful.{control_words}
use Rattle.yak_model.specs.Machine.{control_size}
use Rattle.yak_model.proofs.Words.{control_sum}
use Rattle.yak_model.proofs.space_state.SpaceState.control_words.Goals as goal

pub returns-clause-words : goal.returns-clause-words
returns-clause-words c =
    c.words_in_control.ensures.words
    ∙ ap (sum_by (control_size c.self.inside.graph)) c.deref.ensures.value
    ∙ control_sum c.self.inside.graph c.self.inside.homes.items c.self.invariant
    ∙ ap control_words c.self.view_is
