use Rattle.heap_tables.proofs.Effects.{is_shown_null}
use Rattle.heap_tables.proofs.steps.slot_is_null.Goals as goal

pub returns-clause-answer : goal.returns-clause-answer
returns-clause-answer g c =
    let same = is_shown_null _ _ (c.get-shown.ensures.shown c.requires.slot) in
    (λ h. same.0 (c.is_null.ensures.0 h), λ e. c.is_null.ensures.1 (same.1 e))
