use Rattle.heap_tables.proofs.Effects.{is_shown_int}
use Rattle.heap_tables.proofs.steps.slot_is.Goals as goal

pub returns-clause-answer : goal.returns-clause-answer
returns-clause-answer g c =
    let same = is_shown_int _ _ c.args.n (c.get-shown.ensures.shown c.requires.slot) in
    (λ h. same.0 (c.is_int.ensures.0 h), λ e. c.is_int.ensures.1 (same.1 e))
