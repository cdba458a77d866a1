use Rattle.heap_tables.proofs.Effects.{is_shown_int}
use Rattle.heap_tables.proofs.steps.field_is.Goals as goal

pub returns-clause-answer : goal.returns-clause-answer
returns-clause-answer g c known name values k slot bound =
    let same = is_shown_int _ _ c.args.n (c.peek-shown.ensures.shown known name values k slot bound) in
    (λ h. same.0 (c.is_int.ensures.0 h), λ e. c.is_int.ensures.1 (same.1 e))
