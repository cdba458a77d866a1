use Rattle.heap_tables.proofs.Effects.{is_shown_int}
use Rattle.heap_tables.proofs.steps.field_int.Goals as goal

pub returns-clause-value : goal.returns-clause-value
returns-clause-value g c known name values n k slot bound e =
    c.int_of.ensures n ((is_shown_int _ _ n (c.peek-shown.ensures.shown known name values k slot bound)).1 e)
