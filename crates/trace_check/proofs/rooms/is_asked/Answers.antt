use Rattle.std.proofs.Common.{[], ◌∷◌, sym, subst}
use Rattle.std.specs.Prelude.{MatchBool}
use Rattle.yak_model.specs.Lawful.{EndsAsked}
use Rattle.trace_check.specs.declared.traces.Step.{Step}
use Rattle.trace_check.specs.Steps.{entry_of}
use Rattle.trace_check.proofs.Ends.{asked_by}
use Rattle.trace_check.proofs.rooms.is_asked.Goals as goal

pub returns-in-Said : goal.returns-in-Said
returns-in-Said c =
    subst (λ (step : Step). MatchBool c.is_collected.result (EndsAsked (entry_of step ∷ [])) (EndsAsked (entry_of step ∷ []) → ⊥)) (sym c.in-Said.is)
    (asked_by c.is_collected.result c.in-Said.field-0 c.in-Said.call c.in-Said.reply c.is_collected.ensures)
