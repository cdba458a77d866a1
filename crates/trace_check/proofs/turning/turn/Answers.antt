use Rattle.std.proofs.Common.{◌≡◌, IfOk, false, sym, subst}
use Rattle.yak_model.specs.Machine.{CanTurn}
use Rattle.trace_check.specs.declared.traces.Step.{Step}
use Rattle.trace_check.specs.Steps.{entry_of}
use Rattle.trace_check.proofs.turning.turn.Goals as goal

pub returns-in-Said-clause-denied : goal.returns-in-Said-clause-denied
returns-in-Said-clause-denied c =
    subst (λ (step : Step). IfOk c.turn_call.result (λ done. done ≡ false → CanTurn c.args.spaces.now (entry_of step) → ⊥)) (sym c.in-Said.is) c.turn_call.ensures.denied
