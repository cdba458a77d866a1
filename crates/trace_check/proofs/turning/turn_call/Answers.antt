use Rattle.std.proofs.Common.{◌≡◌, IfOk, false, sym, subst}
use Rattle.object_layout.specs.declared.calls.Call.{Call}
use Rattle.yak_model.specs.declared.history.Entry.TheVariants.{Said}
use Rattle.yak_model.specs.Machine.{CanTurn}
use Rattle.trace_check.proofs.turning.turn_call.Goals as goal

pub returns-in-End-clause-denied : goal.returns-in-End-clause-denied
returns-in-End-clause-denied c =
    subst (λ (asked : Call). IfOk c.turn_end.result (λ done. done ≡ false → CanTurn c.args.spaces.now (Said c.args.thread asked c.args.reply) → ⊥)) (sym c.in-End.is) c.turn_end.ensures.denied

pub returns-in-Collect-clause-denied : goal.returns-in-Collect-clause-denied
returns-in-Collect-clause-denied c =
    subst (λ (asked : Call). IfOk c.turn_collect.result (λ done. done ≡ false → CanTurn c.args.spaces.now (Said c.args.thread asked c.args.reply) → ⊥)) (sym c.in-Collect.is) c.turn_collect.ensures.denied
