use Rattle.std.proofs.Common.{◌≡◌, Bool, false, IfOk, subst}
use Rattle.yak_model.specs.History.{Said}
use Rattle.yak_model.specs.Machine.{CanTurn}
use Rattle.yak_model.specs.Spaces.{SpaceState}
use Rattle.yak_model.proofs.Steps.{same_ok}
use Rattle.yak_model.proofs.space_state.SpaceState.call.Goals as goal

pub returns-clause-denied : goal.returns-clause-denied
returns-clause-denied c =
    same_ok (λ (done : Bool). done ≡ false → CanTurn c.args.self.now (Said c.args.thread c.args.call c.args.reply) → ⊥) _ c.make_call.result c.map_err.result c.map_err.ensures.cases c.map_err.ensures.variant
    (subst (λ (s : SpaceState). IfOk c.make_call.result (λ done. done ≡ false → CanTurn s (Said c.args.thread c.args.call c.args.reply) → ⊥)) c.self.view_is c.make_call.ensures.denied)
