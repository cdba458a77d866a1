use Rattle.std.proofs.Common.{◌≡◌, IfOk, false, sym, subst}
use Rattle.object_layout.specs.declared.calls.Call.{Call}
use Rattle.yak_model.specs.Graph.{Does, Graph}
use Rattle.yak_model.proofs.graph.GraphState.accept.Goals as goal

pub returns-in-New-clause-denied : goal.returns-in-New-clause-denied
returns-in-New-clause-denied c =
    subst (λ (a : Call). IfOk c.accept_new.result (λ done. done ≡ false → ((h : Graph) → Does c.args.self.now c.args.thread a c.args.reply h → ⊥) × (c.accept_new.new.self ≡ c.args.self.now)))
    (sym c.in-New.is) c.accept_new.ensures.denied
