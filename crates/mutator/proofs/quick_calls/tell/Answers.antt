use Rattle.std.proofs.Common.{subst}
use Rattle.std.specs.Prelude.{Some}
use Rattle.object_layout.specs.declared.calls.Event.{Event}
use Rattle.safepoint_gate.specs.Singles.{Loaded}
use Rattle.mutator.proofs.Answering.{answers_by_load}
use Rattle.mutator.proofs.quick_calls.tell.Goals as goal

pub returns-clause-answered : goal.returns-clause-answered
returns-clause-answered c =
    let v = c.args.inside.now.seat.me.0 in
    let w = c.load_own.new.self.seat.me.0 in (
      c.load_own.result,
      answers_by_load v w c.args.at c.load_own.result c.args.call c.args.reply c.requires.event.idle
          (subst (λ (e : Event). Loaded v c.args.at (Some e) c.load_own.result w) c.told.ensures c.load_own.ensures.loaded),
    )
