use Rattle.std.proofs.Common.{rules}
use Rattle.std.proofs.Common.{sym, subst, Some}
use Rattle.object_layout.specs.declared.calls.Event.{Event}
use Rattle.safepoint_gate.specs.Steps.{MayOpen}
use Rattle.safepoint_gate.proofs.Events.{opens_with_keeps}
use Rattle.safepoint_gate.proofs.gate.Gate.unbar_with.Goals as goal

pub fetch_and-requires : goal.fetch_and-requires
fetch_and-requires g c =
    let may = subst (λ (e : Event). MayOpen c.args.seat.now.me.0 (Some e)) (sym c.requires.event) c.requires.continues in
    (search rules, search rules, opens_with_keeps _ _ _ _ g.E.Adds.event c.requires.closed c.requires.single may)
