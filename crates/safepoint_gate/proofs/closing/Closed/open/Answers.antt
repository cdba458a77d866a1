use Rattle.std.proofs.Common.{subst, sym}
use Rattle.safepoint_gate.specs.Singles.{IsQuiet}
use Rattle.safepoint_gate.proofs.Quiet.{rest_first}
use Rattle.safepoint_gate.proofs.closing.Closed.open.Goals.{in-None, in-Some}
use Rattle.safepoint_gate.proofs.closing.Closed.open.Goals as goal

pub returns-clause-quiet : goal.returns-clause-quiet
returns-clause-quiet c = elim c.match-event.branch [
  | in-None w ↦ subst (λ s. IsQuiet s.me.0) (sym w.seat-is) (rest_first w.unbar.new.seat.me.0.own w.unbar.new.seat.me.0.lasting w.unbar.ensures.rests)
  | in-Some w ↦ subst (λ s. IsQuiet s.me.0) (sym w.seat-is) (rest_first w.unbar_with.new.seat.me.0.own w.unbar_with.new.seat.me.0.lasting w.unbar_with.ensures.rests)
]
