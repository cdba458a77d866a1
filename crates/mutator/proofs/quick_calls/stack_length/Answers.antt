use Rattle.std.proofs.Common.{◌≡◌, ◌∙◌, sym, subst}
use Rattle.std.specs.Prelude.{None}
use Rattle.calls_in_flight.specs.Steps.{length_at}
use Rattle.safepoint_gate.specs.Singles.{Loaded, actor}
use Rattle.mutator.proofs.Answering.{thread_in}
use Rattle.mutator.proofs.Looking.{length_known}
use Rattle.mutator.proofs.quick_calls.stack_length.Goals as goal

pub returns-clause-length : goal.returns-clause-length
returns-clause-length c =
    let v = c.args.inside.now.seat.me.0 in
    let at : c.length_place-at.result ≡ length_at v.map (actor v).thread =
    c.length_place-at.ensures ∙ (λ i. length_at ((c.map.ensures ∙ sym c.requires.gate.1) i) ((c.thread.ensures ∙ sym c.args.inside.now.numbered ∙ thread_in v) i)) in
    length_known v c.load_own.new.self.seat.me.0 c.load_own.result c.args.inside.now.single c.requires.quiet (subst (λ p. Loaded v p None c.load_own.result c.load_own.new.self.seat.me.0) at c.load_own.ensures.loaded)
