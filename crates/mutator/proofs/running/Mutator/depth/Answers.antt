use Rattle.std.proofs.Common.{◌≡◌, ◌∙◌, sym, ap, subst, arith}
use Rattle.std.specs.Prelude.{None, Option}
use Rattle.calls_in_flight.specs.Steps.{depth_at}
use Rattle.safepoint_gate.specs.declared.seats.Inside.{Inside}
use Rattle.safepoint_gate.specs.Singles.{IsQuiet, Loaded}
use Rattle.safepoint_gate.specs.Steps.{first_thread}
use Rattle.mutator.specs.Callers.{first_told}
use Rattle.mutator.specs.Running.{IsOfHeap, view_in}
use Rattle.mutator.proofs.Meanwhile.{depth_loaded}
use Rattle.mutator.proofs.running.Mutator.depth.Goals as goal

pub overflow_cast-result : goal.overflow_cast-result
overflow_cast-result c =
    let inside = c.in-Some.inside in
    let v = inside.seat.me.0 in
    let heap = subst (IsOfHeap c.args.heap.now) c.in-Some.is c.requires.heap in
    let quiet : IsQuiet v = subst (λ (x : Option Inside). IsQuiet (view_in x)) c.in-Some.is c.args.self.now.quiet in
    let at : c.depth_place-at.result ≡ depth_at v.map (first_thread v.own) = c.depth_place-at.ensures ∙ (λ i. depth_at ((c.map.ensures ∙ sym heap.1) i) ((c.thread.ensures ∙ sym inside.numbered) i)) in
    let known = depth_loaded v c.load_own.new.self.seat.me.0 c.load_own.result inside.single quiet (subst (λ p. Loaded v p None c.load_own.result c.load_own.new.self.seat.me.0) at c.load_own.ensures.loaded) in
    let few = known.1 in
    omega (arith, few)

pub returns-clause-depth : goal.returns-clause-depth
returns-clause-depth c =
    let inside = c.in-Some.inside in
    let v = inside.seat.me.0 in
    let heap = subst (IsOfHeap c.args.heap.now) c.in-Some.is c.requires.heap in
    let quiet : IsQuiet v = subst (λ (x : Option Inside). IsQuiet (view_in x)) c.in-Some.is c.args.self.now.quiet in
    let at : c.depth_place-at.result ≡ depth_at v.map (first_thread v.own) = c.depth_place-at.ensures ∙ (λ i. depth_at ((c.map.ensures ∙ sym heap.1) i) ((c.thread.ensures ∙ sym inside.numbered) i)) in
    let known = depth_loaded v c.load_own.new.self.seat.me.0 c.load_own.result inside.single quiet (subst (λ p. Loaded v p None c.load_own.result c.load_own.new.self.seat.me.0) at c.load_own.ensures.loaded) in
    known.0 ∙ ap (λ (x : Option Inside). (first_told (view_in x).own).depth) (sym c.in-Some.is)
