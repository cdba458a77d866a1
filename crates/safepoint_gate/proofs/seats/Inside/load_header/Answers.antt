use Rattle.std.proofs.Common.{◌≡◌, subst, sym, ap, ◌∙◌, ◌+◌, Some, Option, ℕ}
use Rattle.object_layout.specs.declared.calls.Event.{Event}
use Rattle.heap_words.specs.declared.map.Areas.{Areas}
use Rattle.heap_words.specs.Map.{heap_at}
use Rattle.safepoint_gate.specs.Singles.{Loaded}
use Rattle.safepoint_gate.proofs.seats.Inside.load_header.Goals as goal

pub returns-in-Some-clause-loaded : goal.returns-in-Some-clause-loaded
returns-in-Some-clause-loaded c =
    let v = c.args.self.now.seat.me.0 in
    let w = c.meet_with.new.seat.me.0 in
    let at : c.args.gate.now.map ≡ v.map = sym c.requires.gate.1 in
    let place = c.heap.ensures in
    subst (λ (x : Option Event). Loaded v (heap_at v.map + c.args.object.0) x c.meet_with.result w) (sym c.in-Some.is)
    (subst (λ (n : ℕ). Loaded v n (Some c.in-Some.event) c.meet_with.result w) (ap (λ n. n + c.args.object.0) (place ∙ ap (λ (m : Areas). heap_at m) at)) c.meet_with.ensures.loaded)
