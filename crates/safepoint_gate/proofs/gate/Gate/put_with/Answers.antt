use Rattle.std.proofs.Common.{rules, ◌∙◌, ◌≡◌, ap, sym, subst, arith}
use Rattle.heap_words.specs.declared.map.Areas.{Areas}
use Rattle.heap_words.specs.Map.{total_of}
use Rattle.safepoint_gate.specs.Singles.{actor}
use Rattle.std.proofs.Common.{Some}
use Rattle.object_layout.specs.declared.calls.Event.{Event}
use Rattle.calls_in_flight.specs.OwnStores.{MayStore}
use Rattle.safepoint_gate.proofs.Plays.{puts_with_keeps}
use Rattle.safepoint_gate.proofs.Ranges.{has_actor, store_within}
use Rattle.safepoint_gate.proofs.gate.Gate.put_with.Goals as goal

pub store-requires : goal.store-requires
store-requires g c =
    let gate = c.args.self.now in
    let v = c.args.seat.now.me.0 in
    let map : v.map ≡ gate.table.shared.key = c.requires.gate.1 ∙ sym gate.keyed in
    let words : total_of v.map ≡ gate.table.shared.table_id.words = ap (λ (m : Areas). total_of m) c.requires.gate.1 ∙ sym gate.wide in
    let may = subst (λ (e : Event). MayStore v.map (actor v) c.args.at c.args.word (Some e)) (sym c.requires.picked) c.requires.own in
    let within = store_within v.map (actor v) c.args.at c.args.word (Some g.E.Adds.event) (has_actor v.map v.own v.lasting c.requires.threaded) may in
    (search rules, omega (arith, within.1, words), puts_with_keeps gate.table.shared.key _ _ _ _ v _ g.E.Adds.event map c.requires.inside c.requires.single may)
