use Rattle.std.proofs.Common.{rules, ◌∙◌, ◌≡◌, ap, sym, arith}
use Rattle.heap_words.specs.declared.map.Areas.{Areas}
use Rattle.heap_words.specs.Map.{total_of}
use Rattle.safepoint_gate.specs.Singles.{actor}
use Rattle.safepoint_gate.proofs.Plays.{meets_keeps}
use Rattle.safepoint_gate.proofs.Ranges.{has_actor, meet_within}
use Rattle.safepoint_gate.proofs.gate.Gate.meet.Goals as goal

pub load-requires : goal.load-requires
load-requires c =
    let gate = c.args.self.now in
    let v = c.args.seat.now.me.0 in
    let map : v.map ≡ gate.table.shared.key = c.requires.gate.1 ∙ sym gate.keyed in
    let within = meet_within v.map (actor v) c.args.at (has_actor v.map v.own v.lasting c.requires.threaded) c.requires.place in
    let words : total_of v.map ≡ gate.table.shared.table_id.words = ap (λ (m : Areas). total_of m) c.requires.gate.1 ∙ sym gate.wide in
    (search rules, omega (arith, within.1, words), meets_keeps gate.table.shared.key _ _ _ v _ map c.requires.inside c.requires.single c.requires.place)
