use Rattle.std.proofs.Common.{rules, ◌∙◌, ◌≡◌, ap, sym, subst, arith}
use Rattle.heap_words.specs.declared.map.Areas.{Areas}
use Rattle.heap_words.specs.Map.{IsAreas, total_of}
use Rattle.safepoint_gate.proofs.Plays.{loads_pool_keeps}
use Rattle.safepoint_gate.proofs.Ranges.{pool_within}
use Rattle.safepoint_gate.proofs.gate.Gate.meet_pool.Goals as goal

pub load-requires : goal.load-requires
load-requires c =
    let gate = c.args.self.now in
    let v = c.args.seat.now.me.0 in
    let map : v.map ≡ gate.table.shared.key = c.requires.gate.1 ∙ sym gate.keyed in
    let words : total_of v.map ≡ gate.table.shared.table_id.words = ap (λ (m : Areas). total_of m) c.requires.gate.1 ∙ sym gate.wide in
    let areas : IsAreas v.map = subst (λ (m : Areas). IsAreas m) (sym c.requires.gate.1) gate.areas in
    let within = pool_within v.map c.args.at areas c.requires.pool in
    (search rules, omega (arith, within.1, words), loads_pool_keeps gate.table.shared.key _ _ _ v _ map c.requires.inside c.requires.single c.requires.pool)
