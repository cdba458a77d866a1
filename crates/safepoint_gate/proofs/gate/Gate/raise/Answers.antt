use Rattle.std.proofs.Common.{rules, ◌∙◌, ◌≡◌, ◌<◌, ap, sym, arith}
use Rattle.heap_words.specs.declared.map.Areas.{Areas}
use Rattle.heap_words.specs.Map.{total_of}
use Rattle.region_pages.specs.declared.TheConstants.{CLAIM_COUNTER}
use Rattle.safepoint_gate.proofs.Plays.{claims_keeps}
use Rattle.safepoint_gate.proofs.gate.Gate.raise.Goals as goal

pub fetch_add-requires : goal.fetch_add-requires
fetch_add-requires c =
    let gate = c.args.self.now in
    let v = c.args.seat.now.me.0 in
    let map : v.map ≡ gate.table.shared.key = c.requires.gate.1 ∙ sym gate.keyed in
    let words : total_of v.map ≡ gate.table.shared.table_id.words = ap (λ (m : Areas). total_of m) c.requires.gate.1 ∙ sym gate.wide in
    let within : CLAIM_COUNTER < total_of v.map = omega arith in
    (search rules, omega (arith, within, words), claims_keeps gate.table.shared.key _ _ v _ map c.requires.inside c.requires.single c.requires.found)
