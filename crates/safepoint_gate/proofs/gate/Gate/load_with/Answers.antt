use Rattle.std.proofs.Common.{rules, ◌∙◌, ◌≡◌, ◌+◌, ap, sym, arith}
use Rattle.heap_words.specs.declared.map.Areas.{Areas}
use Rattle.heap_words.specs.Map.{total_of}
use Rattle.object_layout.specs.declared.TheConstants.{OBJECT_WORDS}
use Rattle.heap_words.specs.Map.{heap_at}
use Rattle.safepoint_gate.proofs.Plays.{loads_field_keeps}
use Rattle.safepoint_gate.proofs.gate.Gate.load_with.Goals as goal

pub load-requires : goal.load-requires
load-requires g c =
    let gate = c.args.self.now in
    let v = c.args.seat.now.me.0 in
    let map : v.map ≡ gate.table.shared.key = c.requires.gate.1 ∙ sym gate.keyed in
    let words : total_of v.map ≡ gate.table.shared.table_id.words = ap (λ (m : Areas). total_of m) c.requires.gate.1 ∙ sym gate.wide in
    let within = c.requires.field.within in
    let place : c.field-at.result ≡ heap_at v.map + (c.args.object.0 + OBJECT_WORDS + c.args.field) = c.field-at.ensures ∙ ap (λ (m : Areas). heap_at m + (c.args.object.0 + OBJECT_WORDS + c.args.field)) (sym c.requires.gate.1) in
    (search rules, omega (arith, within, words, place), loads_field_keeps gate.table.shared.key _ _ _ v _ _ c.args.call c.args.object.0 c.args.field c.requires.picked map c.requires.inside c.requires.single place c.requires.field)
