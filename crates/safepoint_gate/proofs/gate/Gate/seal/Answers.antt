use Rattle.std.proofs.Common.{rules, sym, ap, ◌∙◌}
use Rattle.heap_words.specs.declared.map.Areas.{Areas}
use Rattle.safepoint_gate.proofs.Deals.{seals_keeps}
use Rattle.safepoint_gate.proofs.gate.Gate.seal.Goals as goal

pub store-requires : goal.store-requires
store-requires c =
    let gate = c.args.self.now in
    (search rules, search rules, seals_keeps gate.table.shared.key _ _ _ c.requires.away (c.requires.all ∙ ap (λ (m : Areas). m.threads) (sym gate.keyed)))
