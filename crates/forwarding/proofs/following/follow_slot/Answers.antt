use Rattle.std.proofs.Common.{ℕ, List, sym, ap, ◌∙◌}
use Rattle.std.specs.List.{Contains}
use Rattle.std.proofs.lemmas.Bool.{false≢true}
use Rattle.heap_words.specs.declared.map.Areas.{Areas}
use Rattle.heap_words.specs.Contents.{Contents, contents}
use Rattle.remember_sets.specs.Filed.{chain}
use Rattle.remember_sets.proofs.Slots.{moved-none}
use Rattle.forwarding.proofs.following.follow_slot.Goals as goal

pub returns-else-is_filed-clause-moved : goal.returns-else-is_filed-clause-moved
returns-else-is_filed-clause-moved g c x q =
    let m : Areas = c.args.map in
    let was : Contents = contents m (g.W.Words.words c.args.words.now) in
    let none : Contains (chain m was x) c.args.old.0 → ⊥ = λ i. false≢true (sym c.if-is_filed.false ∙ c.is_filed.ensures.filed.1 (x, q, i)) in
    ap (λ (ws : List ℕ). chain m (contents m ws) x) c.is_filed.ensures.words ∙ sym (moved-none c.args.old.0 c.args.new.0 (chain m was x) none)
