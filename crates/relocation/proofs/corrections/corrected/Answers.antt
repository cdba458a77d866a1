use Rattle.std.proofs.Common.{◌+◌, ◌*◌, arith, sym, ap, ◌∙◌}
use Rattle.relocation.specs.Moves.{scratch_of, move_at}
use Rattle.yak_model.specs.Plans.{forward}
use Rattle.relocation.proofs.Corrected.{corrected-other, corrected-reference}
use Rattle.relocation.proofs.corrections.corrected.Goals as goal

pub returns-in_default-clause-word : goal.returns-in_default-clause-word
returns-in_default-clause-word g c =
    let m = c.args.map in
    let was = g.W.Words.words c.args.words.now in
    sym (corrected-other (forward c.args.plan.now.count (move_at (scratch_of m was))) c.args.word (λ a e. let near = c.requires.reference a e in c.in_default.ensures a (omega (arith, near, c.requires.sound.areas)) e))

pub new_place-new-requires-clause-within : goal.new_place-new-requires-clause-within
new_place-new-requires-clause-within g c = c.requires.reference c.in-Some.a c.in-Some.ensures

pub returns-clause-word : goal.returns-clause-word
returns-clause-word g c =
    let m = c.args.map in
    let was = g.W.Words.words c.args.words.now in
    c.encode_value.ensures.word ∙ ap (λ n. 2 * (n + 1)) c.new_place-new.ensures.place ∙ sym (corrected-reference (forward c.args.plan.now.count (move_at (scratch_of m was))) c.args.word c.in-Some.a c.in-Some.ensures)
