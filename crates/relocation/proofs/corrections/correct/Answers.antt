use Rattle.std.proofs.Common.{◌≡◌, sym, ◌∙◌, set, get_or}
use Rattle.relocation.specs.Moves.{scratch_of, move_at, corrected_word}
use Rattle.yak_model.specs.Plans.{forward}
use Rattle.relocation.proofs.Corrected.{value-written, field-written, slot-written}
use Rattle.relocation.proofs.corrections.correct.Goals as goal

pub corrected-new-requires-clause-reference : goal.corrected-new-requires-clause-reference
corrected-new-requires-clause-reference g c a e = c.requires.reference a (sym c.get-word.ensures.value ∙ e)

pub returns-clause-value : goal.returns-clause-value
returns-clause-value g c at d e =
    let m = c.args.map in
    let was = g.W.Words.words c.args.words.now in
    let f = forward c.args.plan.now.count (move_at (scratch_of m was)) in
    let written : g.W.Words.words c.set.new.self ≡ set was c.args.word_at (corrected_word f (get_or was c.args.word_at 0)) = rw (c.set.ensures.words, c.corrected-new.ensures.words, c.corrected-new.ensures.word, c.get-word.ensures.words, c.get-word.ensures.value) in
    value-written was _ c.args.word_at f at d c.requires.place.1 written e

pub returns-clause-field : goal.returns-clause-field
returns-clause-field g c a within place =
    let m = c.args.map in
    let was = g.W.Words.words c.args.words.now in
    let f = forward c.args.plan.now.count (move_at (scratch_of m was)) in
    let written : g.W.Words.words c.set.new.self ≡ set was c.args.word_at (corrected_word f (get_or was c.args.word_at 0)) = rw (c.set.ensures.words, c.corrected-new.ensures.words, c.corrected-new.ensures.word, c.get-word.ensures.words, c.get-word.ensures.value) in
    field-written m was _ c.args.word_at f a c.requires.sound within place written

pub returns-clause-slot : goal.returns-clause-slot
returns-clause-slot g c t k thread within place =
    let m = c.args.map in
    let was = g.W.Words.words c.args.words.now in
    let f = forward c.args.plan.now.count (move_at (scratch_of m was)) in
    let written : g.W.Words.words c.set.new.self ≡ set was c.args.word_at (corrected_word f (get_or was c.args.word_at 0)) = rw (c.set.ensures.words, c.corrected-new.ensures.words, c.corrected-new.ensures.word, c.get-word.ensures.words, c.get-word.ensures.value) in
    slot-written m was _ c.args.word_at f t k c.requires.sound thread within place written
