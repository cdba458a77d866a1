use Rattle.std.proofs.Common.{get_or, sym, ap, ◌∙◌}
use Rattle.heap_words.proofs.Contents.{stack_of-word}
use Rattle.forwarding.proofs.stacks.correct_slot.Goals as goal

pub correct-requires-clause-reference : goal.correct-requires-clause-reference
correct-requires-clause-reference g c a e =
    let ws = g.W.Words.words c.args.words.now in
    c.requires.lead a (sym (ap (λ i. get_or ws i 0) c.slot_place.ensures ∙ stack_of-word c.args.map ws c.args.thread c.args.slot c.requires.thread c.requires.sound c.requires.within) ∙ e)

pub returns-clause-sound : goal.returns-clause-sound
returns-clause-sound g c = (c.correct.ensures.slot c.args.thread c.args.slot c.requires.thread c.requires.within c.slot_place.ensures).1
