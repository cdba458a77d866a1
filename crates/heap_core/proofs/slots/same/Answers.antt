use Rattle.std.proofs.Common.{sym, ◌∙◌}
use Rattle.heap_words.specs.Contents.{contents}
use Rattle.standing_calls.proofs.Steps.{same_turns, differ_turns, same_refused, same_refused_too}
use Rattle.heap_core.proofs.slots.same.Goals as goal

pub returns-in_default-clause-turns : goal.returns-in_default-clause-turns
returns-in_default-clause-turns g c =
    rw c.slot.ensures.words (same_refused c.args.map (contents c.args.map (g.W.Words.words c.args.words.now)) c.args.thread c.args.s c.args.x c.requires.thread c.in_default.ensures.slot)

pub returns-in_default-slot-clause-turns : goal.returns-in_default-slot-clause-turns
returns-in_default-slot-clause-turns g c =
    let beyond = rw c.slot.ensures.words at c.in_default-slot.ensures.slot in
    rw (c.slot-2.ensures.words, c.slot.ensures.words) (same_refused_too c.args.map (contents c.args.map (g.W.Words.words c.args.words.now)) c.args.thread c.args.s c.args.x c.requires.thread c.in-Ok.ensures.slot.0 beyond)

pub returns-then-first-second-clause-turns : goal.returns-then-first-second-clause-turns
returns-then-first-second-clause-turns g c =
    let second = rw c.slot.ensures.words at c.in-Ok-slot.ensures.slot in
    rw (c.slot-2.ensures.words, c.slot.ensures.words) (same_turns c.args.map (contents c.args.map (g.W.Words.words c.args.words.now)) c.args.thread c.args.s c.args.x c.requires.thread c.in-Ok.ensures.slot.0 second.0 (sym c.in-Ok.ensures.slot.1 ∙ c.if-first-second.true ∙ second.1))

pub returns-else-first-second-clause-turns : goal.returns-else-first-second-clause-turns
returns-else-first-second-clause-turns g c =
    let second = rw c.slot.ensures.words at c.in-Ok-slot.ensures.slot in
    rw (c.slot-2.ensures.words, c.slot.ensures.words) (differ_turns c.args.map (contents c.args.map (g.W.Words.words c.args.words.now)) c.args.thread c.args.s c.args.x c.requires.thread c.in-Ok.ensures.slot.0 second.0 (λ e. c.if-first-second.false (c.in-Ok.ensures.slot.1 ∙ e ∙ sym second.1)))
