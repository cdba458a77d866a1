use Rattle.heap_words.specs.Contents.{contents}
use Rattle.standing_calls.proofs.Steps.{dup_turns, dup_refused}
use Rattle.heap_core.proofs.slots.dup.Goals as goal

pub returns-in-Ok-clause-turns : goal.returns-in-Ok-clause-turns
returns-in-Ok-clause-turns g c =
    let pushed = rw c.slot.ensures.words at c.push_word.ensures.pushed in
    dup_turns c.args.map (contents c.args.map (g.W.Words.words c.args.words.now)) (contents c.args.map (g.W.Words.words c.push_word.new.words)) c.args.thread c.args.s c.in-Ok.word c.push_word.result c.requires.thread c.in-Ok.ensures.slot.0 c.in-Ok.ensures.slot.1 pushed

pub returns-in-Err-clause-turns : goal.returns-in-Err-clause-turns
returns-in-Err-clause-turns g c =
    rw c.slot.ensures.words (dup_refused c.args.map (contents c.args.map (g.W.Words.words c.args.words.now)) c.args.thread c.args.s c.requires.thread c.in-Err.ensures.slot)
