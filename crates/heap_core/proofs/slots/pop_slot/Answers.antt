use Rattle.heap_words.specs.Contents.{contents}
use Rattle.heap_words.proofs.Contents.{stack_of-fits}
use Rattle.standing_calls.proofs.Steps.{pop_turns, pop_refused}
use Rattle.heap_core.proofs.slots.pop_slot.Goals as goal

pub returns-in-Ok-clause-turns : goal.returns-in-Ok-clause-turns
returns-in-Ok-clause-turns g c =
    let words = g.W.Words.words c.args.words.now in
    let most = stack_of-fits c.args.map words c.args.thread c.requires.thread c.requires.sound in
    pop_turns c.args.map (contents c.args.map words) (contents c.args.map (g.W.Words.words c.drop_top.new.words)) c.args.thread c.requires.thread c.in-Ok.ensures.dropped.0 most c.in-Ok.ensures.dropped.1

pub returns-in-Err-clause-turns : goal.returns-in-Err-clause-turns
returns-in-Err-clause-turns g c =
    rw c.in-Err.ensures.dropped.1 (pop_refused c.args.map (contents c.args.map (g.W.Words.words c.args.words.now)) c.args.thread c.requires.thread c.in-Err.ensures.dropped.0)
