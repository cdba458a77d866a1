use Rattle.heap_words.specs.Contents.{contents}
use Rattle.standing_calls.proofs.Steps.{int_turns}
use Rattle.heap_core.proofs.slots.int.Goals as goal

pub returns-clause-turns : goal.returns-clause-turns
returns-clause-turns g c =
    int_turns c.args.map (contents c.args.map (g.W.Words.words c.args.words.now)) (contents c.args.map (g.W.Words.words c.push_word.new.words)) c.args.thread c.args.i c.encode_value.result c.push_word.result c.requires.thread c.requires.number c.encode_value.ensures.word c.push_word.ensures.pushed
