use Rattle.heap_words.proofs.Contents.{stack_of-length_word, stack_of-fits}
use Rattle.heap_words.proofs.block.stack_length.Goals as goal

pub returns-clause-at_most : goal.returns-clause-at_most
returns-clause-at_most g c =
    let m = c.args.map in
    let ws = g.W.Words.words c.args.words.now in
    rw (c.get.ensures.value, c.block.ensures, stack_of-length_word m ws c.args.thread c.requires.thread c.requires.sound) (stack_of-fits m ws c.args.thread c.requires.thread c.requires.sound)
