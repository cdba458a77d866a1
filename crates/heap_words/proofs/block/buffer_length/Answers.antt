use Rattle.heap_words.proofs.Contents.{buffer_of-length_word, buffer_of-fits}
use Rattle.heap_words.proofs.block.buffer_length.Goals as goal

pub returns-clause-at_most : goal.returns-clause-at_most
returns-clause-at_most g c =
    let m = c.args.map in
    let ws = g.W.Words.words c.args.words.now in
    rw (c.get.ensures.value, c.block.ensures, buffer_of-length_word m ws c.args.thread c.requires.thread c.requires.sound) (buffer_of-fits m ws c.args.thread c.requires.thread c.requires.sound)
