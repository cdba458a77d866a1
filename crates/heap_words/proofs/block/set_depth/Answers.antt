use Rattle.heap_words.proofs.Contents.{sound-set_depth}
use Rattle.heap_words.proofs.block.set_depth.Goals as goal

pub returns-clause-sound : goal.returns-clause-sound
returns-clause-sound g c = rw (c.set.ensures.words, c.block.ensures, c.from.ensures) (sound-set_depth c.args.map (g.W.Words.words c.args.words.now) c.args.thread c.args.depth c.requires.thread c.requires.sound c.requires.depth)
