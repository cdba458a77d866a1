use Rattle.heap_words.proofs.Contents.{sound-clear_buffer}
use Rattle.heap_words.proofs.block.clear_buffer.Goals as goal

pub returns-clause-sound : goal.returns-clause-sound
returns-clause-sound g c = rw (c.set.ensures.words, c.block.ensures) (sound-clear_buffer c.args.map (g.W.Words.words c.args.words.now) c.args.thread c.requires.thread c.requires.sound)
