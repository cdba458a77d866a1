use Rattle.std.proofs.Math.Logic.{∥∥₁_map}
use Rattle.heap_words.specs.Contents.{contents}
use Rattle.standing_calls.proofs.Homes.{no_slot_home, slot_value}
use Rattle.heap_core.proofs.barriers.space_of_slot.Goals as goal

pub space_of_word-requires-clause-value : goal.space_of_word-requires-clause-value
space_of_word-requires-clause-value g c =
    let old = contents c.args.map (g.W.Words.words c.args.words.now) in
    rw c.slot.ensures.words (∥∥₁_map c.requires.stands (λ q. (q.0, q.1, slot_value c.args.map old q.0 q.1 c.args.thread c.args.s c.in-Ok.word c.in-Ok.ensures.slot.1)))

pub returns-in-Ok-clause-space : goal.returns-in-Ok-clause-space
returns-in-Ok-clause-space g c state h =
    let old = contents c.args.map (g.W.Words.words c.args.words.now) in
    let told = rw c.slot.ensures.words at c.space_of_word.ensures.space in
    told state h (slot_value c.args.map old state h c.args.thread c.args.s c.in-Ok.word c.in-Ok.ensures.slot.1)

pub returns-in-Err-clause-space : goal.returns-in-Err-clause-space
returns-in-Err-clause-space g c state h =
    no_slot_home c.args.map (contents c.args.map (g.W.Words.words c.args.words.now)) state h c.args.thread c.args.s c.in-Err.ensures.slot
