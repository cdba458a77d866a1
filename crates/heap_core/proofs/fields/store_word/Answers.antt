use Rattle.heap_words.specs.Contents.{contents}
use Rattle.standing_calls.proofs.Storing.{is_stored}
use Rattle.heap_core.proofs.fields.store_word.Goals as goal

pub returns-clause-stored : goal.returns-clause-stored
returns-clause-stored g c =
    let m = c.args.map in
    is_stored m (contents m (g.W.Words.words c.args.words.now)) (contents m (g.W.Words.words c.record_slot.new.words)) (contents m (g.W.Words.words c.set_heap.new.words)) c.args.thread c.args.slot c.args.word c.args.from c.args.to c.record_slot.ensures.records c.record_slot.ensures.others c.record_slot.ensures.sets c.set_heap.ensures.set
