use Rattle.heap_words.specs.Contents.{contents}
use Rattle.standing_calls.proofs.Told.{currents-told, inner-is_own, inner-is_space, pool-told, table-told}
use Rattle.heap_core.proofs.objects.new_place.Goals as goal

pub place-requires-clause-space : goal.place-requires-clause-space
place-requires-clause-space g c = rw c.inner-space.ensures.inner (inner-is_space c.args.map c.args.thread c.get_depth.result c.requires.thread c.get_depth.ensures.at_most)

pub place-requires-clause-own : goal.place-requires-clause-own
place-requires-clause-own g c = rw c.inner-space.ensures.inner (inner-is_own c.args.thread c.get_depth.result)

pub place-requires-clause-table : goal.place-requires-clause-table
place-requires-clause-table g c = rw c.get_depth.ensures.words (table-told c.args.map (contents c.args.map (g.W.Words.words c.args.words.now)) c.requires.sound.areas c.requires.stands)

pub place-requires-clause-pool : goal.place-requires-clause-pool
place-requires-clause-pool g c = rw c.get_depth.ensures.words (pool-told c.args.map (contents c.args.map (g.W.Words.words c.args.words.now)) c.requires.stands)

pub place-requires-clause-currents : goal.place-requires-clause-currents
place-requires-clause-currents g c = rw c.get_depth.ensures.words (currents-told c.args.map (contents c.args.map (g.W.Words.words c.args.words.now)) c.requires.stands)
