use Rattle.heap_core.proofs.TakenOut.{taken_out}
use Rattle.heap_core.proofs.tests.free_without_region.Goals as goal

pub release_space-requires-clause-sound : goal.release_space-requires-clause-sound
release_space-requires-clause-sound c = (taken_out c.map-map.result c.args.core.map c.into_words-image.result c.args.core.words c.map-map.ensures c.into_words-image.ensures c.args.core.own c.args.core.stands).0
