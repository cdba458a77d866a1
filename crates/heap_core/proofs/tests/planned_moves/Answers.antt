use Rattle.heap_core.proofs.TakenOut.{recorded_in, taken_out}
use Rattle.heap_core.proofs.tests.planned_moves.Goals as goal

pub depth-requires-clause-sound : goal.depth-requires-clause-sound
depth-requires-clause-sound c = (taken_out c.map-map.result c.args.core.map c.into_words-image.result c.args.core.words c.map-map.ensures c.into_words-image.ensures c.args.core.own c.args.core.stands).0

pub plan_end-requires-clause-sound : goal.plan_end-requires-clause-sound
plan_end-requires-clause-sound c =
    rw c.depth.ensures.words (taken_out c.map-map.result c.args.core.map c.into_words-image.result c.args.core.words c.map-map.ensures c.into_words-image.ensures c.args.core.own c.args.core.stands).0

pub plan_end-requires-clause-recorded : goal.plan_end-requires-clause-recorded
plan_end-requires-clause-recorded c =
    rw c.depth.ensures.words (recorded_in c.map-map.result c.args.core.map c.into_words-image.result c.args.core.words c.map-map.ensures c.into_words-image.ensures c.args.core.own c.args.core.stands)
