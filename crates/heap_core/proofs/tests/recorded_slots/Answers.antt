use Rattle.std.proofs.Common.{◌≡◌, ℕ, subst, arith}
use Rattle.std.specs.List.{Contains}
use Rattle.std.proofs.lemmas.List.Elements.{Contains-get_or}
use Rattle.heap_words.specs.Contents.{contents}
use Rattle.epoch_lattice.specs.declared.Space.TheVariants.{Region}
use Rattle.remember_sets.specs.Filed.{chain}
use Rattle.heap_core.proofs.TakenOut.{taken_out}
use Rattle.heap_core.proofs.tests.recorded_slots.Goals as goal

pub file_logs-requires-clause-sound : goal.file_logs-requires-clause-sound
file_logs-requires-clause-sound c = (taken_out c.map-map.result c.args.core.map c.into_words-image.result c.args.core.words c.map-map.ensures c.into_words-image.ensures c.args.core.own c.args.core.stands).0

pub file_logs-requires-clause-sets : goal.file_logs-requires-clause-sets
file_logs-requires-clause-sets c = (taken_out c.map-map.result c.args.core.map c.into_words-image.result c.args.core.words c.map-map.ensures c.into_words-image.ensures c.args.core.own c.args.core.stands).1.0

pub file_logs-requires-clause-buffers : goal.file_logs-requires-clause-buffers
file_logs-requires-clause-buffers c = (taken_out c.map-map.result c.args.core.map c.into_words-image.result c.args.core.words c.map-map.ensures c.into_words-image.ensures c.args.core.own c.args.core.stands).1.1

pub file_logs-requires-clause-pages : goal.file_logs-requires-clause-pages
file_logs-requires-clause-pages c = (taken_out c.map-map.result c.args.core.map c.into_words-image.result c.args.core.words c.map-map.ensures c.into_words-image.ensures c.args.core.own c.args.core.stands).1.2

pub next_slot-requires-clause-filed : goal.next_slot-requires-clause-filed
next_slot-requires-clause-filed c =
    let m = c.map-map.result in
    let areas = c.file_logs.ensures.sound.areas in
    let slots = chain m (contents m c.file_logs.new.words.words.items) (Region 1 1) in
    let first = c.in-Some.ensures.first in
    rw c.first_slot.ensures.words (Region 1 1, (omega arith, omega (arith, areas), omega arith, omega arith), subst (λ (a : ℕ). Contains slots a) first.1 (Contains-get_or slots 0 0 first.0))
