use Rattle.calls_in_flight.specs.OwnStores.{done_by}
use Rattle.safepoint_gate.proofs.seats.Inside.load_field.Given as goal

abbrev pub ghosts-load_with : goal.ghosts-load_with
ghosts-load_with a = record { event = done_by a.call }
