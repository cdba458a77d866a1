use Rattle.calls_in_flight.specs.OwnStores.{done_by}
use Rattle.safepoint_gate.proofs.seats.Inside.store_field.Given as goal

abbrev pub ghosts-store_with : goal.ghosts-store_with
ghosts-store_with a = record { event = done_by a.call }
