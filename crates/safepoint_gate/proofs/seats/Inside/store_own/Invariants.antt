use Rattle.safepoint_gate.proofs.seats.Inside.store_own.Given as goal

abbrev pub ghosts-put_with : goal.ghosts-put_with
ghosts-put_with a = record { event = a.event }
