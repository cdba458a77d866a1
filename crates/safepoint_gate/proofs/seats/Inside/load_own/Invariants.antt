use Rattle.safepoint_gate.proofs.seats.Inside.load_own.Given as goal

abbrev pub ghosts-meet_with : goal.ghosts-meet_with
ghosts-meet_with a = record { event = a.event }
