use Rattle.safepoint_gate.proofs.closing.Closed.open.Given as goal

abbrev pub ghosts-unbar_with : goal.ghosts-unbar_with
ghosts-unbar_with a = record { event = a.event }
