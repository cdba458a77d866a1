use Rattle.group_jobs.proofs.shares.read_rested.Given as goal

abbrev pub ghosts-read_followed : goal.ghosts-read_followed
ghosts-read_followed g a = record { begun = a.resting.away.seat.me.0.own }
