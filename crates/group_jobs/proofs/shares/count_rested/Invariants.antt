use Rattle.group_jobs.proofs.shares.count_rested.Given as goal

abbrev pub ghosts-count_followed : goal.ghosts-count_followed
ghosts-count_followed g a = record { begun = a.resting.away.seat.me.0.own }
