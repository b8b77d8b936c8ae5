use Rattle.store_tests.proofs.limits.gives.Given as goal

abbrev pub ghosts-seats_named-L-Ledger : goal.ghosts-seats_named-L-Ledger
ghosts-seats_named-L-Ledger g a = record { name = a.blank.name; parts = a.blank.parts }

abbrev pub ghosts-seats_named-L-StoreName : goal.ghosts-seats_named-L-StoreName
ghosts-seats_named-L-StoreName g a = record { seats = a.seats; first = a.cluster }
