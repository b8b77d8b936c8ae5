use Rattle.trials.proofs.load.run_load.Given as goal

abbrev pub ghosts-load_named-L-Ledger : goal.ghosts-load_named-L-Ledger
ghosts-load_named-L-Ledger g a = record { name = a.blank.name; parts = a.blank.parts }

abbrev pub ghosts-load_named-L-StoreName : goal.ghosts-load_named-L-StoreName
ghosts-load_named-L-StoreName g a = record { seats = a.load.clients; first = a.cluster }
