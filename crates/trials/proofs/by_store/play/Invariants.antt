use Rattle.trials.proofs.by_store.play.Given as goal

abbrev pub ghosts-open_and_close-L-Ledger : goal.ghosts-open_and_close-L-Ledger
ghosts-open_and_close-L-Ledger g a = record { name = a.blank.name; parts = a.blank.parts }

abbrev pub ghosts-open_and_close-L-StoreName : goal.ghosts-open_and_close-L-StoreName
ghosts-open_and_close-L-StoreName g a = record { seats = 1; first = a.cluster }
