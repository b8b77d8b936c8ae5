use Rattle.trials.proofs.store.play_once.Given as goal

abbrev pub ghosts-play_named-L-Ledger : goal.ghosts-play_named-L-Ledger
ghosts-play_named-L-Ledger g a = record { name = a.blank.name; parts = a.blank.parts }

abbrev pub ghosts-play_named-L-StoreName : goal.ghosts-play_named-L-StoreName
ghosts-play_named-L-StoreName g a = record { seats = 1; first = a.cluster }
