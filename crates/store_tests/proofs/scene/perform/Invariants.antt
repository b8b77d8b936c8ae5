use Rattle.store_tests.proofs.scene.perform.Given as goal

abbrev pub ghosts-perform_named-L-Ledger : goal.ghosts-perform_named-L-Ledger
ghosts-perform_named-L-Ledger g a = record { name = a.blank.name; parts = a.blank.parts }

abbrev pub ghosts-perform_named-L-StoreName : goal.ghosts-perform_named-L-StoreName
ghosts-perform_named-L-StoreName g a = record { seats = a.play.seats; first = a.cluster }
