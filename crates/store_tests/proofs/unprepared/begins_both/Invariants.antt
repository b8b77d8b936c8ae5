use Rattle.store_tests.proofs.unprepared.begins_both.Given as goal

abbrev pub ghosts-begins_named-L-Ledger : goal.ghosts-begins_named-L-Ledger
ghosts-begins_named-L-Ledger g a = record { name = a.blank.name; parts = a.blank.parts }

abbrev pub ghosts-begins_named-L-StoreName : goal.ghosts-begins_named-L-StoreName
ghosts-begins_named-L-StoreName g a = record { seats = a.seats; first = a.cluster }
