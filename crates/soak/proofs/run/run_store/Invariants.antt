use Rattle.soak.proofs.run.run_store.Given as goal

abbrev pub ghosts-soak_named-L-Ledger : goal.ghosts-soak_named-L-Ledger
ghosts-soak_named-L-Ledger g a = record { name = a.blank.name; parts = a.blank.parts }

abbrev pub ghosts-soak_named-L-StoreName : goal.ghosts-soak_named-L-StoreName
ghosts-soak_named-L-StoreName g a = record { seats = a.plan.clients; first = a.cluster }
