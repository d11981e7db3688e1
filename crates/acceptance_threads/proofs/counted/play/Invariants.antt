use Rattle.acceptance_threads.proofs.counted.play.Given as goal

abbrev pub ghosts-start-A-Ledger : goal.ghosts-start-A-Ledger
ghosts-start-A-Ledger g a = record { name = a.blanks.accepted.name; parts = a.blanks.accepted.parts }

abbrev pub ghosts-start-H-Ledger : goal.ghosts-start-H-Ledger
ghosts-start-H-Ledger g a = record { name = a.blanks.handed.name; parts = a.blanks.handed.parts }

abbrev pub ghosts-start-S-Ledger : goal.ghosts-start-S-Ledger
ghosts-start-S-Ledger g a = record { name = a.blanks.shutdowns.name; parts = a.blanks.shutdowns.parts }

abbrev pub ghosts-start-C-Ledger : goal.ghosts-start-C-Ledger
ghosts-start-C-Ledger g a = record { name = a.blanks.closings.name; parts = a.blanks.closings.parts }
