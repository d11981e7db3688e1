use Rattle.acceptance_schedules.proofs.counted.run.Given as goal

abbrev pub ghosts-play-A-Ledger : goal.ghosts-play-A-Ledger
ghosts-play-A-Ledger g a = record { name = a.blanks.accepted.name; parts = a.blanks.accepted.parts }

abbrev pub ghosts-play-H-Ledger : goal.ghosts-play-H-Ledger
ghosts-play-H-Ledger g a = record { name = a.blanks.handed.name; parts = a.blanks.handed.parts }

abbrev pub ghosts-play-S-Ledger : goal.ghosts-play-S-Ledger
ghosts-play-S-Ledger g a = record { name = a.blanks.shutdowns.name; parts = a.blanks.shutdowns.parts }

abbrev pub ghosts-play-C-Ledger : goal.ghosts-play-C-Ledger
ghosts-play-C-Ledger g a = record { name = a.blanks.closings.name; parts = a.blanks.closings.parts }
