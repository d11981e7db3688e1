use Rattle.std.proofs.Common.{map, slice_index}
use Rattle.appender_non_blocking.proofs.non_blocking.builder.NonBlockingBuilder.run_lines.Given as goal

abbrev pub ghosts-run_by-S-Ledger : goal.ghosts-run_by-S-Ledger
ghosts-run_by-S-Ledger g a = record { name = a.blanks.shutdowns.name; parts = a.blanks.shutdowns.parts }

abbrev pub ghosts-run_by-C-Ledger : goal.ghosts-run_by-C-Ledger
ghosts-run_by-C-Ledger g a = record { name = a.blanks.closings.name; parts = a.blanks.closings.parts }

abbrev pub ghosts-run_by-L-Histories : goal.ghosts-run_by-L-Histories
ghosts-run_by-L-Histories g a = record { name = λ place. slice_index (map (λ b. b.name) a.blanks.histories.items) place }

abbrev pub ghosts-run_by-L-QueueHistories : goal.ghosts-run_by-L-QueueHistories
ghosts-run_by-L-QueueHistories g a = record { senders = 1 }

-- the contents of the writer before the run
abbrev pub ghosts-run_by-L-RunNames : goal.ghosts-run_by-L-RunNames
ghosts-run_by-L-RunNames g a = record { first = g.W.Write.contents a.writer }
