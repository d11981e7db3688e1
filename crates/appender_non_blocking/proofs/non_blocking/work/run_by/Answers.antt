use Rattle.appender_non_blocking.proofs.non_blocking.work.run_by.Goals as goal

pub returns-in-Ok-start-clause-ran : goal.returns-in-Ok-start-clause-ran
returns-in-Ok-start-clause-ran g c = c.run_started.ensures _ _ c.in-Ok-start.ensures c.requires.first
