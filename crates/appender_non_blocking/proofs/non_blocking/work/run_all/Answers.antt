use Rattle.std.proofs.Common.{rules, arith}
use Rattle.appender_non_blocking.proofs.Jobs.{all_did}
use Rattle.appender_non_blocking.proofs.non_blocking.work.run_all.Goals as goal

-- the jobs are in the reverse order
pub returns-clause-each : goal.returns-clause-each
returns-clause-each g c =
    all_did g.K.CountedWork.does g.L.LineSender.sent c.pair-senders.result.2.items c.run_jobs-jobs.result.items c.args.senders.items c.part.result.0.items c.args.works.items c.part.result.1.items c.pair-senders.ensures.senders c.pair-senders.ensures.works c.part.ensures.senders c.part.ensures.works (search (rules, arith, c.run_jobs-jobs.ensures.long)) c.run_jobs-jobs.ensures.each
