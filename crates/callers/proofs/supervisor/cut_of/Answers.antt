use Rattle.callers.proofs.Copies.{takes_whole, takes_part}
use Rattle.callers.proofs.supervisor.cut_of.Goals as goal

pub returns-in-Ok-clause-cut : goal.returns-in-Ok-clause-cut
returns-in-Ok-clause-cut g c = takes_whole c.args.line.now _ _ c.in-Ok.ensures.ok

pub returns-in-Err-clause-cut : goal.returns-in-Err-clause-cut
returns-in-Err-clause-cut g c = takes_part c.args.line.now c.in-Err.field-0.taken _ _ c.in-Err.ensures.fault.0 c.in-Err.ensures.fault.1
