use Rattle.rolltee_core.proofs.Outcome.{ok_gives, err_gives}
use Rattle.rolltee_core.proofs.Taken.{flush_passes, gathers_passes, loses_one}
use Rattle.rolltee_core.proofs.writers.gather.Goals as goal

pub returns-then-is_err-clause-lost : goal.returns-then-is_err-clause-lost
returns-then-is_err-clause-lost g c =
    err_gives c.write-taken.result (λ lost none. loses_one lost.1 ((flush_passes c.flush.ensures.empties).before none)) c.write-taken.ensures.err

pub returns-else-is_err-clause-passes : goal.returns-else-is_err-clause-passes
returns-else-is_err-clause-passes g c = ok_gives c.write-taken.result (λ n gathered. gathers_passes gathered.1) c.write-taken.ensures.ok
