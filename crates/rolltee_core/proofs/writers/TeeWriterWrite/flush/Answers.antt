use Rattle.rolltee_core.proofs.Taken.{flush_passes, given_kept}
use Rattle.rolltee_core.proofs.writers.TeeWriterWrite.flush.Goals as goal

pub invariant_of-self : goal.invariant_of-self
invariant_of-self g c none = given_kept c.self.inside.given.lines (flush_passes c.flush.ensures.empties) c.self.invariant none
