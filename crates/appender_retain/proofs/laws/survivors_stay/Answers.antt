use Rattle.appender_retain.proofs.Same.{survivors_stay as stay}
use Rattle.appender_retain.proofs.laws.survivors_stay.Goals as goal

pub returns : goal.returns
returns c = stay (record { removals = c.names_change_one_at_a_time.ensures.removals; additions = c.names_change_one_at_a_time.ensures.additions })
