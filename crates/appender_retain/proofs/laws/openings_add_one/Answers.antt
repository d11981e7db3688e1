use Rattle.appender_retain.proofs.Standing.{openings_stand_one}
use Rattle.appender_retain.proofs.laws.openings_add_one.Goals as goal

pub returns : goal.returns
returns c = openings_stand_one (record { removals = c.names_change_one_at_a_time.ensures.removals; additions = c.names_change_one_at_a_time.ensures.additions })
