use Rattle.appender_retain.proofs.Standing.{links_stand_aside}
use Rattle.appender_retain.proofs.laws.links_add_none.Goals as goal

pub returns : goal.returns
returns c = links_stand_aside (record { removals = c.names_change_one_at_a_time.ensures.removals; additions = c.names_change_one_at_a_time.ensures.additions })
