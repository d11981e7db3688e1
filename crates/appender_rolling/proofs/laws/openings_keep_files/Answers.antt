use Rattle.appender_rolling.proofs.Kept.{maps, parts_keep}
use Rattle.appender_rolling.proofs.laws.openings_keep_files.Goals as goal

pub returns : goal.returns
returns c = parts_keep (maps c.names_change_one_at_a_time.ensures.removals c.names_change_one_at_a_time.ensures.additions)
