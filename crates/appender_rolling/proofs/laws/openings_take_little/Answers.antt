use Rattle.appender_rolling.proofs.Kept.{maps}
use Rattle.appender_rolling.proofs.Limits.{opening_takes_little, refusal_takes_little, refusal_keeps_files, refusal_leaves_names}
use Rattle.appender_rolling.proofs.Refusals.{refuses_little}
use Rattle.appender_rolling.proofs.laws.openings_take_little.Goals as goal

pub returns-clause-opened : goal.returns-clause-opened
returns-clause-opened g c = opening_takes_little (maps c.names_change_one_at_a_time.ensures.removals c.names_change_one_at_a_time.ensures.additions) g.S.Folder

pub returns-clause-refused : goal.returns-clause-refused
returns-clause-refused g c = λ config name old error new refuses is_known.
    refusal_takes_little (maps c.names_change_one_at_a_time.ensures.removals c.names_change_one_at_a_time.ensures.additions) g.S.Folder config name (g.S.Folder.content old) (g.S.Folder.content new) (refuses_little g.S.Folder config name old error new is_known refuses)

pub returns-clause-by_name : goal.returns-clause-by_name
returns-clause-by_name g c = λ config name old error new by_name refuses is_known.
    refusal_keeps_files (maps c.names_change_one_at_a_time.ensures.removals c.names_change_one_at_a_time.ensures.additions) g.S.Folder config name (g.S.Folder.content old) (g.S.Folder.content new) by_name (refuses_little g.S.Folder config name old error new is_known refuses)

pub returns-clause-no_new : goal.returns-clause-no_new
returns-clause-no_new g c = refusal_leaves_names (maps c.names_change_one_at_a_time.ensures.removals c.names_change_one_at_a_time.ensures.additions) g.S.Folder
