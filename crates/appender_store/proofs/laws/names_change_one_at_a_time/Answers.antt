use Rattle.appender_store.proofs.NameLaws.{removals, additions}
use Rattle.appender_store.proofs.laws.names_change_one_at_a_time.Goals as goal

pub returns-clause-removals : goal.returns-clause-removals
returns-clause-removals c = removals

pub returns-clause-additions : goal.returns-clause-additions
returns-clause-additions c = additions
