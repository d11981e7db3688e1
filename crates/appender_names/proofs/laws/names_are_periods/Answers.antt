use Rattle.appender_names.proofs.NameLaws.{one_name}
use Rattle.appender_names.proofs.laws.names_are_periods.Goals as goal

pub returns : goal.returns
returns c = one_name
