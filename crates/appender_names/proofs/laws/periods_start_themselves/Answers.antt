use Rattle.appender_names.proofs.NameLaws.{starts_itself}
use Rattle.appender_names.proofs.laws.periods_start_themselves.Goals as goal

pub returns : goal.returns
returns c = starts_itself
