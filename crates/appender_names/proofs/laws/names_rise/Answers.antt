use Rattle.appender_names.proofs.NameLaws.{rise}
use Rattle.appender_names.proofs.laws.names_rise.Goals as goal

pub returns : goal.returns
returns c = rise
