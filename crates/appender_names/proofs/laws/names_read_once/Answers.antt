use Rattle.appender_names.proofs.NameLaws.{read_once}
use Rattle.appender_names.proofs.laws.names_read_once.Goals as goal

pub returns : goal.returns
returns c = read_once
