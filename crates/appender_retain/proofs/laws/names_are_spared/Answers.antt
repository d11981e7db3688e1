use Rattle.appender_retain.proofs.ByName.{spared}
use Rattle.appender_retain.proofs.laws.names_are_spared.Goals as goal

pub returns : goal.returns
returns c = spared
