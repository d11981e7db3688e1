use Rattle.appender_retain.proofs.ByName.{keys_rise as rise}
use Rattle.appender_retain.proofs.laws.keys_rise.Goals as goal

pub returns : goal.returns
returns c = rise
