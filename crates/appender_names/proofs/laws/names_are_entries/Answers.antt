use Rattle.appender_names.proofs.Entries.{entries}
use Rattle.appender_names.proofs.laws.names_are_entries.Goals as goal

pub returns : goal.returns
returns c = entries
