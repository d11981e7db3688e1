use Rattle.appender_names.proofs.NameLaws.{reads_as_start}
use Rattle.appender_names.proofs.laws.names_read_as_starts.Goals as goal

pub returns : goal.returns
returns c = reads_as_start
