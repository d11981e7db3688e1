use Rattle.std.proofs.Common.{length}
use Rattle.appender_names.proofs.archive.+ending_dot.Given as goal

abbrev pub decreases-ending_dot : goal.decreases-ending_dot
decreases-ending_dot l = length l.name.now
