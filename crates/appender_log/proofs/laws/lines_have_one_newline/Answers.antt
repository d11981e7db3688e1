use Rattle.appender_log.proofs.OneLines.{line_has_none, line_at_has_none}
use Rattle.appender_log.proofs.laws.lines_have_one_newline.Goals as goal

pub returns-clause-text : goal.returns-clause-text
returns-clause-text c text = line_has_none text

pub returns-clause-time : goal.returns-clause-time
returns-clause-time c nanos text = line_at_has_none nanos text
