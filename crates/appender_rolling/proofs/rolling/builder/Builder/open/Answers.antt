use Rattle.std.proofs.Common.{inr}
use Rattle.appender_rolling.proofs.rolling.builder.Builder.open.Goals as goal

pub returns-clause-err : goal.returns-clause-err
returns-clause-err g c = inr (c.in_ok-folder.folder, c.new-clock.result, c.in-Err.field-0-1, c.in-Err.field-0-2, c.in-Err.ensures.err)
