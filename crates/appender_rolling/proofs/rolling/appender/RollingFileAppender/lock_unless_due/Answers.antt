use Rattle.std.proofs.Common.{w64, FitsSigned}
use Rattle.std.proofs.lemmas.Int.{to_z-of_z}
use Rattle.appender_rolling.proofs.rolling.appender.RollingFileAppender.lock_unless_due.Goals as goal

pub returns : goal.returns
returns g c =
    let fits : FitsSigned w64 c.args.moment = c.ranges.moment in (_, _, c.see.ensures.0, simp to_z-of_z at c.see.ensures.1)
