use Rattle.std.proofs.Common.{w64, FitsSigned}
use Rattle.std.proofs.lemmas.Int.{to_z-of_z}
use Rattle.appender_rolling.proofs.Fullness.{looks_now}
use Rattle.appender_rolling.proofs.rolling.appender.RollingFileAppenderMakeWriter.make_writer.Goals as goal

pub returns-in-Some-lock_unless_due-clause-looks : goal.returns-in-Some-lock_unless_due-clause-looks
returns-in-Some-lock_unless_due-clause-looks g c =
    let fits : FitsSigned w64 c.now-moment.result = record { sfits = c.now-moment.type_inv } in
    let asks = simp to_z-of_z at c.in-Some-lock_unless_due.ensures in
    rw (← c.self.view_is) (looks_now g.S.Folder g.C.Clock c.self.inside.clock c.now-moment.result c.in-Some-lock_unless_due.roller.value.schedule c.now-moment.ensures asks)
