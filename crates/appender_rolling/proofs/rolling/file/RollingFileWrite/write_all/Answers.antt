use Rattle.std.proofs.Common.{w64, FitsSigned, refl}
use Rattle.std.proofs.lemmas.Int.{to_z-of_z}
use Rattle.appender_rolling.proofs.rolling.file.RollingFileWrite.write_all.Goals as goal

pub returns-clause-appends : goal.returns-clause-appends
returns-clause-appends g c =
    let fits : FitsSigned w64 c.now-moment.result = record { sfits = c.now-moment.type_inv } in
    rw (← c.self.view_is) (record {
      moment = c.now-moment.result;
      reading = c.now-moment.ensures;
      switch = c.check_clock.result;
      between = c.check_clock.new.self;
      looks = simp to_z-of_z at c.check_clock.ensures.call;
      writes = c.write_all.ensures.appends;
      clock = refl;
    })
