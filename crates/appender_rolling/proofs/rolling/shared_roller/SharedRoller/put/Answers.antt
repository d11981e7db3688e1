use Rattle.std.proofs.Common.{w64, FitsSigned}
use Rattle.std.proofs.lemmas.Int.{to_z-of_z}
use Rattle.appender_rolling.specs.Roller.{rolling_of}
use Rattle.appender_rolling.proofs.rolling.shared_roller.SharedRoller.put.Goals as goal

pub returns : goal.returns
returns g c =
    let fits : FitsSigned w64 c.args.moment = c.ranges.moment in (
      c.check_clock.result,
      record {
        found = c.get_mut-log.result.now;
        left = c.write.new.self;
        holds = record {
          between = rolling_of c.check_clock.new.self c.check_clock.new.log;
          looks = simp to_z-of_z at c.check_clock.ensures;
          writes = c.write.ensures.writes c.check_clock.new.self;
        };
      },
    )
