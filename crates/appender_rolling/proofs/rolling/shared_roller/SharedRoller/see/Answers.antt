use Rattle.std.proofs.Common.{w64, FitsSigned}
use Rattle.std.proofs.lemmas.Int.{to_z-of_z}
use Rattle.appender_rolling.proofs.rolling.shared_roller.SharedRoller.see.Goals as goal

pub returns : goal.returns
returns g c =
    let fits : FitsSigned w64 c.args.moment = c.ranges.moment in (
      c.check_clock.result,
      record {
        found = c.get_mut.result.now;
        left = c.check_clock.new.log;
        holds = simp to_z-of_z at c.check_clock.ensures;
      },
    )
