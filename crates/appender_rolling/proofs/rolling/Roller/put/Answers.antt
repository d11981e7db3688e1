use Rattle.std.proofs.Common.{w64, FitsSigned}
use Rattle.std.proofs.lemmas.Int.{to_z-of_z}
use Rattle.appender_rolling.proofs.Callers.{none_of_put, attempt_of_put, opened_of_put, failed_of_put, boundary_of_put}
use Rattle.appender_rolling.specs.Roller.{Puts, rolling_of}
use Rattle.appender_rolling.proofs.rolling.Roller.put.Goals as goal

pub returns : goal.returns
returns g c =
    let fits : FitsSigned w64 c.args.moment = c.ranges.moment in
    let switch = c.check_clock-switch.result in
    let answer = c.write-written.result in
    let old = rolling_of c.self.inside.schedule c.self.inside.log in
    let new = rolling_of c.check_clock-switch.new.self c.write-written.new.self in
    let puts : Puts g.S.Folder c.args.moment c.args.bytes.now switch answer old new = record {
      between = rolling_of c.check_clock-switch.new.self c.check_clock-switch.new.log;
      looks = simp to_z-of_z at c.check_clock-switch.ensures;
      writes = c.write-written.ensures.writes c.check_clock-switch.new.self;
    } in
    rw (← c.self.view_is) (record {
      call = puts;
      none = none_of_put g.S.Folder c.args.moment c.args.bytes.now answer old new switch puts;
      attempt = attempt_of_put g.S.Folder c.args.moment c.args.bytes.now answer old new switch puts;
      opened = opened_of_put g.S.Folder c.args.moment c.args.bytes.now answer old new switch puts;
      failed = failed_of_put g.S.Folder c.args.moment c.args.bytes.now answer old new switch puts;
      boundary = boundary_of_put g.S.Folder c.args.moment c.args.bytes.now answer old new switch puts;
      taken = puts.writes.bound;
      there = c.write-written.ensures.there;
    })
