use Rattle.appender_rolling.specs.Roller.{Writes, rolling_of}
use Rattle.appender_rolling.proofs.rolling.Roller.write.Goals as goal

pub returns : goal.returns
returns g c =
    let schedule = c.self.inside.schedule in
    let writes : Writes g.S.Folder c.args.bytes.now c.write.result (rolling_of schedule c.self.inside.log) (rolling_of schedule c.write.new.self) = c.write.ensures.writes schedule in
    rw (← c.self.view_is) (record {
      call = writes;
      taken = writes.bound;
      content = writes.content;
      stays = writes.stays;
      there = c.write.ensures.there;
    })
