use Rattle.appender_rolling.specs.Roller.{Flushes, rolling_of}
use Rattle.appender_rolling.proofs.rolling.Roller.flush.Goals as goal

pub returns : goal.returns
returns g c =
    let schedule = c.self.inside.schedule in
    let flushes : Flushes g.S.Folder c.flush.result (rolling_of schedule c.self.inside.log) (rolling_of schedule c.flush.new.self) = c.flush.ensures schedule in
    rw (← c.self.view_is) (record {
      call = flushes;
      content = flushes.content;
      stays = flushes.stays;
    })
