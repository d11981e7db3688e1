use Rattle.appender_rolling.proofs.rolling.shared_roller.SharedRoller.write.Goals as goal

pub returns : goal.returns
returns g c = record {
  found = c.lock.result.value;
  left = c.write.new.self;
  holds = rw (← c.deref_mut.ensures.value) (c.write.ensures.writes c.args.self.now.schedule);
}
