use Rattle.appender_rolling.proofs.rolling.shared_roller.SharedRoller.flush.Goals as goal

pub returns : goal.returns
returns g c = record {
  found = c.lock.result.value;
  left = c.flush.new.self;
  holds = rw (← c.deref_mut.ensures.value) (c.flush.ensures c.args.self.now.schedule);
}
