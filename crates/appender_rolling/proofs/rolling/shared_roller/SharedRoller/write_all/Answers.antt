use Rattle.appender_rolling.proofs.rolling.shared_roller.SharedRoller.write_all.Goals as goal

pub returns-clause-appends : goal.returns-clause-appends
returns-clause-appends g c = record {
  found = c.lock.result.value;
  left = c.write_all.new.self;
  holds = rw (← c.deref_mut.ensures.value) (c.write_all.ensures c.args.self.now.schedule);
}
