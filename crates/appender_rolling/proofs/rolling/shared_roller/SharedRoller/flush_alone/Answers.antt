use Rattle.appender_rolling.proofs.rolling.shared_roller.SharedRoller.flush_alone.Goals as goal

pub returns-clause-flush : goal.returns-clause-flush
returns-clause-flush g c = record {
  found = c.get_mut.result.now;
  left = c.flush.new.self;
  holds = c.flush.ensures c.args.self.now.schedule;
}
