use Rattle.appender_store.proofs.MemorySoundness.{removed_sound}
use Rattle.appender_store.proofs.store.memory.MemoryFolder.take.Goals as goal

pub invariant_of-self : goal.invariant_of-self
invariant_of-self c = record {
  sound = removed_sound c.args.self.now.there c.args.self.now.bodies c.args.self.now.names c.take_name.new.names c.args.name.now c.args.self.now.sound c.take_name.ensures;
}
