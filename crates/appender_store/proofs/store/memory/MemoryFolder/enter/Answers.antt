use Rattle.appender_store.specs.Inside.Entries.{entry_of}
use Rattle.appender_store.proofs.MemorySoundness.{entered_sound}
use Rattle.appender_store.proofs.store.memory.MemoryFolder.enter.Goals as goal

pub invariant_of-self-2 : goal.invariant_of-self-2
invariant_of-self-2 c = record {
  sound = entered_sound c.args.self.now.there c.args.self.now.bodies c.args.self.now.names c.put_item.new.names c.args.name.now c.args.self.now.sound (entry_of c.args.item) c.requires c.in_ok-put_item.ensures.ok;
}
