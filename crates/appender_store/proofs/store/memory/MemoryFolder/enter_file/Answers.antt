use Rattle.appender_store.proofs.MemorySoundness.{filed_sound}
use Rattle.appender_store.proofs.store.memory.MemoryFolder.enter_file.Goals as goal

pub invariant_of-self-2 : goal.invariant_of-self-2
invariant_of-self-2 c = record {
  sound = filed_sound _ c.args.self.now.bodies c.args.self.now.names c.add_file.new.names c.args.name.now c.args.self.now.sound _ c.add_file.new.bodies _ c.args.self.now.created c.in_ok-body.ensures.body c.in_ok-body.ensures.bodies c.in_ok-body.ensures.names;
}
