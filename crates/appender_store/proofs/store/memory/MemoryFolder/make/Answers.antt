use Rattle.appender_store.proofs.MemorySoundness.{empty_sound}
use Rattle.appender_store.proofs.store.memory.MemoryFolder.make.Goals as goal

pub invariant_of-result : goal.invariant_of-result
invariant_of-result c = record { sound = empty_sound c.args.there c.new.result c.new-2.result c.new-2.ensures.empty }
