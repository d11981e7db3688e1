use Rattle.appender_store.proofs.MemoryEntryLemmas.{one_removed}
use Rattle.appender_store.proofs.store.entries.take_name.Goals as goal

pub returns : goal.returns
returns c = one_removed c.args.names.now c.remove.new.self c.args.name.now c.remove.ensures.updates
