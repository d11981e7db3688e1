use Rattle.appender_store.proofs.MemoryCallLemmas.{failing_added}
use Rattle.appender_store.proofs.store.calls.Calls.fail.Goals as goal

pub returns-clause-ok : goal.returns-clause-ok
returns-clause-ok c = failing_added c.args.self.now.failing c.insert.new.self c.args.call c.in_ok-insert.ensures.updates
