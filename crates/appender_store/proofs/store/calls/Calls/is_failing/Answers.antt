use Rattle.std.proofs.Common.{◌∙◌, sym}
use Rattle.appender_store.proofs.MemoryCallLemmas.{named_to_fail}
use Rattle.appender_store.proofs.store.calls.Calls.is_failing.Goals as goal

pub returns : goal.returns
returns c = c.contains.ensures ∙ sym (named_to_fail c.args.self.now.failing c.args.self.now.made)
